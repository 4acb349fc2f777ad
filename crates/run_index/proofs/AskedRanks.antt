-- The ranks of taken runs that are asked to stop after a change, and the numbers of these runs.
use Rattle.std.proofs.Common.{◌≡◌, ℕ, ◌≤◌, true, false, cond, List, [], ◌∷◌, ◌++◌, length, map, filter, set, Option, Some, sym, ap, ◌∙◌, append_assoc, arith}
use Rattle.std.proofs.lemmas.Bool.{cond-true}
use Rattle.std.proofs.lemmas.List.{length-map, map-append, map-set}
use Rattle.first_tree.specs.Ranks.{no_rank}
use Rattle.batch_model.specs.Variants.{RunRow}
use Rattle.run_index.specs.Asked.{asked_rank_at, AreAsked}
use Rattle.run_index.specs.Seats.{is_asked, asked_of}

pub asked_length : (slots : List (Option RunRow)) (ranks : List ℕ) → AreAsked slots ranks → length ranks ≡ length slots
asked_length slots ranks asked = ap length asked ∙ length-map slots asked_rank_at

-- the slot at a place changes
pub asked_set : (slots : List (Option RunRow)) (ranks : List ℕ) (at : ℕ) (slot : Option RunRow) → AreAsked slots ranks
    → AreAsked (set slots at slot) (set ranks at (asked_rank_at slot))
asked_set slots ranks at slot asked = ap (λ (rs : List ℕ). set rs at (asked_rank_at slot)) asked ∙ sym (map-set asked_rank_at slots at slot)

pub asked_push : (slots : List (Option RunRow)) (ranks : List ℕ) (slot : Option RunRow) → AreAsked slots ranks
    → AreAsked (slots ++ slot ∷ []) (ranks ++ asked_rank_at slot ∷ [])
asked_push slots ranks slot asked = ap (λ (rs : List ℕ). rs ++ asked_rank_at slot ∷ []) asked ∙ sym (map-append asked_rank_at slots (slot ∷ []))

-- the rank of such a run is 0
pub asked_reached : (run : RunRow) → is_asked run ≡ true → asked_rank_at (Some run) ≤ 0
asked_reached run h = let e : asked_rank_at (Some run) ≡ 0 = cond-true (is_asked run) 0 no_rank h in omega (arith, e)

-- a run that is asked to stop is listed
pub listed : (numbers : List ℕ) (run : RunRow) (rest : List RunRow) → is_asked run ≡ true →
    (numbers ++ run.number ∷ []) ++ asked_of rest ≡ numbers ++ asked_of (run ∷ rest)
listed numbers run rest h =
    append_assoc numbers (run.number ∷ []) (asked_of rest)
    ∙ ap (λ b. numbers ++ map (λ (one : RunRow). one.number) (cond b (run ∷ filter is_asked rest) (filter is_asked rest))) (sym h)

-- any other changes nothing
pub passed_over : (numbers : List ℕ) (run : RunRow) (rest : List RunRow) → is_asked run ≡ false → numbers ++ asked_of rest ≡ numbers ++ asked_of (run ∷ rest)
passed_over numbers run rest h =
    ap (λ b. numbers ++ map (λ (one : RunRow). one.number) (cond b (run ∷ filter is_asked rest) (filter is_asked rest))) (sym h)
