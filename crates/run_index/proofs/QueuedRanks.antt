-- The ranks of queued runs after a change, and the least of them.
use Rattle.std.proofs.Common.{◌≡◌, ℕ, ◌<◌, ◌≤◌, Bool, true, false, cond, nat_lt, min, List, [], ◌∷◌, ◌++◌, length, map, set, Option, Some, None, refl, sym, ap, ◌∙◌, arith}
use Rattle.std.specs.List.{filter, fold, reduce}
use Rattle.std.proofs.lemmas.Bool.{and_parts, cond-true, ltb-true}
use Rattle.std.proofs.lemmas.List.{length-map, map-append, map-set}
use Rattle.first_tree.specs.Ranks.{no_rank, least_rank}
use Rattle.kept_table.specs.Slots.{rows}
use Rattle.batch_model.specs.Finding.{Each}
use Rattle.batch_model.specs.Runs.{is_queued}
use Rattle.batch_model.specs.Variants.{State, RunRow}
use Rattle.run_index.specs.Queued.{queued_numbers, lowest_queued, last_rank, queued_rank_at, AreQueued}
use Rattle.run_index.specs.Seats.{sits_on, is_queued_at}

pub queued_length : (slots : List (Option RunRow)) (ranks : List ℕ) → AreQueued slots ranks → length ranks ≡ length slots
queued_length slots ranks queued = ap length queued ∙ length-map slots queued_rank_at

-- the slot at a place changes
pub queued_set : (slots : List (Option RunRow)) (ranks : List ℕ) (at : ℕ) (slot : Option RunRow) → AreQueued slots ranks
    → AreQueued (set slots at slot) (set ranks at (queued_rank_at slot))
queued_set slots ranks at slot queued = ap (λ (rs : List ℕ). set rs at (queued_rank_at slot)) queued ∙ sym (map-set queued_rank_at slots at slot)

pub queued_push : (slots : List (Option RunRow)) (ranks : List ℕ) (slot : Option RunRow) → AreQueued slots ranks
    → AreQueued (slots ++ slot ∷ []) (ranks ++ queued_rank_at slot ∷ [])
queued_push slots ranks slot queued = ap (λ (rs : List ℕ). rs ++ queued_rank_at slot ∷ []) queued ∙ sym (map-append queued_rank_at slots (slot ∷ []))

least_most : (ranks : List ℕ) → least_rank ranks ≤ no_rank
least_most [] = omega arith
least_most (rank ∷ ranks) = let rest = least_most ranks in omega arith

-- the least of the ranks is that of the numbers of queued runs
least_step : (queued : Bool) (run : RunRow) (runs : List RunRow) (least : ℕ) → run.number < no_rank → least ≡ least_rank (map (λ r. r.number) runs)
    → min (cond queued (min run.number last_rank) no_rank) least ≡ least_rank (map (λ r. r.number) (cond queued (run ∷ runs) runs))
least_step true run runs least below h =
    let number : min run.number last_rank ≡ run.number = omega (arith, below) in
    ap (λ (n : ℕ). min n least) number ∙ ap (min run.number) h
least_step false run runs least below h = let most = least_most (map (λ r. r.number) runs) in omega (arith, h)

least_number : (next : ℕ) (slots : List (Option RunRow)) → next ≤ no_rank → Each (λ run. nat_lt run.number next) (rows slots)
    → least_rank (map queued_rank_at slots) ≡ least_rank (queued_numbers (rows slots))
least_number next [] most h = refl
least_number next (None ∷ slots) most h =
    let rest = least_number next slots most h in let above = least_most (map queued_rank_at slots) in omega (arith, rest, above)
least_number next (Some run ∷ slots) most h =
    let parts = and_parts (nat_lt run.number next) _ h in
    let below = ltb-true run.number next parts.0 in
    least_step (is_queued run.state) run (filter (λ r. is_queued r.state) (rows slots)) (least_rank (map queued_rank_at slots)) (omega (arith, below, most))
    (least_number next slots most parts.1)

-- the least of some numbers, and no rank
least_fold : (number : ℕ) (numbers : List ℕ) → min (fold min number numbers) no_rank ≡ min number (least_rank numbers)
least_fold number [] = refl
least_fold number (next ∷ numbers) = let rest = least_fold (min number next) numbers in omega (arith, rest)

-- the first number is below this one, if there are any
abbrev FirstBelow : ℕ → List ℕ → Type 0
FirstBelow next [] = Unit {0}
FirstBelow next (number ∷ numbers) = number < next

below_step : (queued : Bool) (next : ℕ) (run : RunRow) (runs : List RunRow) → run.number < next → FirstBelow next (map (λ r. r.number) runs)
    → FirstBelow next (map (λ r. r.number) (cond queued (run ∷ runs) runs))
below_step true next run runs here rest = here
below_step false next run runs here rest = rest

first_below : (next : ℕ) (runs : List RunRow) → Each (λ run. nat_lt run.number next) runs → FirstBelow next (queued_numbers runs)
first_below next [] h = tt
first_below next (run ∷ runs) h =
    let parts = and_parts (nat_lt run.number next) _ h in
    below_step (is_queued run.state) next run (filter (λ r. is_queued r.state) runs) (ltb-true run.number next parts.0) (first_below next runs parts.1)

found_in : (numbers : List ℕ) (least next : ℕ) → least ≡ least_rank numbers → next ≤ no_rank → least < next → Some least ≡ reduce min numbers
found_in [] least next is most below = absurd (omega (arith, is, most, below))
found_in (number ∷ numbers) least next is most below =
    let same = least_fold number numbers in
    ap (λ (n : ℕ). Some n) (omega (arith, same, is, most, below))

missed_in : (numbers : List ℕ) (least next : ℕ) → FirstBelow next numbers → least ≡ least_rank numbers → next ≤ least → None ≡ reduce min numbers
missed_in [] least next first is above = refl
missed_in (number ∷ numbers) least next first is above = absurd (omega (arith, first, is, above))

least_queued : (next : ℕ) (slots : List (Option RunRow)) (ranks : List ℕ) → next ≤ no_rank → Each (λ run. nat_lt run.number next) (rows slots) → AreQueued slots ranks
    → least_rank ranks ≡ least_rank (queued_numbers (rows slots))
least_queued next slots ranks most numbered queued = ap least_rank queued ∙ least_number next slots most numbered

-- a least rank below the next number is the least number of a queued run
pub queued_found : (slots : List (Option RunRow)) (ranks : List ℕ) (least next : ℕ) → AreQueued slots ranks → least ≡ least_rank ranks
    → Each (λ run. nat_lt run.number next) (rows slots) → next ≤ no_rank → least < next → Some least ≡ lowest_queued (rows slots)
queued_found slots ranks least next queued is numbered most below =
    found_in (queued_numbers (rows slots)) least next (is ∙ least_queued next slots ranks most numbered queued) most below

-- and if it is not below it, no run is queued
pub queued_missed : (slots : List (Option RunRow)) (ranks : List ℕ) (least next : ℕ) → AreQueued slots ranks → least ≡ least_rank ranks
    → Each (λ run. nat_lt run.number next) (rows slots) → next ≤ no_rank → next ≤ least → None ≡ lowest_queued (rows slots)
queued_missed slots ranks least next queued is numbered most above =
    missed_in (queued_numbers (rows slots)) least next (first_below next (rows slots) numbered) (is ∙ least_queued next slots ranks most numbered queued) above

-- the rank of a queued run is at most the last rank
pub queued_reached : (s : State) (seat : ℕ) (run : RunRow) → is_queued_at s seat run ≡ true → queued_rank_at (Some run) ≤ last_rank
queued_reached s seat run h =
    let parts = and_parts (is_queued run.state) (sits_on s seat run.node) h in
    let e : queued_rank_at (Some run) ≡ min run.number last_rank = cond-true (is_queued run.state) (min run.number last_rank) no_rank parts.0 in
    omega (arith, e)
