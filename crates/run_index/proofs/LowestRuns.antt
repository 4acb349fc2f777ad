-- The lowest queued run is kept by going once over the runs.
use Rattle.std.proofs.Common.{◌≡◌, ℕ, true, false, List, [], ◌∷◌, Option, Some, None, cond, filter, refl, sym, ◌∙◌, ap, nat_lt, arith}
use Rattle.std.proofs.lemmas.Bool.Decides.{nat_tests}
use Rattle.batch_model.specs.Finding.{best}
use Rattle.batch_model.specs.Variants.{State, RunRow}
use Rattle.model_lists.proofs.BestRows.{leading, best_first_row, leading_joined}
use Rattle.run_index.specs.Seats.{is_queued_at, is_lower}
use Rattle.run_index.specs.Lowest.{lower_of, lowest_run_from}

-- the lower of two runs is the leading one
same_leading : (a b : Option RunRow) → lower_of a b ≡ leading is_lower a b
same_leading None b = refl
same_leading (Some a) None = refl
same_leading (Some a) (Some b) = refl

below_all : (x y z : ℕ) → nat_lt y x ≡ true → nat_lt z y ≡ true → nat_lt z x ≡ true
below_all x y z h k = grind (arith, nat_tests)

not_below_all : (x y z : ℕ) → nat_lt y x ≡ false → nat_lt z y ≡ false → nat_lt z x ≡ false
not_below_all x y z h k = grind (arith, nat_tests)

-- of three runs, the lower of two may be taken first
lower_in_turn : (a b c : Option RunRow) → lower_of a (lower_of b c) ≡ lower_of (lower_of a b) c
lower_in_turn a b c =
    same_leading a (lower_of b c)
    ∙ ap (leading is_lower a) (same_leading b c)
    ∙ sym (leading_joined is_lower (λ x y z. below_all x.number y.number z.number) (λ x y z. not_below_all x.number y.number z.number) a b c)
    ∙ sym (ap (λ o. leading is_lower o c) (same_leading a b))
    ∙ sym (same_leading (lower_of a b) c)

none_later : (o : Option RunRow) → lower_of o None ≡ o
none_later None = refl
none_later (Some run) = refl

-- the lowest so far is the lowest once no run is left
pub none_left : (s : State) (seat : ℕ) (so_far : Option RunRow) → lowest_run_from s seat so_far [] ≡ so_far
none_left s seat so_far = none_later so_far

-- a run that is queued at the seat counts
pub counted : (s : State) (seat : ℕ) (so_far : Option RunRow) (run : RunRow) (rest : List RunRow) → is_queued_at s seat run ≡ true →
    lowest_run_from s seat (lower_of so_far (Some run)) rest ≡ lowest_run_from s seat so_far (run ∷ rest)
counted s seat so_far run rest h =
    sym
    (ap (λ b. lower_of so_far (best is_lower (cond b (run ∷ filter (is_queued_at s seat) rest) (filter (is_queued_at s seat) rest)))) h
    ∙ ap (lower_of so_far) (best_first run (filter (is_queued_at s seat) rest))
    ∙ lower_in_turn so_far (Some run) (best is_lower (filter (is_queued_at s seat) rest)))
  where
    best_first : (first : RunRow) (runs : List RunRow) → best is_lower (first ∷ runs) ≡ lower_of (Some first) (best is_lower runs)
    best_first first runs = best_first_row is_lower first runs ∙ sym (same_leading (Some first) (best is_lower runs))

-- any other changes nothing
pub passed_over : (s : State) (seat : ℕ) (so_far : Option RunRow) (run : RunRow) (rest : List RunRow) → is_queued_at s seat run ≡ false →
    lowest_run_from s seat so_far rest ≡ lowest_run_from s seat so_far (run ∷ rest)
passed_over s seat so_far run rest h =
    ap (λ b. lower_of so_far (best is_lower (cond b (run ∷ filter (is_queued_at s seat) rest) (filter (is_queued_at s seat) rest)))) (sym h)
