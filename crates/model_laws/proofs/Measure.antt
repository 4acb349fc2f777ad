-- A due step lowers the rank.
use Rattle.std.proofs.Common.{◌≡◌, ℕ, Bool, true, ◌&&◌, ◌||◌, nat_eq, nat_lt, List, [], ◌∷◌, Some, length, refl, ◌∙◌, ap}
use Rattle.bt_base.proofs.Turns.{lex_lt}
use Rattle.batch_model.specs.Dues.{due_step}
use Rattle.batch_model.specs.Measure.{rank}
use Rattle.batch_model.specs.Sound.{IsSound}
use Rattle.batch_model.specs.Steps.{DueStep}
use Rattle.batch_model.specs.Variants.{State}
use Rattle.model_rules.proofs.DueSound.{falls_by_due}
use Rattle.model_laws.specs.Measure.{comes_below}

-- the order of the lists is that in which no list can fall for ever
below_is : (ys xs : List ℕ) → comes_below ys xs ≡ lex_lt ys xs
unfolding lex_lt
below_is [] xs = refl
below_is (y ∷ ys) [] = refl
below_is (y ∷ ys) (x ∷ xs) = ap (λ (b : Bool). (nat_lt y x && nat_eq (length ys) (length xs)) || (nat_eq y x && b)) (below_is ys xs)

pub rank_falls : (seats : ℕ) (s : State) (step : DueStep) → IsSound seats s → due_step seats s ≡ Some step → comes_below (rank step.state) (rank s) ≡ true
rank_falls seats s step h e = below_is (rank step.state) (rank s) ∙ falls_by_due seats s step h e
