-- Sums of doubles.
use Rattle.std.proofs.Common.{◌≡◌, ℕ, ◌+◌, ◌<◌, List, length, drop, get_or, arith, ap, sym, ◌∙◌}
use Rattle.std.specs.Prelude.{ℤ, ◌+ℤ◌}
use Rattle.std.proofs.lemmas.Int.{ints}
use Rattle.std.proofs.lemmas.List.{at_drop_more}
use Rattle.formula_values.specs.Functions.{total}

-- the sum so far and what is left, with one item more
pub total_more : (xs : List ℤ) (i : ℕ) (x sum now all : ℤ) → i < length xs → x ≡ get_or xs i x → now ≡ sum +ℤ x → sum +ℤ total (drop i xs) ≡ all →
    now +ℤ total (drop (i + 1) xs) ≡ all
total_more xs i x sum now all h e n so_far =
    let more : total (drop i xs) ≡ x +ℤ total (drop (i + 1) xs) = at_drop_more total xs i x h ∙ ap (λ (y : ℤ). y +ℤ total (drop (i + 1) xs)) (sym e) in
    omega (arith, ints)
