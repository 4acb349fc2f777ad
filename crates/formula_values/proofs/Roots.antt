-- Square roots.
use Rattle.std.proofs.Common.{inl, inr, ◌≡◌, ℕ, zero, suc, ◌+◌, ◌*◌, ◌<◌, ◌≤◌, min, arith, refl, ap, sym, ◌∙◌, mul-le-mul, Bool, true, false}
use Rattle.bt_base.specs.declared.number.NumFault.TheVariants.{TooLarge}
use Rattle.std.specs.Prelude.{pos, Err, nat_le, if◌then◌else◌}
use Rattle.std.proofs.Math.Nat.{le_antisymm}
use Rattle.std.proofs.lemmas.Bool.{cases_lt}
use Rattle.std.proofs.lemmas.Bool.Decides.{nat_tests}
use Rattle.bt_base.specs.Numbers.{bounded}
use Rattle.formula_values.specs.Functions.{square_root}

-- a number is the root of another: its square is at most it, and that of the next is above it
pub record IsRoot (root n : ℕ) : Type 0 where
  pub at_most : root * root ≤ n
  pub above : n < (root + 1) * (root + 1)

-- what has a square at most a number is at most its root
at_most_root : (r q n : ℕ) → r * r ≤ n → n < (q + 1) * (q + 1) → r ≤ q
at_most_root r q n low high =
    elim (cases_lt q r) [ inl h ↦ absurd (let more : (q + 1) * (q + 1) ≤ r * r = mul-le-mul (omega arith) (omega arith) in omega arith) | inr h ↦ h ]

next_root : (q n : ℕ) → IsRoot q n → (b : Bool) → nat_le ((q + 1) * (q + 1)) (suc n) ≡ b → IsRoot (if b then q + 1 else q) (suc n)
next_root q n is true t = record { at_most = grind (arith, nat_tests); above = omega (arith, is.above) }
next_root q n is false t = record { at_most = omega (arith, is.at_most); above = grind (arith, nat_tests) }

pub square_root-is : (n : ℕ) → IsRoot (square_root n) n
unfolding square_root
square_root-is zero = record { at_most = omega arith; above = omega arith }
square_root-is (suc n) = next_root (square_root n) n (square_root-is n) _ refl

-- a number past the greatest magnitude is too large, whichever it is
bounded-past : (r : ℕ) → 1000000000000000001 ≤ r → bounded (pos r) ≡ Err TooLarge
unfolding bounded
bounded-past r h = let past : nat_le r 1000000000000000000 ≡ false = grind (arith, nat_tests) in rw past refl

same_bounds : (most past s n root : ℕ) (over : (r : ℕ) → most ≤ r → bounded (pos r) ≡ Err TooLarge) → past ≡ most * most → s ≡ min n past → IsRoot root s →
    bounded (pos root) ≡ bounded (pos (square_root n))
same_bounds most past s n root over e is at =
    let root_of = square_root-is n in
    elim (cases_lt n past) [
      | inl h ↦
          let all : s ≡ n = omega arith in
          ap (λ (r : ℕ). bounded (pos r))
          (le_antisymm (at_most_root root (square_root n) n (omega (arith, at.at_most)) root_of.above)
          (at_most_root (square_root n) root n root_of.at_most (omega (arith, at.above))))
      | inr h ↦
          let capped : s ≡ past = omega arith in
          over root (at_most_root most root s (omega arith) at.above)
          ∙ sym (over (square_root n) (at_most_root most (square_root n) n (omega arith) root_of.above))
    ]

-- the root of a sum that is kept up to the square of the first number that is too large
pub root_told : (s n root : ℕ) → s ≡ min n 1000000000000000002000000000000000001 → IsRoot root s → bounded (pos root) ≡ bounded (pos (square_root n))
root_told s n root is at = same_bounds 1000000000000000001 1000000000000000002000000000000000001 s n root bounded-past refl is at
