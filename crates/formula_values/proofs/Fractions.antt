-- Fractions that are cut to whole numbers.
use Rattle.std.proofs.Common.{◌≡◌, ℕ, zero, suc, ◌/◌, ◌≤◌, refl}
use Rattle.std.specs.Prelude.{ℤ, pos, negsuc, neg_ℤ}
use Rattle.std.specs.Int.RustNames.{int_div, unsigned_abs}
use Rattle.std.proofs.Math.Nat.{div-le_self}

abs_neg : (n : ℕ) → unsigned_abs (neg_ℤ (pos n)) ≡ n
abs_neg zero = refl
abs_neg (suc n) = refl

-- a whole part is not farther from zero than what is divided
pub fraction_abs : (over under : ℤ) → unsigned_abs (int_div over under) ≤ unsigned_abs over
fraction_abs (pos a) (pos b) = div-le_self a b
fraction_abs (pos a) (negsuc b) = rw (abs_neg (a / suc b)) (div-le_self a (suc b))
fraction_abs (negsuc a) (pos b) = rw (abs_neg (suc a / b)) (div-le_self (suc a) b)
fraction_abs (negsuc a) (negsuc b) = div-le_self (suc a) (suc b)
