-- Numbers below the next one that is given.
use Rattle.std.proofs.Common.{◌≡◌, ℕ, ◌+◌, true, false, nat_eq, nat_lt, nat_le, arith, ◌≤◌}
use Rattle.std.proofs.lemmas.Bool.Decides.{nat_tests}

-- a lower number is another
pub below_other : (a b : ℕ) → nat_lt a b ≡ true → nat_eq a b ≡ false
below_other a b h = grind (arith, nat_tests)

-- the same, the other way round
pub below_other_back : (a b : ℕ) → nat_lt a b ≡ true → nat_eq b a ≡ false
below_other_back a b h = grind (arith, nat_tests)

-- a lower number is not above
pub below_not_above : (a b : ℕ) → nat_lt a b ≡ true → nat_le b a ≡ false
below_not_above a b h = grind (arith, nat_tests)

-- a lower number is below the next one
pub below_next : (a b : ℕ) → nat_lt a b ≡ true → nat_lt a (b + 1) ≡ true
below_next a b h = grind (arith, nat_tests)

-- a number is below the next one
pub below_own_next : (a : ℕ) → nat_lt a (a + 1) ≡ true
below_own_next a = grind (arith, nat_tests)

-- a number is equal to itself
pub is_itself : (n : ℕ) → nat_eq n n ≡ true
is_itself n = grind (arith, nat_tests)

-- an equal number is below as well
pub equal_below : (a b c : ℕ) → nat_eq a b ≡ true → nat_lt a c ≡ true → nat_lt b c ≡ true
equal_below a b c e h = grind (arith, nat_tests)

-- a moment is not after itself
pub is_not_after_itself : (now : ℕ) → nat_le now now ≡ true
is_not_after_itself now = grind (arith, nat_tests)

-- what is at most a number, as a test and as an order
pub tested : (a b : ℕ) → a ≤ b → nat_le a b ≡ true
tested a b h = grind (arith, nat_tests)

pub ordered : (a b : ℕ) → nat_le a b ≡ true → a ≤ b
ordered a b h = grind (arith, nat_tests)

-- equal numbers, as a test and as one
pub equal : (a b : ℕ) → nat_eq a b ≡ true → a ≡ b
equal a b h = grind (arith, nat_tests)
