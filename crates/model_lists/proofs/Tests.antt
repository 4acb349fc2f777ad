-- Tests that are joined: what follows from them, and what they follow from.
use Rattle.std.proofs.Common.{◌≡◌, Bool, true, false, not, ◌&&◌, ◌||◌, ◌⊎◌, inl, inr, refl}

-- a test passes, or it doesn't
pub passes_or_not : (a : Bool) → (a ≡ true) ⊎ (a ≡ false)
passes_or_not true = inl refl
passes_or_not false = inr refl

-- both pass
pub and_true : {a b : Bool} → a ≡ true → b ≡ true → (a && b) ≡ true
and_true h k = rw (h, k) refl

-- the first of two that pass
pub and_first : (a b : Bool) → (a && b) ≡ true → a ≡ true
and_first true b h = refl
and_first false b h = cc

-- the second of two that pass
pub and_second : (a b : Bool) → (a && b) ≡ true → b ≡ true
and_second true b h = h
and_second false b h = cc

-- one of two passes, the first
pub or_first : {a : Bool} (b : Bool) → a ≡ true → (a || b) ≡ true
or_first b h = rw h refl

-- one of two passes, the second
pub or_second : (a : Bool) {b : Bool} → b ≡ true → (a || b) ≡ true
or_second true h = refl
or_second false h = h

-- which of two passes
pub or_cases : (a b : Bool) → (a || b) ≡ true → (a ≡ true) ⊎ (b ≡ true)
or_cases true b h = inl refl
or_cases false b h = inr h

-- neither of two passes
pub or_false : {a b : Bool} → a ≡ false → b ≡ false → (a || b) ≡ false
or_false h k = rw (h, k) refl

-- the first of two that don't pass
pub or_false_first : (a b : Bool) → (a || b) ≡ false → a ≡ false
or_false_first true b h = cc
or_false_first false b h = refl

-- the second of two that don't pass
pub or_false_second : (a b : Bool) → (a || b) ≡ false → b ≡ false
or_false_second true b h = cc
or_false_second false b h = h

-- what is not so
pub not_true : (a : Bool) → not a ≡ true → a ≡ false
not_true true h = cc
not_true false h = refl

-- what is not so, the other way
pub true_not : {a : Bool} → a ≡ false → not a ≡ true
true_not h = rw h refl

-- a test that a condition asks for passes, since the condition does
pub asked : (a b : Bool) → (not a || b) ≡ true → a ≡ true → b ≡ true
asked true b h k = h
asked false b h k = cc

-- a test under a condition: it is to pass only where the condition does
pub under : (a b : Bool) → (a ≡ true → b ≡ true) → (not a || b) ≡ true
under true b h = h refl
under false b h = refl

-- two tests are alike where each follows from the other
pub alike : (a b : Bool) → (a ≡ true → b ≡ true) → (b ≡ true → a ≡ true) → a ≡ b
alike true true h k = refl
alike true false h k = let e : false ≡ true = h refl in cc
alike false true h k = let e : false ≡ true = k refl in cc
alike false false h k = refl

-- what is not asked for the opposite of is so
pub not_false : (a : Bool) → not a ≡ false → a ≡ true
not_false true h = refl
not_false false h = cc
