-- Ids of tasks of a drill, and the ranges of the events that add them.
use Rattle.std.proofs.Common.{◌≡◌, ◌≤◌, ◌<◌, ◌^◌, ◌+◌, ◌%◌, ℕ, suc, Bool, true, false, not, ◌||◌}
use Rattle.std.proofs.Common.{◌==◌, cond, List, [], ◌∷◌, ◌++◌, None, length, refl, ap, ◌∙◌, arith, nat_lt, nat_eq}
use Rattle.std.specs.Fmt.{decimal}
use Rattle.std.specs.List.{prefix_len}
use Rattle.std.proofs.lemmas.Bool.Decides.{nat_tests}
use Rattle.std.proofs.lemmas.Fmt.{decimal_by_steps, decimal_nonempty, length-decimal-le}
use Rattle.std.proofs.lemmas.List.Sums.{count_by-le-length}
use Rattle.bt_base.specs.Ids.{is_id_byte, id_fault, character_count, within}

-- a byte that an id can have
abbrev fits : ℕ → Bool
fits b = not (not (is_id_byte b))

or_digit : (x y : Bool) → (x || (true || y)) ≡ true
or_digit true y = refl
or_digit false y = refl

digit_within : (d : ℕ) → d < 10 → within 48 57 (48 + d) ≡ true
digit_within d h = grind (arith, nat_tests)

digit_fits : (d : ℕ) → d < 10 → fits (48 + d) ≡ true
digit_fits d h =
    let b = 48 + d in
    let others = within 97 122 b || within 65 90 b in
    let rest = b == 45 || b == 95 in
    ap (λ t. not (not t)) (ap (λ w. others || (w || rest)) (digit_within d h) ∙ or_digit others rest)

push_fits : (xs : List ℕ) (y : ℕ) → fits y ≡ true → prefix_len fits xs ≡ length xs → prefix_len fits (xs ++ y ∷ []) ≡ length (xs ++ y ∷ [])
push_fits [] y h e = ap (λ b. cond b 1 0) h
push_fits (x ∷ xs) y h e = by_test (fits x) (push_fits xs y h) e
  where
    by_test : (b : Bool) → (prefix_len fits xs ≡ length xs → prefix_len fits (xs ++ y ∷ []) ≡ length (xs ++ y ∷ [])) →
        cond b (1 + prefix_len fits xs) 0 ≡ suc (length xs) → cond b (1 + prefix_len fits (xs ++ y ∷ [])) 0 ≡ suc (length (xs ++ y ∷ []))
    by_test true next e = let before : prefix_len fits xs ≡ length xs = omega (arith, e) in omega (arith, next before)
    by_test false next e = absurd (omega (arith, e))

decimal_fits : (n : ℕ) → n < 2 ^ 64 → prefix_len fits (decimal n) ≡ length (decimal n)
decimal_fits n h =
    decimal_by_steps (λ k ds. prefix_len fits ds ≡ length ds) (λ k lt. ap (λ b. cond b 1 0) (digit_fits k lt))
    (λ k ds ge e. push_fits ds (48 + k % 10) (digit_fits (k % 10) (omega arith)) e) n h

-- the digits of a number of 32 bits are an id
pub decimal_is_id : (n : ℕ) → n < 2 ^ 32 → id_fault (decimal n) ≡ None
decimal_is_id n h =
    let wide : n < 2 ^ 64 = omega arith in
    let some : 0 < length (decimal n) = decimal_nonempty n wide in
    let few : length (decimal n) ≤ 10 = length-decimal-le 10 n (omega arith) (omega arith) wide in
    let counted : character_count (decimal n) ≤ length (decimal n) = count_by-le-length (λ b. not (within 128 191 b)) (decimal n) in
    let all : prefix_len fits (decimal n) ≡ length (decimal n) = decimal_fits n wide in
    let first : nat_eq (length (decimal n)) 0 ≡ false = grind (arith, nat_tests) in
    let second : nat_lt 64 (character_count (decimal n)) ≡ false = grind (arith, nat_tests) in
    let third : nat_lt (prefix_len fits (decimal n)) (length (decimal n)) ≡ false = grind (arith, nat_tests) in
    simp (first, second, third)
