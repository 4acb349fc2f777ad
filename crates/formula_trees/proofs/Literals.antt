-- Steps of reading a number.
use Rattle.std.proofs.Common.{◌≡◌, ℕ, zero, suc, ◌+◌, ◌-◌, ◌*◌, ◌<◌, min, List, [], ◌∷◌, ◌++◌, length, take, drop, get_or, drop-cons, refl, sym, ap, ◌∙◌, arith}
use Rattle.std.proofs.Common.{add-one}
use Rattle.std.specs.Prelude.{ℤ, pos, Option}
use Rattle.std.proofs.lemmas.Grind.{common_steps}
use Rattle.bt_base.specs.Ids.{decimal_from}
use Rattle.bt_base.specs.Numbers.{in_bounds}
use Rattle.formula_trees.specs.Pieces.{zeros, literal_of}

-- numbers that are the same up to the greatest stay so with more digits after them
capped : (n m : ℕ) (digits : List ℕ) → min n 1000000000000000001 ≡ min m 1000000000000000001 →
    min (decimal_from n digits) 1000000000000000001 ≡ min (decimal_from m digits) 1000000000000000001
capped n m [] h = h
capped n m (digit ∷ digits) h = capped (10 * n + (digit - 48)) (10 * m + (digit - 48)) digits (omega arith)

decimal_from-append : (n : ℕ) (xs ys : List ℕ) → decimal_from n (xs ++ ys) ≡ decimal_from (decimal_from n xs) ys
decimal_from-append n [] ys = refl
decimal_from-append n (x ∷ xs) ys = decimal_from-append (10 * n + (x - 48)) xs ys

-- one more digit
pub one_more : (n m : ℕ) (digits : List ℕ) (i : ℕ) → i < length digits → m ≡ min (10 * n + (get_or digits i 0 - 48)) 1000000000000000001 →
    min (decimal_from n (drop i digits)) 1000000000000000001 ≡ min (decimal_from m (drop (i + 1) digits)) 1000000000000000001
one_more n m digits i h e = rw (add-one, drop-cons digits i 0) (capped (10 * n + (get_or digits i 0 - 48)) m (drop (suc i) digits) (omega arith))

-- a prefix of two lists, by its two parts
prefix_of_both : (n : ℕ) (xs ys : List ℕ) → take n (xs ++ ys) ≡ take (min (length xs) n) xs ++ take (n - min (length xs) n) ys
prefix_of_both zero xs ys = let none : min (length xs) 0 ≡ 0 = omega arith in rw none refl
prefix_of_both (suc n) [] ys = let none : min 0 (suc n) ≡ 0 = omega arith in let all : suc n - 0 ≡ suc n = omega arith in rw (none, all) refl
prefix_of_both (suc n) (x ∷ xs) ys =
    let one : min (suc (length xs)) (suc n) ≡ suc (min (length xs) n) = omega arith in
    let rest : suc n - suc (min (length xs) n) ≡ n - min (length xs) n = omega arith in
    rw (one, rest) (ap (λ start. x ∷ start) (prefix_of_both n xs ys))

-- the digits of three parts, one after the other
three_parts : (whole kept cut_off : List ℕ) (ones cut r : ℕ) → ones ≡ min (decimal_from 0 whole) 1000000000000000001 →
    cut ≡ min (decimal_from ones kept) 1000000000000000001 → r ≡ min (decimal_from cut cut_off) 1000000000000000001 →
    r ≡ min (decimal_from 0 (whole ++ (kept ++ cut_off))) 1000000000000000001
three_parts whole kept cut_off ones cut r first second third =
    let one = decimal_from 0 whole in
    let a : cut ≡ min (decimal_from one kept) 1000000000000000001 = second ∙ capped ones one kept (omega arith) in
    let b : r ≡ min (decimal_from (decimal_from one kept) cut_off) 1000000000000000001 = third ∙ capped cut (decimal_from one kept) cut_off (omega arith) in
    b ∙ ap (λ n. min n 1000000000000000001) (sym (decimal_from-append 0 whole (kept ++ cut_off) ∙ decimal_from-append one kept cut_off))

-- no number past the greatest is taken, whichever it is
bounds_capped : (n : ℕ) → in_bounds (pos (min n 1000000000000000001)) ≡ in_bounds (pos n)
bounds_capped n = grind (arith, common_steps)

-- the digits before the point and those after it
pub all_parts : (digit : ℕ) (whole ds : List ℕ) (kept first ones cut r : ℕ) → kept ≡ min (length ds) 6 →
    first ≡ min (decimal_from 0 (digit ∷ [])) 1000000000000000001 → ones ≡ min (decimal_from first whole) 1000000000000000001 →
    cut ≡ min (decimal_from ones (take kept ds)) 1000000000000000001 → r ≡ min (decimal_from cut (take (6 - kept) zeros)) 1000000000000000001 →
    in_bounds (pos r) ≡ literal_of (digit ∷ whole) ds
all_parts digit whole ds kept first ones cut r k a b c d =
    let e : ones ≡ min (decimal_from 0 (digit ∷ whole)) 1000000000000000001 = b ∙ capped first (10 * 0 + (digit - 48)) whole (omega arith) in
    ap (λ n. in_bounds (pos n)) (three_parts (digit ∷ whole) (take kept ds) (take (6 - kept) zeros) ones cut r e c d
    ∙ ap (λ (n : ℕ). min (decimal_from 0 ((digit ∷ whole) ++ (take n ds ++ take (6 - n) zeros))) 1000000000000000001) k
    ∙ ap (λ (start : List ℕ). min (decimal_from 0 ((digit ∷ whole) ++ start)) 1000000000000000001) (sym (prefix_of_both 6 ds zeros)))
    ∙ bounds_capped (decimal_from 0 ((digit ∷ whole) ++ take 6 (ds ++ zeros)))
