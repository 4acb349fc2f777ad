-- How often numbers are in lists of numbers.
use Rattle.std.proofs.Common.{◌≡◌, ◌≢◌, ℕ, zero, suc, ◌+◌, ◌<◌, ◌≤◌, ◌==◌, eq-eqb, ne_eqb, List, [], ◌∷◌, ◌++◌, length, refl}
use Rattle.std.proofs.Common.{ap, sym, arith}
use mathlib.Core.Logic.{dite}
use native.Mathlib.Decide.{ℕ_discrete, dec_lt}
use Rattle.counted_lock.specs.Views.{one_if, times_in, first_of, rest_of}

times_same : (n m : ℕ) (ns : List ℕ) → m ≡ n → times_in n (m ∷ ns) ≡ times_in n ns + 1
times_same n m ns same = let b : one_if (m == n) ≡ 1 = ap one_if (eq-eqb m n same) in omega arith

times_other : (n m : ℕ) (ns : List ℕ) → m ≢ n → times_in n (m ∷ ns) ≡ times_in n ns
times_other n m ns ne = let b : one_if (m == n) ≡ 0 = ap one_if (ne_eqb m n ne) in omega arith

pub times_append : (n : ℕ) (ms ns : List ℕ) → times_in n (ms ++ ns) ≡ times_in n ms + times_in n ns
times_append n [] ns = omega arith
times_append n (m ∷ ms) ns = let c = times_append n ms ns in omega arith

pub first_rest_length : (ns : List ℕ) → length (rest_of ns) + length (first_of ns) ≡ length ns
first_rest_length [] = refl
first_rest_length (n ∷ ns) = omega arith

pub first_rest_times : (n : ℕ) (ns : List ℕ) → times_in n (rest_of ns) + times_in n (first_of ns) ≡ times_in n ns
first_rest_times n [] = refl
first_rest_times n (m ∷ ns) = omega arith

-- how often each number below m is in the list, added up
abbrev sum_times : ℕ → List ℕ → ℕ
sum_times zero ns = 0
sum_times (suc m) ns = sum_times m ns + times_in m ns

sum_nil : (m : ℕ) → sum_times m [] ≡ 0
sum_nil zero = refl
sum_nil (suc m) = let a = sum_nil m in omega arith

sum_over : (m x : ℕ) (ns : List ℕ) → m ≤ x → sum_times m (x ∷ ns) ≡ sum_times m ns
sum_over zero x ns le = refl
sum_over (suc m) x ns le = let a = sum_over m x ns (omega arith) in let b = times_other m x ns (λ (e : x ≡ m). omega arith) in omega arith

sum_under : (m x : ℕ) (ns : List ℕ) → x < m → sum_times m (x ∷ ns) ≡ sum_times m ns + 1
sum_under zero x ns lt = absurd (omega arith)
sum_under (suc m) x ns lt = dite (ℕ_discrete x m)
    (λ (same : x ≡ m). (let a = sum_over m x ns (omega arith) in let b = times_same m x ns same in omega arith))
    (λ (ne : x ≢ m). (let a = sum_under m x ns (omega arith) in let b = times_other m x ns ne in omega arith))

-- all elements of the list are below m
sum_all : (m : ℕ) (ns : List ℕ) → ((n : ℕ) → m ≤ n → times_in n ns ≡ 0) → sum_times m ns ≡ length ns
sum_all m [] none = sum_nil m
sum_all m (x ∷ ns) none =
    let rest : (n : ℕ) → m ≤ n → times_in n ns ≡ 0 = λ n le. (let b : one_if (x == n) + times_in n ns ≡ 0 = none n le in omega arith) in
    let below : x < m = dite (dec_lt x m) (λ lt. lt) (λ not_lt. (let a = none x (omega arith) in let b = times_same x x ns refl in absurd (omega arith))) in
    let a = sum_under m x ns below in let b = sum_all m ns rest in omega arith

sum_most : (m : ℕ) (ns : List ℕ) → ((n : ℕ) → times_in n ns ≤ 1) → sum_times m ns ≤ m
sum_most zero ns once = omega arith
sum_most (suc m) ns once = let a = sum_most m ns once in let b = once m in omega arith

sum_less : (m n : ℕ) (ns : List ℕ) → ((n : ℕ) → times_in n ns ≤ 1) → n < m → times_in n ns ≡ 0 → sum_times m ns < m
sum_less zero n ns once lt none = absurd (omega arith)
sum_less (suc m) n ns once lt none = dite (ℕ_discrete n m)
    (λ (same : n ≡ m). (let a = sum_most m ns once in let b : times_in m ns ≡ times_in n ns = ap (λ z. times_in z ns) (sym same) in omega arith))
    (λ (ne : n ≢ m). (let a = sum_less m n ns once (omega arith) none in let b = once m in omega arith))

-- if a list has m numbers, which differ and are all below m, a number that is not in it is not below m
pub not_below : (m n : ℕ) (ns : List ℕ) → length ns ≡ m → ((n : ℕ) → times_in n ns ≤ 1) → ((n : ℕ) → m ≤ n → times_in n ns ≡ 0) → times_in n ns ≡ 0 → m ≤ n
not_below m n ns many once above none = dite (dec_lt n m)
    (λ lt. (let a = sum_less m n ns once lt none in let b = sum_all m ns above in absurd (omega arith)))
    (λ not_lt. omega arith)
