-- The first rank that is at most a bound, by the nodes of a tree.
use Rattle.std.proofs.Common.{◌≡◌, ℕ, suc, zero, ◌+◌, ◌*◌, ◌<◌, ◌≤◌, leb, List, [], ◌∷◌, length, set, get_or, take, drop}
use Rattle.std.proofs.Common.{refl, ap, ◌∙◌, arith, Some, None, ⊎_elim}
use Rattle.std.specs.Option.{option_map}
use Rattle.std.proofs.lemmas.List.{get_or-take, get_or-drop, length-take, length-drop}
use Rattle.std.proofs.lemmas.Bool.{cases_lt, le-leb, lt-leb, cond-true, cond-false}
use Rattle.first_tree.specs.Nodes.{IsFirst}
use Rattle.first_tree.specs.Ranks.{first_within, no_rank, IsWhole}
use Rattle.first_tree.proofs.Trees.{covers_wide}

pub take_set : (n : ℕ) (xs : List ℕ) (i a : ℕ) → take n (set xs i a) ≡ set (take n xs) i a
take_set zero xs i a = refl
take_set (suc n) [] i a = refl
take_set (suc n) (x ∷ xs) zero a = refl
take_set (suc n) (x ∷ xs) (suc i) a = ap (λ ys. x ∷ ys) (take_set n xs i a)

pub first_none : (bound : ℕ) (xs : List ℕ) → ((i : ℕ) → i < length xs → bound < get_or xs i 0) → first_within bound xs ≡ None
first_none bound [] h = refl
first_none bound (x ∷ xs) h =
    cond-false (leb x bound) (Some 0) (option_map suc (first_within bound xs)) (lt-leb x bound (h 0 (omega arith)))
    ∙ ap (option_map suc) (first_none bound xs (λ i l. h (suc i) (omega arith)))

pub first_at : (bound : ℕ) (xs : List ℕ) (k : ℕ) → k < length xs → get_or xs k 0 ≤ bound
    → ((i : ℕ) → i < k → bound < get_or xs i 0) → first_within bound xs ≡ Some k
first_at bound [] k l p h = absurd (omega arith)
first_at bound (x ∷ xs) zero l p h = cond-true (leb x bound) (Some 0) (option_map suc (first_within bound xs)) (le-leb x bound p)
first_at bound (x ∷ xs) (suc k) l p h =
    cond-false (leb x bound) (Some 0) (option_map suc (first_within bound xs)) (lt-leb x bound (h 0 (omega arith)))
    ∙ ap (option_map suc) (first_at bound xs k (omega arith) p (λ i low. h (suc i) (omega arith)))

-- a rank is a leaf
pub leaf_at : (nodes : List ℕ) (size len i : ℕ) → i < len → get_or (take len (drop size nodes)) i 0 ≡ get_or nodes (size + i) 0
leaf_at nodes size len i l = get_or-take len (drop size nodes) i 0 l ∙ get_or-drop size nodes i 0

-- the number of ranks
pub ranks_length : (nodes : List ℕ) (size len : ℕ) → IsWhole nodes size len → length (take len (drop size nodes)) ≡ len
ranks_length nodes size len whole = omega (arith, length-take len (drop size nodes), length-drop size nodes, whole.length, whole.within)

-- there is none if the root is above the bound
pub root_none : (nodes : List ℕ) (size len bound : ℕ) → IsWhole nodes size len → bound < get_or nodes 1 0
    → first_within bound (take len (drop size nodes)) ≡ None
root_none nodes size len bound whole above =
    first_none bound (take len (drop size nodes)) (λ i l.
    let short = ranks_length nodes size len whole in
    let within = whole.within in
    let flat : 1 * size ≡ size + 0 = omega arith in
    let least = covers_wide nodes size whole.tree size whole.power 1 0 i (omega arith) flat (omega arith) (omega arith) (omega arith) in
    let here = leaf_at nodes size len i (omega arith) in
    omega arith)

-- the first leaf that is at most the bound is the first rank that is
pub root_some : (nodes : List ℕ) (size len bound leaf : ℕ) → IsWhole nodes size len → bound < no_rank → IsFirst nodes size bound leaf
    → first_within bound (take len (drop size nodes)) ≡ Some leaf
root_some nodes size len bound leaf whole small first =
    let short = ranks_length nodes size len whole in
    ⊎_elim
    (λ (e : leaf < len).
    first_at bound (take len (drop size nodes)) leaf (omega arith)
    (let here = leaf_at nodes size len leaf e in omega (arith, first.passes))
    (λ i low. let here = leaf_at nodes size len i (omega arith) in omega (arith, first.before i low)))
    (λ (e : len ≤ leaf).
    let rest : get_or (drop size nodes) leaf 0 ≡ no_rank = whole.rest leaf e first.within in
    let here : get_or (drop size nodes) leaf 0 ≡ get_or nodes (size + leaf) 0 = get_or-drop size nodes leaf 0 in
    let passes = first.passes in
    absurd (omega arith))
    (cases_lt leaf len)
