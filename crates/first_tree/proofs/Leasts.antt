-- The least rank is at the root.
use Rattle.std.proofs.Common.{◌≡◌, ℕ, suc, zero, ◌+◌, ◌*◌, ◌^◌, ◌<◌, ◌≤◌, min, List, [], ◌∷◌, length, get_or, take, drop, ap, ◌∙◌, arith, pow-suc, ⊎_elim}
use Rattle.std.proofs.lemmas.Bool.{cases_lt}
use Rattle.std.proofs.lemmas.List.{get_or-drop}
use Rattle.std.proofs.lemmas.Nat.{pow_pos}
use Rattle.std.proofs.Math.Nat.{mul_assoc, mul-add, add-mul, le-mul_of_pos_right}
use Rattle.first_tree.specs.Nodes.{IsTree}
use Rattle.first_tree.specs.Ranks.{least_rank, no_rank, IsWhole}
use Rattle.first_tree.proofs.Firsts.{leaf_at, ranks_length}
use Rattle.first_tree.proofs.Trees.{covers_wide}

-- one of the leaves below the node has its number
record Reaches (nodes : List ℕ) (size i : ℕ) : Type 0 where
  leaf : ℕ
  within : leaf < size
  is : get_or nodes i 0 ≡ get_or nodes (size + leaf) 0

reaches : (nodes : List ℕ) (size : ℕ) → IsTree nodes size → (k i first : ℕ) → 1 ≤ i → i * 2 ^ k ≡ size + first → first + 2 ^ k ≤ size → Reaches nodes size i
reaches nodes size tree zero i first one place fits =
    let e : i ≡ size + first = omega arith in
    record { leaf = first; within = omega arith; is = ap (λ (n : ℕ). get_or nodes n 0) e }
reaches nodes size tree (suc k) i first one place fits =
    let half = 2 ^ k in
    let pos : 0 < half = pow_pos k in
    let double : 2 ^ suc k ≡ half + half = omega (arith, pow-suc 2 k) in
    let places : i * (2 ^ suc k) ≡ i * half + i * half = ap (λ (n : ℕ). i * n) double ∙ mul-add i half half in
    let left : (2 * i) * half ≡ 2 * (i * half) = mul_assoc 2 i half in
    let right : (2 * i + 1) * half ≡ (2 * i) * half + 1 * half = add-mul (2 * i) 1 half in
    let more : i ≤ i * half = le-mul_of_pos_right i pos in
    let below : i < size = omega arith in
    let node : get_or nodes i 0 ≡ min (get_or nodes (2 * i) 0) (get_or nodes (2 * i + 1) 0) = tree.right i one below in
    ⊎_elim
    (λ (h : get_or nodes (2 * i) 0 < get_or nodes (2 * i + 1) 0).
    let r = reaches nodes size tree k (2 * i) first (omega arith) (omega arith) (omega arith) in
    let is = r.is in
    record { leaf = r.leaf; within = r.within; is = omega arith })
    (λ (h : get_or nodes (2 * i + 1) 0 ≤ get_or nodes (2 * i) 0).
    let r = reaches nodes size tree k (2 * i + 1) (first + half) (omega arith) (omega arith) (omega arith) in
    let is = r.is in
    record { leaf = r.leaf; within = r.within; is = omega arith })
    (cases_lt (get_or nodes (2 * i) 0) (get_or nodes (2 * i + 1) 0))

pub least_most : (xs : List ℕ) → least_rank xs ≤ no_rank
least_most [] = omega arith
least_most (x ∷ xs) = let rest = least_most xs in omega arith

pub least_below : (xs : List ℕ) (i : ℕ) → i < length xs → least_rank xs ≤ get_or xs i 0
least_below [] i l = absurd (omega arith)
least_below (x ∷ xs) zero l = omega arith
least_below (x ∷ xs) (suc i) l = let rest = least_below xs i (omega arith) in omega arith

pub least_above : (bound : ℕ) (xs : List ℕ) → bound ≤ no_rank → ((i : ℕ) → i < length xs → bound ≤ get_or xs i 0) → bound ≤ least_rank xs
least_above bound [] most h = most
least_above bound (x ∷ xs) most h =
    let here : bound ≤ x = h 0 (omega arith) in
    let rest = least_above bound xs most (λ i l. h (suc i) (omega arith)) in
    omega arith

-- the root is at most each rank, and one of the leaves has its number
pub root_least : (nodes : List ℕ) (size len : ℕ) → IsWhole nodes size len → get_or nodes 1 0 ≤ no_rank
    → get_or nodes 1 0 ≡ least_rank (take len (drop size nodes))
root_least nodes size len whole most =
    let ranks = take len (drop size nodes) in
    let short = ranks_length nodes size len whole in
    let within = whole.within in
    let is = whole.power.is in
    let flat : 1 * size ≡ size + 0 = omega arith in
    let below : get_or nodes 1 0 ≤ least_rank ranks =
    least_above (get_or nodes 1 0) ranks most (λ i l.
    let least = covers_wide nodes size whole.tree size whole.power 1 0 i (omega arith) flat (omega arith) (omega arith) (omega arith) in
    let here = leaf_at nodes size len i (omega arith) in
    omega arith) in
    let r = reaches nodes size whole.tree whole.power.exponent 1 0 (omega arith) (omega arith) (omega arith) in
    let root = r.is in
    let above : least_rank ranks ≤ get_or nodes 1 0 =
    ⊎_elim
    (λ (e : r.leaf < len).
    let least = least_below ranks r.leaf (omega arith) in
    let here = leaf_at nodes size len r.leaf e in
    omega arith)
    (λ (e : len ≤ r.leaf).
    let rest : get_or (drop size nodes) r.leaf 0 ≡ no_rank = whole.rest r.leaf e r.within in
    let here : get_or (drop size nodes) r.leaf 0 ≡ get_or nodes (size + r.leaf) 0 = get_or-drop size nodes r.leaf 0 in
    let any = least_most ranks in
    omega arith)
    (cases_lt r.leaf len) in
    omega arith
