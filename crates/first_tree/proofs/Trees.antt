-- Trees of minima after a change of a node, and what a node says of the leaves below it.
use Rattle.std.proofs.Common.{◌≡◌, ◌≢◌, ℕ, suc, zero, ◌+◌, ◌*◌, ◌/◌, ◌^◌, ◌<◌, ◌≤◌, min, List, length, set, get_or, sym, ap, subst, ◌∙◌, arith, pow-suc, ⊎_elim}
use Rattle.std.proofs.lemmas.List.{get_or-set_same, get_or-set_other}
use Rattle.std.proofs.lemmas.Bool.{cases_eq, cases_lt}
use Rattle.std.proofs.lemmas.Nat.{pow_pos}
use Rattle.std.proofs.Math.Nat.{mul_assoc, mul_right_comm, mul-add, add-mul, le-mul_of_pos_right}
use Rattle.first_tree.specs.Nodes.{IsNode, IsTree, IsTreeExcept, IsTreeFrom, IsPower}

-- a node is right once it has the lesser of its children
set_here : (nodes : List ℕ) (at : ℕ) → 1 ≤ at → at < length nodes → IsNode (set nodes at (min (get_or nodes (2 * at) 0) (get_or nodes (2 * at + 1) 0))) at
set_here nodes at one within =
    let v = min (get_or nodes (2 * at) 0) (get_or nodes (2 * at + 1) 0) in
    let here : get_or (set nodes at v) at 0 ≡ v = get_or-set_same nodes at v 0 within in
    let left : get_or (set nodes at v) (2 * at) 0 ≡ get_or nodes (2 * at) 0 = get_or-set_other nodes at (2 * at) v 0 (λ e. omega arith) in
    let right : get_or (set nodes at v) (2 * at + 1) 0 ≡ get_or nodes (2 * at + 1) 0 = get_or-set_other nodes at (2 * at + 1) v 0 (λ e. omega arith) in
    omega arith

-- another node stays right after a change of a node that is neither it nor a child of it
set_apart : (nodes : List ℕ) (at v i : ℕ) → i ≢ at → 2 * i ≢ at → 2 * i + 1 ≢ at → IsNode nodes i → IsNode (set nodes at v) i
set_apart nodes at v i apart left right old =
    let here : get_or (set nodes at v) i 0 ≡ get_or nodes i 0 = get_or-set_other nodes at i v 0 apart in
    let one : get_or (set nodes at v) (2 * i) 0 ≡ get_or nodes (2 * i) 0 = get_or-set_other nodes at (2 * i) v 0 left in
    let two : get_or (set nodes at v) (2 * i + 1) 0 ≡ get_or nodes (2 * i + 1) 0 = get_or-set_other nodes at (2 * i + 1) v 0 right in
    omega arith

-- one node is computed again, and the one above it may then be wrong
pub repaired : (nodes : List ℕ) (size at up : ℕ) → length nodes ≡ size + size → 1 ≤ at → at < size → up ≡ at / 2 → IsTreeExcept nodes size at
    → IsTreeExcept (set nodes at (min (get_or nodes (2 * at) 0) (get_or nodes (2 * at + 1) 0))) size up
repaired nodes size at up len low within above tree =
    let v = min (get_or nodes (2 * at) 0) (get_or nodes (2 * at + 1) 0) in
    record {
      right = λ i one below other.
          ⊎_elim
          (λ (e : i ≡ at). subst (λ (j : ℕ). IsNode (set nodes at v) j) (sym e) (set_here nodes at low (omega arith)))
          (λ (apart : i ≢ at). set_apart nodes at v i apart (λ e. other (omega arith)) (λ e. other (omega arith)) (tree.right i one below apart))
          (cases_eq i at);
    }

-- a changed leaf leaves all nodes right but the one above it
pub leaf_set : (nodes : List ℕ) (size leaf up v : ℕ) → up ≡ (size + leaf) / 2 → IsTree nodes size → IsTreeExcept (set nodes (size + leaf) v) size up
leaf_set nodes size leaf up v above tree = record {
  right = λ i one below other.
      set_apart nodes (size + leaf) v i (λ e. omega arith) (λ e. other (omega arith)) (λ e. other (omega arith)) (tree.right i one below);
}

-- one more node is right
pub rebuilt : (nodes : List ℕ) (size at : ℕ) → length nodes ≡ size + size → 1 ≤ at → at < size → IsTreeFrom nodes size (at + 1)
    → IsTreeFrom (set nodes at (min (get_or nodes (2 * at) 0) (get_or nodes (2 * at + 1) 0))) size at
rebuilt nodes size at len low within tree =
    let v = min (get_or nodes (2 * at) 0) (get_or nodes (2 * at + 1) 0) in
    record {
      right = λ i one from below.
          ⊎_elim
          (λ (e : i ≡ at). subst (λ (j : ℕ). IsNode (set nodes at v) j) (sym e) (set_here nodes at low (omega arith)))
          (λ (apart : i ≢ at). set_apart nodes at v i apart (λ e. omega arith) (λ e. omega arith) (tree.right i one (omega arith) below))
          (cases_eq i at);
    }

-- a node is at most each leaf below it
pub covers : (nodes : List ℕ) (size : ℕ) → IsTree nodes size → (k i first leaf : ℕ) → 1 ≤ i → i * 2 ^ k ≡ size + first → first + 2 ^ k ≤ size
    → first ≤ leaf → leaf < first + 2 ^ k → get_or nodes i 0 ≤ get_or nodes (size + leaf) 0
covers nodes size tree zero i first leaf one place fits low high =
    let e : i ≡ size + leaf = omega arith in
    rw e (omega arith)
covers nodes size tree (suc k) i first leaf one place fits low high =
    let half = 2 ^ k in
    let pos : 0 < half = pow_pos k in
    let double : 2 ^ suc k ≡ half + half = omega (arith, pow-suc 2 k) in
    let places : i * (2 ^ suc k) ≡ i * half + i * half = ap (λ (n : ℕ). i * n) double ∙ mul-add i half half in
    let left : (2 * i) * half ≡ 2 * (i * half) = mul_assoc 2 i half in
    let right : (2 * i + 1) * half ≡ (2 * i) * half + 1 * half = add-mul (2 * i) 1 half in
    let more : i ≤ i * half = le-mul_of_pos_right i pos in
    let below : i < size = omega arith in
    let node : get_or nodes i 0 ≡ min (get_or nodes (2 * i) 0) (get_or nodes (2 * i + 1) 0) = tree.right i one below in
    ⊎_elim
    (λ (h : leaf < first + half). let rest = covers nodes size tree k (2 * i) first leaf (omega arith) (omega arith) (omega arith) low h in omega arith)
    (λ (h : first + half ≤ leaf).
    let rest = covers nodes size tree k (2 * i + 1) (first + half) leaf (omega arith) (omega arith) (omega arith) h (omega arith) in omega arith)
    (cases_lt leaf (first + half))

-- the same where the width is a power of two
pub covers_wide : (nodes : List ℕ) (size : ℕ) → IsTree nodes size → (width : ℕ) → IsPower width → (i first leaf : ℕ) → 1 ≤ i
    → i * width ≡ size + first → first + width ≤ size → first ≤ leaf → leaf < first + width → get_or nodes i 0 ≤ get_or nodes (size + leaf) 0
covers_wide nodes size tree width power i first leaf one place fits low high =
    let place' : i * 2 ^ power.exponent ≡ size + first = ap (λ (n : ℕ). i * n) (sym power.is) ∙ place in
    covers nodes size tree power.exponent i first leaf one place' (omega (arith, power.is)) low (omega (arith, power.is))

-- the halves of what a node above the leaves covers
pub record Halves (size at first width : ℕ) : Type 0 where
  pub power : IsPower (width / 2)
  pub twice : width / 2 + width / 2 ≡ width
  pub left : (at * 2) * (width / 2) ≡ size + first
  pub right : (at * 2 + 1) * (width / 2) ≡ size + (first + width / 2)

halves_by : (size at first width e : ℕ) → width ≡ 2 ^ e → at * width ≡ size + first → at < size → Halves size at first width
halves_by size at first width zero is place above =
    let flat : at * 1 ≡ size + first = ap (λ (n : ℕ). at * n) (sym is) ∙ place in
    absurd (omega arith)
halves_by size at first width (suc k) is place above =
    let half = 2 ^ k in
    let double : 2 ^ suc k ≡ half + half = omega (arith, pow-suc 2 k) in
    let here : width / 2 ≡ half = omega arith in
    let both : at * width ≡ at * half + at * half = ap (λ (n : ℕ). at * n) (is ∙ double) ∙ mul-add at half half in
    let low : (at * 2) * half ≡ at * half * 2 = mul_right_comm at 2 half in
    let high : (at * 2 + 1) * half ≡ (at * 2) * half + 1 * half = add-mul (at * 2) 1 half in
    record {
      power = record { exponent = k; is = here };
      twice = omega arith;
      left = ap (λ (n : ℕ). (at * 2) * n) here ∙ omega arith;
      right = ap (λ (n : ℕ). (at * 2 + 1) * n) here ∙ omega arith;
    }

pub halves : (size at first width : ℕ) → IsPower width → at * width ≡ size + first → at < size → Halves size at first width
halves size at first width power = halves_by size at first width power.exponent power.is

bottom_by : (size at first width e : ℕ) → width ≡ 2 ^ e → at * width ≡ size + first → first + width ≤ size → size ≤ at → (at ≡ size + first) × (width ≡ 1)
bottom_by size at first width zero is place fits below =
    let flat : at * 1 ≡ size + first = ap (λ (n : ℕ). at * n) (sym is) ∙ place in
    (omega arith, omega arith)
bottom_by size at first width (suc k) is place fits below =
    let half = 2 ^ k in
    let pos : 0 < half = pow_pos k in
    let double : 2 ^ suc k ≡ half + half = omega (arith, pow-suc 2 k) in
    let both : at * width ≡ at * half + at * half = ap (λ (n : ℕ). at * n) (is ∙ double) ∙ mul-add at half half in
    let more : at ≤ at * half = le-mul_of_pos_right at pos in
    absurd (omega arith)

-- a leaf covers itself alone
pub bottom : (size at first width : ℕ) → IsPower width → at * width ≡ size + first → first + width ≤ size → size ≤ at → (at ≡ size + first) × (width ≡ 1)
bottom size at first width power = bottom_by size at first width power.exponent power.is
