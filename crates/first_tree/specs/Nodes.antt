-- The nodes of a binary tree in a list: the root is node 1, node i has the children 2 * i and 2 * i + 1, and the nodes from `size` on are the leaves.
use Rattle.std.specs.Prelude.{◌≡◌, ◌≢◌, ℕ, ◌+◌, ◌*◌, ◌^◌, ◌<◌, ◌≤◌, min, List, slice_index, Option, Some, None}

-- the node is the lesser of its children
abbrev pub IsNode : List ℕ → ℕ → Type 0
IsNode nodes i = slice_index nodes i ≡ min (slice_index nodes (2 * i)) (slice_index nodes (2 * i + 1))

-- each node above the leaves is the lesser of its children
pub record IsTree (nodes : List ℕ) (size : ℕ) : Type 0 where
  pub right : (i : ℕ) → 1 ≤ i → i < size → IsNode nodes i

-- the same for all of these nodes but perhaps one
pub record IsTreeExcept (nodes : List ℕ) (size : ℕ) (except : ℕ) : Type 0 where
  pub right : (i : ℕ) → 1 ≤ i → i < size → i ≢ except → IsNode nodes i

-- the same for those from one node on
pub record IsTreeFrom (nodes : List ℕ) (size : ℕ) (from : ℕ) : Type 0 where
  pub right : (i : ℕ) → 1 ≤ i → from ≤ i → i < size → IsNode nodes i

-- a power of two
pub record IsPower (size : ℕ) : Type 0 where
  pub exponent : ℕ
  pub is : size ≡ 2 ^ exponent

-- this leaf is at most the bound, and those before it are above it
pub record IsFirst (nodes : List ℕ) (size : ℕ) (bound : ℕ) (leaf : ℕ) : Type 0 where
  pub within : leaf < size
  pub passes : slice_index nodes (size + leaf) ≤ bound
  pub before : (i : ℕ) → i < leaf → bound < slice_index nodes (size + i)

-- a size, if there is one: a power of two and at least what is wanted, and twice as many nodes can be counted by 64 bits
abbrev pub IsSizeFor : ℕ → Option ℕ → Type 0
IsSizeFor wanted None = Unit {0}
IsSizeFor wanted (Some size) = IsPower size × (wanted ≤ size) × (size + size < 2 ^ 64)

-- the node covers the leaves from the first on, so many of them
pub record Covers (size at first width : ℕ) : Type 0 where
  pub one : 1 ≤ at
  pub place : at * width ≡ size + first
  pub power : IsPower width
  pub fits : first + width ≤ size

-- the leaves that come at or after both of these places, and before the end, are above the bound
pub record AreAbove (nodes : List ℕ) (size bound first from end : ℕ) : Type 0 where
  pub each : (leaf : ℕ) → first ≤ leaf → from ≤ leaf → leaf < end → bound < slice_index nodes (size + leaf)

-- this leaf is one of them and at most the bound, and those before it are above the bound
pub record IsFirstOf (nodes : List ℕ) (size bound first from end leaf : ℕ) : Type 0 where
  pub low : first ≤ leaf
  pub after : from ≤ leaf
  pub high : leaf < end
  pub passes : slice_index nodes (size + leaf) ≤ bound
  pub before : AreAbove nodes size bound first from leaf

-- the first of these leaves that is at most the bound, if there is one
abbrev pub IsFirstFrom : List ℕ → (size bound first from end : ℕ) → Option ℕ → Type 0
IsFirstFrom nodes size bound first from end None = AreAbove nodes size bound first from end
IsFirstFrom nodes size bound first from end (Some leaf) = IsFirstOf nodes size bound first from end leaf
