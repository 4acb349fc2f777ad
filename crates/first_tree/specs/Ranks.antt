-- What contracts see of a tree: the list of its ranks, and its room.
use Rattle.std.specs.Prelude.{◌≡◌, ℕ, suc, ◌+◌, ◌-◌, ◌^◌, ◌<◌, ◌≤◌, List, [], ◌∷◌, length, drop, slice_index, nat_le, min, Option, Some, None, if◌then◌else◌}
use Rattle.std.specs.Option.{option_map}
use Rattle.first_tree.specs.Nodes.{IsTree, IsPower}

-- the ranks by their places, and how many more can be pushed without allocating
pub record Ranks : Type 0 where
  pub items : List ℕ
  pub room : ℕ

-- the rank that no bound reaches
abbrev pub no_rank : ℕ
no_rank = 2 ^ 64 - 1

-- the place of the first rank that is at most the bound
abbrev pub first_within : ℕ → List ℕ → Option ℕ
first_within bound [] = None
first_within bound (rank ∷ ranks) = if nat_le rank bound then Some 0 else option_map suc (first_within bound ranks)

-- the place of the first rank at or after this place that is at most the bound
abbrev pub first_within_from : (from bound : ℕ) → List ℕ → Option ℕ
first_within_from from bound ranks = option_map (λ place. from + place) (first_within bound (drop from ranks))

-- the least of the ranks, and no rank if there are none
abbrev pub least_rank : List ℕ → ℕ
least_rank [] = no_rank
least_rank (rank ∷ ranks) = min rank (least_rank ranks)

-- a tree over `size` leaves, of which the first `len` are ranks and the rest no rank
pub record IsWhole (nodes : List ℕ) (size len : ℕ) : Type 0 where
  pub length : length nodes ≡ size + size
  pub tree : IsTree nodes size
  pub power : IsPower size
  pub within : len ≤ size
  pub rest : (i : ℕ) → len ≤ i → i < size → slice_index (drop size nodes) i ≡ no_rank
