-- Ranks in blocks of 16, and beside them the least rank of each block.
use Rattle.std.specs.Prelude.{◌≡◌, ℕ, ◌+◌, ◌*◌, ◌<◌, ◌≤◌, min, List, length, slice_index, Option, Some, None, Vec, vec_len, vec_capacity}
use Rattle.first_tree.specs.Ranks.{Ranks}

-- the ranks from one place on and before another are above the bound
pub record NoneWithin (ranks : List ℕ) (from end bound : ℕ) : Type 0 where
  pub each : (at : ℕ) → from ≤ at → at < end → bound < slice_index ranks at

-- the place is one of these, its rank is at most the bound, and those before it are above the bound
pub record IsFirstWithin (ranks : List ℕ) (from end bound at : ℕ) : Type 0 where
  pub low : from ≤ at
  pub high : at < end
  pub passes : slice_index ranks at ≤ bound
  pub before : NoneWithin ranks from at bound

-- the place of the first of these ranks that is at most the bound, if there is one
abbrev pub IsFirstIn : List ℕ → (from end bound : ℕ) → Option ℕ → Type 0
IsFirstIn ranks from end bound None = NoneWithin ranks from end bound
IsFirstIn ranks from end bound (Some at) = IsFirstWithin ranks from end bound at

-- at most each of these ranks, and itself one of them
pub record IsLeastIn (ranks : List ℕ) (from end least : ℕ) : Type 0 where
  pub each : (at : ℕ) → from ≤ at → at < end → least ≤ slice_index ranks at
  pub place : ℕ
  pub low : from ≤ place
  pub high : place < end
  pub is : slice_index ranks place ≡ least

-- the least ranks of the blocks, in order: each block has 16 ranks, and the last one at least one
pub record IsInBlocks (ranks leasts : List ℕ) : Type 0 where
  pub enough : length ranks ≤ 16 * length leasts
  pub few : 16 * length leasts < length ranks + 16
  pub least : (block : ℕ) → block < length leasts → IsLeastIn ranks (16 * block) (min (16 * block + 16) (length ranks)) (slice_index leasts block)

-- so many more ranks can be pushed without allocating
pub record HasRoom {Z : Type 0} (ranks : Vec ℕ Z) (blocks : Ranks) (room : ℕ) : Type 0 where
  pub in_ranks : vec_len ranks + room ≤ vec_capacity ranks
  pub in_blocks : length ranks.items + room ≤ 16 * (length blocks.items + blocks.room)
