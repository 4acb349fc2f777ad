-- Buckets of hashes. The bucket of a hash is its remainder by the count of the buckets. A place is known by its number, which is one
-- plus the place, and 0 stands for none.
use Rattle.std.specs.Prelude.{◌≡◌, ℕ, zero, suc, ◌+◌, ◌-◌, ◌%◌, ◌<◌, ◌≤◌, nat_eq, List, length, slice_index, if◌then◌else◌, vec_len, vec_capacity, Vec}

-- the number of the last place below this number whose hash is in the bucket, or 0
abbrev pub newest : ℕ → ℕ → List ℕ → ℕ → ℕ
newest bucket count hashes zero = 0
newest bucket count hashes (suc place) = if nat_eq (slice_index hashes place % count) bucket then suc place else newest bucket count hashes place

-- below this number each place leads to the last one before it in its bucket
pub record AreNext (count : ℕ) (hashes nexts : List ℕ) (number : ℕ) : Type 0 where
  pub each : (place : ℕ) → place < number → slice_index nexts place ≡ newest (slice_index hashes place % count) count hashes place

-- each bucket leads to its last place below this number
pub record AreHeads (hashes heads : List ℕ) (number : ℕ) : Type 0 where
  pub each : (bucket : ℕ) → bucket < length heads → slice_index heads bucket ≡ newest bucket (length heads) hashes number

-- the buckets have all places
pub record IsChained (hashes nexts heads : List ℕ) : Type 0 where
  pub long : length nexts ≡ length hashes
  pub next : AreNext (length heads) hashes nexts (length hashes)
  pub head : AreHeads hashes heads (length hashes)

-- `room` more hashes can be added without allocating
pub record HasRoom {X Y : Type 0} (added : Vec ℕ X) (links : Vec ℕ Y) (buckets : List ℕ) (room : ℕ) : Type 0 where
  pub hashes : vec_len added + room ≤ vec_capacity added
  pub nexts : vec_len links + room ≤ vec_capacity links
  pub heads : 0 < vec_len added + room → 0 < length buckets
  pub few : vec_len added + room ≤ 4294967295

-- the places of one bucket from this number on
pub record IsOnChain (count : ℕ) (hashes nexts : List ℕ) (hash number : ℕ) : Type 0 where
  pub long : length nexts ≡ length hashes
  pub next : AreNext count hashes nexts (length hashes)
  pub within : number ≤ length hashes
  pub here : 0 < number → slice_index hashes (number - 1) % count ≡ hash % count
  pub some : 0 < number → 0 < count
