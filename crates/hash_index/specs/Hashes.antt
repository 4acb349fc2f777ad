-- Places by the hashes of their texts. The place of a hash is its number in the list, from 0.
use Rattle.std.specs.Prelude.{ℕ, zero, suc, ◌+◌, ◌*◌, ◌%◌, nat_eq, List, [], ◌∷◌, length, slice_index, if◌then◌else◌}

-- what contracts see of an index: the hashes by their places, and how many more can be added without allocating
pub record HashesView : Type 0 where
  pub hashes : List ℕ
  pub room : ℕ

-- the hash of a text that follows one with this hash
abbrev pub hash_from : ℕ → List ℕ → ℕ
hash_from hash [] = hash
hash_from hash (byte ∷ text) = hash_from ((hash * 16777619 + byte) % 4294967296) text

-- the hash of a text
unfoldable pub text_hash : List ℕ → ℕ
text_hash text = hash_from 2166136261 text

-- the places below a number that have this hash, the greatest first
abbrev pub places_below : ℕ → ℕ → List ℕ → List ℕ
places_below zero hash hashes = []
places_below (suc place) hash hashes = if nat_eq (slice_index hashes place) hash then place ∷ places_below place hash hashes else places_below place hash hashes

-- the places that have this hash, the one that was added last first
unfoldable pub places_with : ℕ → List ℕ → List ℕ
places_with hash hashes = places_below (length hashes) hash hashes
