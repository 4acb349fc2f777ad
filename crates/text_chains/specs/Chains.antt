-- Texts with places, in lists of links and bytes. Each link has a place and the end of its text among the bytes.
use Rattle.std.specs.Prelude.{◌≡◌, ℕ, zero, suc, ◌+◌, ◌*◌, ◌<◌, ◌≤◌, Bool, List, [], ◌∷◌, length, map, filter, slice_get, slice_index, slice_range, Option, Some, None, vec_len, vec_capacity, Vec, if◌then◌else◌}
use Rattle.std.specs.List.{AllByRecursion}
use Rattle.std.specs.Str.{bytes_eq}
use Rattle.hash_index.specs.Hashes.{text_hash}
use Rattle.text_chains.specs.declared.links.Link.{Link}
use Rattle.text_chains.specs.declared.links.TheConstants.{MOST_BYTES}

-- what contracts see of a map: texts with their places, the one that was added last first, and how many more places can be added
-- without allocating
pub record ChainsView : Type 0 where
  pub chains : List (List ℕ × ℕ)
  pub room : ℕ

-- the places of a text, the one that was added last first
unfoldable pub places_of : ChainsView → List ℕ → List ℕ
places_of view text = map (λ chain. chain.1) (filter (λ chain. bytes_eq text chain.0) view.chains)

-- the places of the texts, with this place before those of this text
abbrev pub with_place : (List ℕ → List ℕ) → List ℕ → ℕ → List ℕ → List ℕ
with_place places text place other = if bytes_eq text other then place ∷ places other else places other

-- the place of a link, or 0 if there is no link
abbrev pub place_in : Option Link → ℕ
place_in None = 0
place_in (Some link) = link.place

-- the end of the text of a link, or 0 if there is no link
abbrev pub end_in : Option Link → ℕ
end_in None = 0
end_in (Some link) = link.text_end

-- the place of the link with this number, from 0
abbrev pub place_at : List Link → ℕ → ℕ
place_at links number = place_in (slice_get links number)

-- where the text of the link with this number ends among the bytes
abbrev pub text_end : List Link → ℕ → ℕ
text_end links number = end_in (slice_get links number)

-- where the text of the link with this number begins: where that of the link before it ends
abbrev pub text_start : List Link → ℕ → ℕ
text_start links zero = 0
text_start links (suc before) = text_end links before

-- the text of the link with this number
abbrev pub text_at : List Link → List ℕ → ℕ → List ℕ
text_at links texts number = slice_range texts (text_start links number) (text_end links number)

-- the texts of the links below a number with their places, the greatest number first
abbrev pub chains_below : ℕ → List Link → List ℕ → List (List ℕ × ℕ)
chains_below zero links texts = []
chains_below (suc number) links texts = (text_at links texts number, place_at links number) ∷ chains_below number links texts

-- the texts of the links with their places, the last link first
abbrev pub chains_of : List Link → List ℕ → List (List ℕ × ℕ)
chains_of links texts = chains_below (length links) links texts

-- whether the link with this number has this text
abbrev pub has_text : List Link → List ℕ → List ℕ → ℕ → Bool
has_text links texts text number = bytes_eq text (text_at links texts number)

-- the places of those of the links with these numbers that have this text
abbrev pub placed : List Link → List ℕ → List ℕ → List ℕ → List ℕ
placed links texts text numbers = map (place_at links) (filter (has_text links texts text) numbers)

-- each number is that of a link
abbrev pub AreNumbers : List Link → List ℕ → Type 0
AreNumbers links numbers = AllByRecursion (λ number. number < length links) numbers

-- the text of each link stands within the bytes
pub record AreWithin (links : List Link) (texts : List ℕ) : Type 0 where
  pub ordered : (number : ℕ) → number < length links → text_start links number ≤ text_end links number
  pub within : (number : ℕ) → number < length links → text_end links number ≤ length texts

-- the hashes are those of the texts, and these take all bytes
pub record AreHashed (hashes : List ℕ) (links : List Link) (texts : List ℕ) : Type 0 where
  pub counted : length hashes ≡ length links
  pub hashed : (number : ℕ) → number < length links → slice_index hashes number ≡ text_hash (text_at links texts number)
  pub within : AreWithin links texts
  pub ended : text_start links (length links) ≡ length texts

-- `room` more places can be added without allocating, where the index has room for `added` more
pub record HasRoom {Y Z : Type 0} (added : ℕ) (stored : Vec Link Y) (bytes : Vec ℕ Z) (room : ℕ) : Type 0 where
  pub hashes : room ≤ added
  pub links : vec_len stored + room ≤ vec_capacity stored
  pub texts : vec_len bytes + room * MOST_BYTES ≤ vec_capacity bytes
