-- Words of a command line in which texts stand for names.
use Rattle.std.specs.Prelude.{ℕ, zero, suc, ◌-◌, nat_eq, List, [], ◌∷◌, length, Option, Some, None, flat_map, unwrap_or}
use Rattle.std.specs.List.{find, starts_with}
use Rattle.child_words.specs.declared.names.Name.{Name}
use Rattle.child_words.specs.declared.names.Names.{Names}
use Rattle.child_words.specs.Names.{name_text, all_names, text_of}

-- what a word consists of: names, and bytes that begin none
pub data Part : Type 0 where
  Named : Name → Part
  Single : ℕ → Part

-- the name that the bytes begin with
abbrev pub name_at : List ℕ → Option Name
name_at bytes = find (λ name. starts_with nat_eq bytes (name_text name)) all_names

-- the part that begins at a byte: the name that stands there, or else the byte itself
abbrev pub part_of : Option Name → ℕ → Part
part_of None byte = Single byte
part_of (Some name) byte = Named name

-- how many bytes that part has after its first
abbrev pub bytes_left : Option Name → ℕ
bytes_left None = 0
bytes_left (Some name) = length (name_text name) - 1

-- the parts of the bytes, from the left; this number of first bytes belongs to a part that begins before them
abbrev pub parts_after : ℕ → List ℕ → List Part
parts_after left [] = []
parts_after (suc left) (byte ∷ bytes) = parts_after left bytes
parts_after zero (byte ∷ bytes) = part_of (name_at (byte ∷ bytes)) byte ∷ parts_after (bytes_left (name_at (byte ∷ bytes))) bytes

-- what is written for a part: the text of a name, or the name itself if it has no text; a byte stays
abbrev pub put_for : Names → Part → List ℕ
put_for names (Named name) = unwrap_or (text_of names name) (name_text name)
put_for names (Single byte) = byte ∷ []

-- a word with texts in the place of names; the parts are those of the word, so the texts are not looked at again
unfoldable pub fill_word : Names → List ℕ → List ℕ
fill_word names word = flat_map (put_for names) (parts_after 0 word)
