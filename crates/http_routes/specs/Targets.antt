-- The parts of a request's target (RFC 9112, section 3.2; RFC 3986, sections 3.3 and 3.4). Nothing is percent-decoded.
use Rattle.std.specs.Prelude.{ℕ, Bool, List, find, Option, option_map, slice_get, ◌==◌}
use Rattle.std.specs.List.{before_first, after_first, slice_split}
use Rattle.std.specs.Str.{bytes_eq}

-- the byte is this separator
abbrev pub is_byte : ℕ → ℕ → Bool
is_byte separator b = b == separator

-- the bytes `?`, `/`, `&` and `=`
abbrev pub question_mark : ℕ
question_mark = 63

abbrev pub slash : ℕ
slash = 47

abbrev pub ampersand : ℕ
ampersand = 38

abbrev pub equals_sign : ℕ
equals_sign = 61

-- the target up to the first question mark, and what is after it
abbrev pub path_of : List ℕ → List ℕ
path_of target = before_first (is_byte question_mark) target

abbrev pub query_of : List ℕ → List ℕ
query_of target = after_first (is_byte question_mark) target

-- the part of a path at this place between its slashes; a path that begins with a slash has an empty one first
abbrev pub segment_at : ℕ → List ℕ → Option (List ℕ)
segment_at place path = slice_get (slice_split (is_byte slash) path) place

-- a member of a query up to its first equals sign, and what is after it
abbrev pub member_name : List ℕ → List ℕ
member_name member = before_first (is_byte equals_sign) member

abbrev pub member_value : List ℕ → List ℕ
member_value member = after_first (is_byte equals_sign) member

-- the member has this name
abbrev pub is_member : List ℕ → List ℕ → Bool
is_member name member = bytes_eq (member_name member) name

-- the value of the first member with this name, of members that ampersands separate
abbrev pub value_in : List ℕ → List ℕ → Option (List ℕ)
value_in name query = option_map member_value (find (is_member name) (slice_split (is_byte ampersand) query))
