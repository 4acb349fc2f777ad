-- Parts of JSON: numbers, lists, and the members of objects, which are in the order of the bytes of their names.
use Rattle.std.specs.Prelude.{ℕ, ℤ, List, [], ◌∷◌, map, Option, Some, None}
use Rattle.serde_json.specs.Data.{Data, number, unsigned, string, array, Members, no_members, member, put}
use Rattle.serde_json.specs.Find.{of_integer}
use Rattle.serde_json.specs.View.{items_of}

-- a number that is not below zero
abbrev pub count_data : ℕ → Data
count_data n = number (unsigned n)

-- a number with a sign
abbrev pub whole_data : ℤ → Data
whole_data z = number (of_integer z)

-- a list of values
abbrev pub list_data : List Data → Data
list_data values = array (items_of values)

-- a list of texts
abbrev pub texts_data : List (List ℕ) → Data
texts_data texts = list_data (map string texts)

-- members with these names and values, whose names are in the order of their bytes
abbrev pub members_with : List (List ℕ × Data) → Members
members_with [] = no_members
members_with (m ∷ ms) = member m.0 m.1 (members_with ms)

-- a member more, at its place, if there is a value
abbrev pub with_member : List ℕ → Option Data → Members → Members
with_member name None members = members
with_member name (Some value) members = put name value members
