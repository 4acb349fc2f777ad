-- Lists in the values of fields (RFC 9110, section 5.6.1): commas separate the items, with spaces and tabs round each.
use Rattle.std.specs.Prelude.{ℕ, ◌-◌, Bool, ◌||◌, List, length, take, drop, ◌==◌}
use Rattle.std.specs.List.{list_any, prefix_len, suffix_len, slice_split}
use Rattle.std.specs.Str.{str_eq_ignore_ascii_case}

-- optional white space is spaces and tabs (RFC 9110, section 5.6.3)
abbrev pub is_blank : ℕ → Bool
is_blank b = b == 32 || b == 9

abbrev pub is_comma : ℕ → Bool
is_comma b = b == 44

-- the text without the white space before it
abbrev pub skip_blank : List ℕ → List ℕ
skip_blank text = drop (prefix_len is_blank text) text

-- the text without the white space after it
abbrev pub drop_blank : List ℕ → List ℕ
drop_blank text = take (length text - suffix_len is_blank text) text

-- an item has this name, in any case
abbrev pub is_item : List ℕ → List ℕ → Bool
is_item name item = str_eq_ignore_ascii_case (drop_blank (skip_blank item)) name

-- a list has an item with this name
abbrev pub has_item : List ℕ → List ℕ → Bool
has_item name value = list_any (is_item name) (slice_split is_comma value)
