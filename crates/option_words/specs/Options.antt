-- The grammar of options, this project's own: each is a name with a value, as `--name value` or as `--name=value`, in any order,
-- each at most once.
use Rattle.std.specs.Prelude.{ℕ, suc, ◌==◌, Bool, true, false, not, ◌&&◌, List, [], ◌∷◌, Option, Some, None, option_map, option_and_then, find, drop}
use Rattle.std.specs.Prelude.{length, take, if◌then◌else◌}
use Rattle.std.specs.Option.{option_map_or}
use Rattle.std.specs.List.{list_all, list_any, position}
use Rattle.std.specs.Str.{bytes_eq}

-- the bytes of a word or of a name
abbrev pub Text : Type 0
Text = List ℕ

-- the name of an option, and its value
abbrev pub Setting : Type 0
Setting = Text × Text

-- the option that a word is: `--` (45 is `-`) and then its name
abbrev pub option_in : List Text → Text → Option Text
option_in names word = find (λ name. bytes_eq word (45 ∷ 45 ∷ name)) names

-- an option and its value in one word, cut at its first `=` (61)
abbrev pub joined_in : List Text → Text → Option Setting
joined_in names word = option_and_then (λ i. option_map (λ name. (name, drop (suc i) word)) (option_in names (take i word))) (position (λ b. b == 61) word)

-- whether the first byte is `-`
abbrev pub begins_with_hyphen : Text → Bool
begins_with_hyphen [] = false
begins_with_hyphen (b ∷ bs) = b == 45

-- an option and its value in a word of its own, which does not begin with `-`
abbrev pub separate_in : List Text → Text → Text → Option Setting
separate_in names word value = if begins_with_hyphen value then None
    else option_map (λ name. (name, value)) (option_in names word)

-- the options that the words have, in order; None if some word is neither an option nor the value of the option before it
abbrev pub all_in : List Text → List Text → Option (List Setting)
all_in names [] = Some []
all_in names (word ∷ []) = option_map (λ setting. setting ∷ []) (joined_in names word)
all_in names (word ∷ next ∷ rest) =
    option_map_or (λ setting. option_map (λ more. setting ∷ more) (all_in names (next ∷ rest))) (joined_in names word)
    (option_and_then (λ setting. option_map (λ more. setting ∷ more) (all_in names rest)) (separate_in names word next))

-- whether the option with this name is given
abbrev pub is_given : Text → List Setting → Bool
is_given name settings = list_any (λ (s : Setting). bytes_eq s.0 name) settings

-- whether no option is given twice
abbrev pub are_distinct : List Setting → Bool
are_distinct [] = true
are_distinct (s ∷ rest) = not (is_given s.0 rest) && are_distinct rest

-- these options if none is given twice
abbrev pub if_distinct : List Setting → Option (List Setting)
if_distinct settings = if are_distinct settings then Some settings else None

-- the options that the words have; None also if an option is given twice
abbrev pub settings_in : List Text → List Text → Option (List Setting)
settings_in names words = option_and_then if_distinct (all_in names words)

-- the value of the option with this name, the first if it is given twice
abbrev pub value_for : Text → List Setting → Option Text
value_for name settings = option_map (λ (s : Setting). s.1) (find (λ (s : Setting). bytes_eq s.0 name) settings)

-- a name that an option may have: it is not empty and has no `=` (61)
abbrev pub is_name : Text → Bool
is_name name = not (length name == 0) && not (list_any (λ x. x == 61) name)

-- whether each name is one
abbrev pub are_names : List Text → Bool
are_names = list_all is_name
