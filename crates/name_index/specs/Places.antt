-- An index as the places in a list of what has a name.
use Rattle.std.specs.Prelude.{◌≡◌, ℕ, Bool, List}
use Rattle.std.specs.List.{position}
use Rattle.name_index.specs.declared.index.NameIndex.{NameIndex}
use Rattle.name_index.specs.Numbers.{number_of}

-- the number of each name is the place of the first of these that has it; `named` says what has a name
abbrev pub ArePlaces : {X : Type 0} → (List ℕ → X → Bool) → NameIndex → List X → Type 0
ArePlaces named index items = (name : List ℕ) → number_of index name ≡ position (named name) items
