-- The parts of a formula's text, and the names that were set in it so far.
use Rattle.std.specs.Prelude.{ℕ, ◌-◌, List, take, drop, Option, Some, None, if◌then◌else◌}
use Rattle.std.specs.Str.{bytes_eq}
use Rattle.formula_trees.specs.declared.token.Span.{Span}
use Rattle.formula_trees.specs.declared.value_types.ValueType.{ValueType}
use Rattle.formula_trees.specs.Names.{fixed_type}

-- a part of a text
abbrev pub part : List ℕ → Span → List ℕ
part text p = take (p.to - p.from) (drop p.from text)

-- the formula's own variables: the type of each name that is set, which is that of its first setting
abbrev pub Variables : Type 0
Variables = List ℕ → Option ValueType

-- no variable is set
abbrev pub nothing : Variables
nothing = λ name. None

-- the first of two types that is there
abbrev pub or_else : Option ValueType → Option ValueType → Option ValueType
or_else (Some value) other = Some value
or_else None other = other

-- the type of a name, if these variables are set
abbrev pub name_type : Variables → List ℕ → Option ValueType
name_type set name = or_else (fixed_type name) (set name)

-- one variable more
abbrev pub with_variable : Variables → List ℕ → ValueType → Variables
with_variable set name value = λ other. if bytes_eq name other then Some value else set other
