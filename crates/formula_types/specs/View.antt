-- The variables that the program keeps.
use Rattle.std.specs.BTreeMap.{get_by}
use Rattle.std.specs.Cmp.Lexicographic.{slice_cmp}
use Rattle.std.specs.Ordering.{nat_cmp}
use Rattle.formula_types.specs.declared.scope.Scope.{Scope}
use Rattle.formula_types.specs.Scopes.{Variables}

-- the types of the variables in a scope, by their names
unfoldable pub types_in : Scope → Variables
types_in scope name = get_by (λ k. slice_cmp nat_cmp name k.now) scope.types
