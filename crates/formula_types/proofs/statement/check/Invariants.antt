use Rattle.std.proofs.Common.{◌≡◌, drop}
use Rattle.formula_trees.specs.View.{statements_of}
use Rattle.formula_types.specs.Scopes.{nothing}
use Rattle.formula_types.specs.Typing.{typed}
use Rattle.formula_types.specs.View.{types_in}
use Rattle.formula_types.proofs.statement.check.Given as goal

abbrev pub invariant-loop-statement : goal.invariant-loop-statement
invariant-loop-statement l =
    typed l.text (types_in l.scope) (statements_of (drop l.statement-index l.statements)) ≡ typed l.text nothing (statements_of l.statements)
