use Rattle.std.proofs.Common.{◌≡◌, [], drop}
use Rattle.formula_syntax.specs.Whole.{Between, parsed}
use Rattle.formula_syntax.specs.Wholes.{whole_of}
use Rattle.formula_trees.specs.View.{statements_of}
use Rattle.formula_syntax.proofs.formula.read.Given as goal

abbrev pub invariant-loop-token : goal.invariant-loop-token
invariant-loop-token l = parsed l.length (drop l.token-index l.tokens) (whole_of (statements_of l.statements.items) l.progress)
    ≡ parsed l.length l.tokens (Between [])
