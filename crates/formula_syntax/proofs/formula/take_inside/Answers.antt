use Rattle.std.proofs.Common.{subst}
use Rattle.formula_trees.specs.Spans.{span_of}
use Rattle.formula_syntax.specs.Whole.{Whole}
use Rattle.std.proofs.Common.{Option}
use Rattle.formula_syntax.specs.Wholes.{TakesWhole, target_of}
use Rattle.formula_trees.specs.View.{statements_of}
use Rattle.formula_syntax.specs.States.{state_of}
use Rattle.formula_syntax.specs.Stacks.{stack_of}
use Rattle.formula_syntax.proofs.Faults.{inside_as}
use Rattle.formula_syntax.proofs.formula.take_inside.Goals as goal

pub returns-in_default : goal.returns-in_default
returns-in_default c =
    let done = statements_of c.args.statements.now.items in
    let q = state_of (stack_of c.args.stack) c.args.position in
    let same = inside_as c.args.token.kind (span_of c.args.token) done (target_of c.args.target) q c.in_default.not-Semicolon in
    subst (λ (o : Option Whole). TakesWhole done c.advance.result c.args.token.from o) same (c.advance.ensures done)
