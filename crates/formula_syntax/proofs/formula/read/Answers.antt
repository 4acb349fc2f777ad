use Rattle.formula_syntax.specs.Wholes.{whole_of}
use Rattle.formula_trees.specs.View.{statements_of}
use Rattle.formula_syntax.proofs.Faults.{fault_in_loop}
use Rattle.formula_syntax.proofs.formula.read.Goals as goal

pub returns-in-Err : goal.returns-in-Err
returns-in-Err c =
    fault_in_loop c.in-Err.error c.take_shallow.new.statements.items
    (statements_of c.take_shallow.new.statements.items) c.args.tokens.now c.loop-token.token-index c.token-item.result c.args.length
    (whole_of (statements_of c.loop-token.statements.items) c.loop-token.progress) _ c.token-item.is c.loop-token-test.true c.in-Err.ensures
    c.loop-token.invariant
