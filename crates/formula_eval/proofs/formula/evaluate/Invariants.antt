use Rattle.std.proofs.Common.{◌≡◌, drop}
use Rattle.formula_trees.specs.View.{statements_of}
use Rattle.formula_eval.specs.Statements.{statements_done, evaluated}
use Rattle.formula_eval.proofs.formula.evaluate.Given as goal

abbrev pub invariant-loop-statement : goal.invariant-loop-statement
invariant-loop-statement l =
    statements_done l.text l.metrics l.now l.outcome (statements_of (drop l.statement-index l.statement-items))
    ≡ evaluated l.text (statements_of l.statement-items) l.metrics l.now l.fn.start
