use Rattle.std.proofs.Common.{◌∙◌, arith}
use Rattle.formula_trees.proofs.Literals.{one_more}
use Rattle.formula_trees.proofs.literal.shown.Goals as goal

pub loop-digit-preserved : goal.loop-digit-preserved
loop-digit-preserved c =
    let looped = c.loop-digit in
    record {
      in_range = omega arith;
      shown = looped.invariant.shown ∙ one_more looped.number c.min-number.result c.args.digits.now looped.digit-index (omega arith) (cc);
    }
