use Rattle.std.proofs.Common.{suc, arith, pow-suc}
use Rattle.first_tree.proofs.min_tree.size_for.Goals as goal

pub loop-size-preserved : goal.loop-size-preserved
loop-size-preserved c = let p = c.loop-size.invariant in record { exponent = suc p.exponent; is = omega (arith, p.is, pow-suc 2 p.exponent) }
