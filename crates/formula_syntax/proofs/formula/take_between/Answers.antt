use Rattle.std.proofs.Common.{arith}
use Rattle.std.proofs.lemmas.Grind.{common_steps}
use Rattle.formula_syntax.proofs.formula.take_between.Goals as goal

pub returns-in_default : goal.returns-in_default
returns-in_default c = λ done. let h = c.advance.ensures done in grind (arith, common_steps, h)
