use Rattle.std.proofs.Common.{Err, sym, ap, subst}
use Rattle.formula_types.specs.Compiled.{HasFault, in_syntax}
use Rattle.formula_types.proofs.compiler.statements.Goals as goal

pub returns-in-Err-Why : goal.returns-in-Err-Why
returns-in-Err-Why c =
    let found = c.in-Err-Why.ensures.fault c.in-Err-Why.fault (ap Err c.in-Err-Why.field-0-is) in
    subst (HasFault c.args.text.now) (sym c.of_syntax.ensures) (in_syntax c.in-Err-Why.fault c.requires found)
