use Rattle.std.proofs.Common.{sym, subst}
use Rattle.formula_types.specs.Compiled.{HasFault, in_tokens}
use Rattle.formula_types.proofs.compiler.tokens.Goals as goal

pub returns-in-Err-Why : goal.returns-in-Err-Why
returns-in-Err-Why c =
    subst (HasFault c.args.text.now) (sym c.of_lexical.ensures) (in_tokens c.in-Err-Why.fault (rw c.in-Err-Why.field-0-is at c.in-Err-Why.ensures))
