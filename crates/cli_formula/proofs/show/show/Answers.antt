use Rattle.std.proofs.lemmas.Result.{IfOk-weaker}
use Rattle.cli_formula.specs.Shown.{shown_of}
use Rattle.cli_formula.proofs.Showings.{shows_no_text}
use Rattle.cli_formula.proofs.show.show.Goals as goal

pub returns-in-Err : goal.returns-in-Err
returns-in-Err c =
    IfOk-weaker c.of_fault.result _ _
    (λ shown e. shows_no_text c.args.options.now c.args.options.dedicated c.args.bytes.now c.in-Err.error.valid_up_to c.valid_up_to.result
    (shown_of shown) c.in-Err.ensures.cases.0 c.in-Err.ensures.cases.1 c.valid_up_to.ensures e)
    c.of_fault.ensures
