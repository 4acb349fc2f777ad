use Rattle.std.proofs.Common.{◌∙◌, ap}
use Rattle.bt_base.specs.FormulaFaults.{name_of, place_of}
use Rattle.std.proofs.lemmas.Result.{IfOk-weaker}
use Rattle.bt_base.proofs.Utf8Texts.{of_text}
use Rattle.formula_trees.specs.View.{statements_of}
use Rattle.cli_formula.specs.Shown.{shown_of}
use Rattle.cli_formula.proofs.Showings.{shows_formula, shows_fault}
use Rattle.cli_formula.proofs.show.show_text.Goals as goal

pub returns-in-Ok : goal.returns-in-Ok
returns-in-Ok c =
    IfOk-weaker c.show_formula.result _ _
    (λ shown e. shows_formula c.args.options.now c.args.options.dedicated c.args.text.now c.in-Ok.formula.text (statements_of c.in-Ok.formula.statements.items)
    (shown_of shown) (of_text c.args.text.now c.utf8.text) c.in-Ok.ensures.formula.0 c.in-Ok.ensures.formula.1 e)
    c.show_formula.ensures

pub returns-in-Err-Why : goal.returns-in-Err-Why
returns-in-Err-Why c =
    IfOk-weaker c.of_fault.result _ _
    (λ shown e. shows_fault c.args.options.now c.args.options.dedicated c.args.text.now c.in-Err-Why.fault c.name.result.now c.place.result (shown_of shown)
    (of_text c.args.text.now c.utf8.text) (rw c.in-Err-Why.field-0-is at c.in-Err-Why.ensures.formula) (c.name.ensures ∙ ap name_of c.in-Err-Why.fault-is)
    (c.place.ensures ∙ ap place_of c.in-Err-Why.fault-is) e)
    c.of_fault.ensures
