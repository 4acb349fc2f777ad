use Rattle.std.proofs.Common.{◌≡◌, Result, true, sym, ap, ◌∙◌, subst, IfOk, is_ok}
use Rattle.bt_base.specs.declared.fail.Fail.{Fail}
use Rattle.formula_trees.specs.View.{statements_of}
use Rattle.bt_base.specs.declared.formula_fault.FormulaFault.{FormulaFault}
use Rattle.formula_types.specs.Scopes.{nothing}
use Rattle.formula_types.specs.Typing.{typed}
use Rattle.formula_types.specs.Compiled.{HasFault, OrFault, have_types, in_types}
use Rattle.formula_types.proofs.compiler.types.Goals as goal
use Rattle.formula_types.proofs.compiler.types.Goals.{in-Ok, in-Err-Memory, in-Err-Why}

pub returns-clause-typed : goal.returns-clause-typed
returns-clause-typed c =
    let text = c.args.text.now in
    let ss = statements_of c.args.statements.now in
    let Typed : Result (Unit {0}) (Fail FormulaFault) → Type 0 = λ r. IfOk r (λ _. have_types text ss ≡ true) in
    elim c.match-check.branch [
      | in-Ok w ↦ subst Typed (sym w.result-is) (ap (λ b. is_ok (typed b nothing ss)) (sym c.as_bytes.ensures.value) ∙ ap is_ok w.in-Ok.ensures)
      | in-Err-Memory w ↦ subst Typed (sym w.result-is) tt
      | in-Err-Why w ↦ subst Typed (sym w.result-is) tt
    ]

pub returns-clause-fault : goal.returns-clause-fault
returns-clause-fault c =
    λ tokens read.
    let text = c.args.text.now in
    let ss = statements_of c.args.statements.now in
    let Answers : Result (Unit {0}) (Fail FormulaFault) → Type 0 = λ r. OrFault text (λ _. Unit {0}) r in
    elim c.match-check.branch [
      | in-Ok w ↦ subst Answers (sym w.result-is) tt
      | in-Err-Memory w ↦ subst Answers (sym w.result-is) tt
      | in-Err-Why w ↦
          let found = rw w.in-Err-Why.field-0-is at w.in-Err-Why.ensures in
          let fault = in_types w.in-Err-Why.fault read (ap (λ b. typed b nothing ss) (sym c.as_bytes.ensures.value) ∙ found) in
          subst Answers (sym w.result-is) (subst (HasFault text) (sym w.of_type.ensures) fault)
    ]
