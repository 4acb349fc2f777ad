use Rattle.std.proofs.Common.{◌∙◌, sym, ap, position}
use Rattle.bt_rows.specs.Lists.{put_row}
use Rattle.bt_rows.proofs.PutRows.{placed, absent}
use Rattle.name_index.specs.Numbers.{number_of}
use Rattle.formula_eval.specs.declared.outcome.Variable.{Variable}
use Rattle.formula_eval.specs.Outcomes.{is_named}
use Rattle.formula_eval.proofs.VariableLists.{put_kept}
use Rattle.formula_eval.proofs.outcome.Variables.set.Goals as goal

pub invariant_of-self : goal.invariant_of-self
invariant_of-self c =
    let variable : Variable = record { name = c.args.name; value = c.args.value } in
    let found = c.in-Some.ensures ∙ ap (number_of c.self.inside.places) (c.as_bytes.ensures.value ∙ c.as_str.ensures) ∙ c.self.invariant c.args.name in
    λ name. put_kept c.self.inside.places c.self.inside.items.items c.in-Some.place variable c.self.invariant found name
    ∙ ap (position (is_named name)) (sym c.put_at.ensures)

pub returns-in-Some-clause-set : goal.returns-in-Some-clause-set
returns-in-Some-clause-set c =
    let variable : Variable = record { name = c.args.name; value = c.args.value } in
    let found = c.in-Some.ensures ∙ ap (number_of c.self.inside.places) (c.as_bytes.ensures.value ∙ c.as_str.ensures) ∙ c.self.invariant c.args.name in
    c.put_at.ensures
    ∙ sym ((placed (is_named c.args.name) c.self.inside.items.items c.in-Some.place found).put variable)
    ∙ ap (put_row (is_named c.args.name) variable) c.self.view_is

pub returns-in_ok-append-in-None-clause-set : goal.returns-in_ok-append-in-None-clause-set
returns-in_ok-append-in-None-clause-set c =
    let variable : Variable = record { name = c.args.name; value = c.args.value } in
    let found = c.in-None.ensures ∙ ap (number_of c.self.inside.places) (c.as_bytes.ensures.value ∙ c.as_str.ensures) ∙ c.self.invariant c.args.name in
    c.in_ok-append-in-None.ensures.appended
    ∙ sym ((absent (is_named c.args.name) c.self.inside.items.items found).put variable)
    ∙ ap (put_row (is_named c.args.name) variable) c.self.view_is
