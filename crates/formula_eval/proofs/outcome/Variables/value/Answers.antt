use Rattle.std.proofs.Common.{rules, ◌≡◌, ◌∙◌, ap, get_or}
use Rattle.std.specs.Option.{option_map}
use Rattle.formula_eval.specs.Outcomes.{value_among}
use Rattle.formula_eval.proofs.VariableLists.{value_absent, value_placed}
use Rattle.formula_eval.proofs.outcome.Variables.value.Goals as goal

pub returns-in_err-place : goal.returns-in_err-place
returns-in_err-place c =
    ap (option_map (λ known. known.now)) c.from_residual.ensures
    ∙ value_absent c.self.inside.items.items c.args.name.now (c.in_err-place.ensures ∙ c.self.invariant c.args.name.now)
    ∙ ap (λ variables. value_among variables c.args.name.now) c.self.view_is

pub returns : goal.returns
returns c =
    let here : get_or c.self.inside.items.items c.in_ok-place.place c.in_ok-variable.variable.now ≡ c.in_ok-variable.variable.now = search rules in
    value_placed c.self.inside.items.items c.args.name.now c.in_ok-place.place c.in_ok-variable.variable.now
    (c.in_ok-place.ensures ∙ c.self.invariant c.args.name.now) here
    ∙ ap (λ variables. value_among variables c.args.name.now) c.self.view_is
