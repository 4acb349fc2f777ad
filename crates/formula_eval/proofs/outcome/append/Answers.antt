use Rattle.std.proofs.Common.{rules, ◌≡◌, ◌∙◌, ap, ◌++◌, ◌∷◌, [], length}
use Rattle.formula_eval.proofs.VariableLists.{put_last}
use Rattle.formula_eval.proofs.outcome.append.Goals as goal

pub returns-clause-places : goal.returns-clause-places
returns-clause-places c =
    let at_end : c.len.result ≡ length c.args.variables.now.items = search rules in
    put_last c.args.places.now c.put.new.self c.args.variables.now.items c.push.new.self.items c.args.variable c.as_bytes.result.now c.len.result
    c.requires.places c.requires.absent c.in_ok-put.ensures.put
    (c.as_bytes.ensures.value ∙ c.as_str.ensures)
    at_end
    (c.in_ok-push.ensures.items ∙ ap (λ variables. variables ++ c.args.variable ∷ []) c.reserve.ensures.items)
