use Rattle.std.proofs.Common.{◌&&◌, nat_eq, refl, ◌∙◌, rules}
use Rattle.std.proofs.lemmas.Iterator.Consumers.{YieldsList-from_first}
use Rattle.std.proofs.lemmas.Iterator.Search.{any_from_yields_List}
use Rattle.batch_model.specs.Dues.{is_retained}
use Rattle.batch_model.specs.Variants.{RunRow}
use Rattle.node_machine.proofs.dropping.has_retained.Goals as goal

pub returns : goal.returns
returns c =
    let s = c.args.indexed.now.state in
    any_from_yields_List (λ (run : RunRow). nat_eq run.node c.args.node && is_retained s run) _ _ c.any.result c.any.ensures.ran
    (YieldsList-from_first (λ run. run.now) (λ rest. rest) c.runs_on.result refl) (λ x b q called. search rules)
    ∙ c.runs_on.ensures (is_retained s)
