use Rattle.std.proofs.Common.{refl, ◌∙◌, rules}
use Rattle.std.proofs.lemmas.Iterator.Consumers.{YieldsList-from_first}
use Rattle.std.proofs.lemmas.Iterator.Search.{any_from_yields_List}
use Rattle.batch_model.specs.Dues.{is_unended_on}
use Rattle.batch_model.specs.Runs.{is_unended}
use Rattle.batch_model.specs.Variants.{RunRow}
use Rattle.node_machine.proofs.dropping.has_unended.Goals as goal

pub returns : goal.returns
returns c =
    any_from_yields_List (is_unended_on c.args.node) _ _ c.any.result c.any.ensures.ran
    (YieldsList-from_first (λ run. run.now) (λ rest. rest) c.runs_on.result refl) (λ x b q called. search rules)
    ∙ c.runs_on.ensures (λ (run : RunRow). is_unended run.state)
