use Rattle.std.proofs.Common.{not, rules, tests}
use Rattle.std.proofs.lemmas.Fn.{filter_same}
use Rattle.dependency_counts.specs.Counts.{Live, has_key}
use Rattle.dependency_counts.proofs.counts.remove_key.Goals as goal

pub returns : goal.returns
returns c = filter_same _ (λ (live : Live). not (has_key c.args.key live)) _ (λ x b q k. search (rules, tests)) _ _ c.retain.ensures.filtered
