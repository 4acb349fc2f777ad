use Rattle.std.proofs.Common.{◌≡◌, IfOk, subst}
use Rattle.batch_model.specs.JobRules.{all_complete}
use Rattle.job_rules.proofs.rule.all_complete.Goals as goal

pub returns : goal.returns
unfolding all_complete
returns c = subst (λ bytes. IfOk c.of_string.result (λ text. text ≡ bytes)) c.in_ok-from_str.ensures.ok c.of_string.ensures
