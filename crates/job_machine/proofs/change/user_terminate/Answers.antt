use Rattle.std.proofs.Common.{◌≡◌, IfOk, subst}
use Rattle.batch_model.specs.Events.{user_terminate}
use Rattle.job_machine.proofs.change.user_terminate.Goals as goal

pub returns : goal.returns
unfolding user_terminate
returns c = subst (λ bytes. IfOk c.of_string.result (λ text. text ≡ bytes)) c.in_ok-from_str.ensures.ok c.of_string.ensures
