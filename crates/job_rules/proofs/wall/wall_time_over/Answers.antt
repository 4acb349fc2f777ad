use Rattle.std.proofs.Common.{◌≡◌, IfOk, subst}
use Rattle.batch_model.specs.WallTimes.{wall_time_over}
use Rattle.job_rules.proofs.wall.wall_time_over.Goals as goal

pub returns : goal.returns
unfolding wall_time_over
returns c = subst (λ bytes. IfOk c.of_string.result (λ text. text ≡ bytes)) c.in_ok-from_str.ensures.ok c.of_string.ensures
