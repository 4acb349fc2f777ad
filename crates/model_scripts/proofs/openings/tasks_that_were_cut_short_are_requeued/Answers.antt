use Rattle.std.proofs.Common.{refl}
use Rattle.bt_base.specs.Ids.{same}
use Rattle.model_scripts.proofs.openings.tasks_that_were_cut_short_are_requeued.Goals as goal

pub returns : goal.returns
unfolding same
returns c = refl
