use Rattle.bt_samples.proofs.LastTaken.{holds_the_last_taken}
use Rattle.bt_samples.proofs.history.pushes_keep_the_last.Goals as goal

pub returns : goal.returns
returns c = holds_the_last_taken
