use Rattle.shared_desk.proofs.Exchanging.{leaves_asker}
use Rattle.shared_desk.proofs.asker.exchanges_stand_in_the_history.Goals as goal

pub returns : goal.returns
returns g c = leaves_asker
