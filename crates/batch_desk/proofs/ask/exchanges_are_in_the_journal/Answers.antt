use Rattle.batch_desk.proofs.ExchangesEntered.{leaves_desk}
use Rattle.batch_desk.proofs.ask.exchanges_are_in_the_journal.Goals as goal

pub returns : goal.returns
returns g c = leaves_desk _ _
