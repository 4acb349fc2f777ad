use Rattle.http_laws.proofs.Telling.{answered}
use Rattle.http_laws.proofs.laws.every_message_is_answered.Goals as goal

pub returns : goal.returns
returns g c = answered _
