use Rattle.http_laws.proofs.Telling.{one_message}
use Rattle.http_laws.proofs.laws.one_message.Goals as goal

pub returns : goal.returns
returns c = one_message
