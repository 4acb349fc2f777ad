use Rattle.http_laws.proofs.Telling.{only_faults}
use Rattle.http_laws.proofs.laws.only_faults_before_a_message.Goals as goal

pub returns : goal.returns
returns c = only_faults
