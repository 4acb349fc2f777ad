use Rattle.http_laws.proofs.Refusing.{only_origins}
use Rattle.http_laws.proofs.laws.only_origins_are_refused.Goals as goal

pub returns : goal.returns
returns c = only_origins
