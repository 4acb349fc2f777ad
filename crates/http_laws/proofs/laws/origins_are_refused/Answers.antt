use Rattle.http_laws.proofs.Refusing.{origins_are_refused}
use Rattle.http_laws.proofs.laws.origins_are_refused.Goals as goal

pub returns : goal.returns
returns c = origins_are_refused
