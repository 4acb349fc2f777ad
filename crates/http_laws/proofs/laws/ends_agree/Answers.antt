use Rattle.http_laws.proofs.Agreeing.{ends_agree_all}
use Rattle.http_laws.proofs.laws.ends_agree.Goals as goal

pub returns : goal.returns
returns c = ends_agree_all
