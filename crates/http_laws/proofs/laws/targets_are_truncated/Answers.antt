use Rattle.http_laws.proofs.Truncating.{targets_are_truncated}
use Rattle.http_laws.proofs.laws.targets_are_truncated.Goals as goal

pub returns : goal.returns
returns c = targets_are_truncated
