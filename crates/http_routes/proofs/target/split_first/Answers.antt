use Rattle.http_routes.proofs.Splits.{parts_of}
use Rattle.http_routes.proofs.target.split_first.Goals as goal

pub returns-clause-parts : goal.returns-clause-parts
returns-clause-parts c = parts_of c.args.separator c.args.text.now c.split_once.result c.split_once.ensures.cases c.requires
