use Rattle.http_serving.proofs.Cutting.{none_of_response}
use Rattle.http_serving.proofs.exchange.write_response.Goals as goal

pub returns-in_default-clause-written : goal.returns-in_default-clause-written
returns-in_default-clause-written g c = (none_of_response (g.L.Link.taken c.args.link.now) c.args.to_head c.args.response.now, tt)
