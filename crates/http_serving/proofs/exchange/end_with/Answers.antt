use Rattle.http_serving.proofs.Cutting.{answer_unwritten}
use Rattle.http_serving.proofs.exchange.end_with.Goals as goal

pub returns-in_default-end_text-clause-closed : goal.returns-in_default-end_text-clause-closed
returns-in_default-end_text-clause-closed g c = answer_unwritten (g.L.Link.taken c.args.link.now) c.args.end c.in-BadHead.is
