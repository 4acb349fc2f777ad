use Rattle.http_head.proofs.Reading.{stays_read}
use Rattle.http_head.proofs.heads.read_head.Goals as goal

pub returns-clause-stays : goal.returns-clause-stays
returns-clause-stays c = stays_read c.args.buf.now c.read_front.result c.read_front.ensures
