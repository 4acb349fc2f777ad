use Rattle.http_serving.proofs.Buffers.{loses_more}
use Rattle.http_serving.proofs.messages.fill_line.Goals as goal

pub returns-in-Err-clause-bytes : goal.returns-in-Err-clause-bytes
returns-in-Err-clause-bytes g c = (loses_more c.line.invariant.grows c.in-Err.ensures.bytes.0, c.in-Err.ensures.bytes.1)
