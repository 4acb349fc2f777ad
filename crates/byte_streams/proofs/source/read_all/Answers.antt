use Rattle.std.proofs.Common.{rules}
use Rattle.byte_streams.proofs.Reading.{read_more}
use Rattle.byte_streams.proofs.source.read_all.Goals as goal

pub returns-then-len-limit-clause-long : goal.returns-then-len-limit-clause-long
returns-then-len-limit-clause-long g c _ =
    let left = g.R.Source.left in
    read_more (left c.args.source.now) (left c.loop-bytes.source) (left c.read.new.self) c.loop-bytes.bytes.items _ _ c.args.limit c.loop-bytes.invariant.read
    c.in_ok-count.ensures.bytes.0 c.in_ok-extend_from_slice.ensures.items (search rules)
