use Rattle.std.proofs.Common.{arith}
use Rattle.byte_streams.proofs.Gaining.{gains_more, cut_more}
use Rattle.byte_streams.proofs.sink.write_all.Goals as goal

pub loop-rest-preserved : goal.loop-rest-preserved
loop-rest-preserved g c =
    let before = c.loop-rest.invariant in
    let taken = g.W.Sink.taken in (
      _,
      cut_more c.args.piece.now before.0 c.loop-rest.rest.now c.in_ok-count.count before.1,
      gains_more (taken c.args.sink.now) (taken c.loop-rest.sink) (taken c.write.new.self) before.0 _ before.2 c.in_ok-count.ensures.bytes,
      omega (arith, c.in_ok-count.ensures.cause.later),
    )
