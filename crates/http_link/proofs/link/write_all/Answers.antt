use Rattle.std.proofs.Common.{arith, ◌∙◌}
use Rattle.byte_streams.proofs.Gaining.{gains_more, cut_more}
use Rattle.http_link.proofs.link.write_all.Goals as goal

pub loop-rest-preserved : goal.loop-rest-preserved
loop-rest-preserved g c =
    let before = c.loop-rest.invariant in
    let taken = g.L.Link.taken in record {
      front = _;
      cut = cut_more c.args.piece.now before.front c.loop-rest.rest.now c.in_ok-count.count before.cut;
      gained = gains_more (taken c.args.link.now) (taken c.loop-rest.link) (taken c.write.new.self) before.front _ before.gained c.in_ok-count.ensures.bytes;
      same_left = c.in_ok-count.ensures.same_left ∙ before.same_left;
      later = omega (arith, before.later, c.in_ok-count.ensures.cause.later);
    }
