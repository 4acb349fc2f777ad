use Rattle.std.proofs.Common.{arith, refl, sym, subst, length, ◌<◌, ◌+◌}
use Rattle.http_serving.specs.declared.end.End.TheVariants.{Truncated}
use Rattle.http_serving.specs.Reading.{EndsInside}
use Rattle.http_serving.proofs.Buffers.{grows_none, grows_fill, same_at_end, stops_fault, stops_end}
use Rattle.http_serving.proofs.Bodies.{head_grows, found_here, ends_in_body}
use Rattle.http_serving.proofs.messages.find_body.Goals as goal

pub body-init : goal.body-init
body-init g c = record {
  grows = grows_none (g.L.Link.left c.args.link.now) c.args.buffer.now.items;
  few = omega (arith, c.requires.few);
  same_taken = refl;
  later = omega arith;
}

pub returns-in-Ok-false-clause-found : goal.returns-in-Ok-false-clause-found
returns-in-Ok-false-clause-found g c =
    let fills = rw c.in-Ok-false.field-0-test at c.in-Ok-false.ensures.bytes in
    let less : length c.body.buffer.items < c.args.head.len + c.args.size = omega (arith, c.body-test.true) in
    stops_end Truncated (grows_fill c.body.invariant.grows fills) (fills.none refl).0
    (subst EndsInside (sym (same_at_end fills)) (ends_in_body c.args.size (head_grows c.body.invariant.grows c.requires.is_head) c.requires.short c.requires.framed c.requires.no_origin less))

pub returns-in-Err-clause-found : goal.returns-in-Err-clause-found
returns-in-Err-clause-found g c = stops_fault c.in-Err.end c.body.invariant.grows c.in-Err.ensures.bytes

pub returns-clause-found : goal.returns-clause-found
returns-clause-found g c =
    found_here c.args.size c.body.invariant.grows c.requires.is_head c.requires.short c.requires.framed c.requires.no_origin (omega (arith, c.body-test.false))
