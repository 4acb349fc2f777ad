use Rattle.std.proofs.Common.{subst, ◌++◌, ◌∙◌, arith}
use Rattle.httparse.specs.Grammar.{HasNoRequest}
use Rattle.http_head.specs.Heads.{IsHead, NeverHasHead, HasLongHead}
use Rattle.http_serving.specs.declared.end.End.TheVariants.{BadHead, HeadTooLong}
use Rattle.http_serving.specs.Reading.{unread}
use Rattle.http_serving.proofs.Buffers.{grows_more, stops_here, stops_fault}
use Rattle.http_serving.proofs.Nearing.{few_by_line, found_few}
use Rattle.http_serving.proofs.messages.find_head.Goals as goal

pub returns-in-Found-clause-found : goal.returns-in-Found-clause-found
returns-in-Found-clause-found g c = record {
  grows = c.loop-head.invariant.grows;
  is_head = λ more. subst (λ w. IsHead (w ++ more) c.in-Found.head) c.deref.ensures.value (c.in-Found.ensures.stays more).0;
  short = c.in-Found.ensures.read.1;
}

pub returns-in-Found-clause-few : goal.returns-in-Found-clause-few
returns-in-Found-clause-few g c =
    found_few c.loop-head.invariant.few (subst (λ w. IsHead w c.in-Found.head) c.deref.ensures.value c.in-Found.ensures.read.0)

pub returns-in-Bad-clause-found : goal.returns-in-Bad-clause-found
returns-in-Bad-clause-found g c =
    let left = unread (g.L.Link.left c.loop-head.link) in
    stops_here BadHead c.loop-head.invariant.grows
    (subst (λ w. NeverHasHead (w ++ left)) c.deref.ensures.value (c.in-Bad.ensures.stays left))

pub returns-in-TooLong-clause-found : goal.returns-in-TooLong-clause-found
returns-in-TooLong-clause-found g c =
    let left = unread (g.L.Link.left c.loop-head.link) in
    stops_here HeadTooLong c.loop-head.invariant.grows
    (subst (λ w. HasLongHead (w ++ left)) c.deref.ensures.value (c.in-TooLong.ensures.stays left))

pub returns-in-Err-clause-found : goal.returns-in-Err-clause-found
returns-in-Err-clause-found g c = stops_fault c.in-Err.end c.loop-head.invariant.grows c.in-Err.ensures.bytes

pub loop-head-preserved : goal.loop-head-preserved
loop-head-preserved g c = record {
  grows = grows_more c.loop-head.invariant.grows c.in-Ok.ensures.bytes.grows;
  few = few_by_line (subst (λ w. HasNoRequest w) c.deref.ensures.value c.in-More.ensures.read.no_head) c.in-Ok.ensures.by_line;
  at_end = c.in-Ok.ensures.bytes.none;
  same_taken = c.in-Ok.ensures.same_taken ∙ c.loop-head.invariant.same_taken;
  later = omega (arith, c.loop-head.invariant.later, c.in-Ok.ensures.later);
}
