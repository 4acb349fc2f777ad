use Rattle.std.proofs.Common.{◌≡◌, [], ap, length, arith, rules}
use Rattle.http_serving.proofs.Advancing.{going_start, going_on, served_asked, served_end, served_spent}
use Rattle.http_serving.proofs.connection.serve_link.Goals as goal

pub loop-answered-init : goal.loop-answered-init
loop-answered-init g c = let none : c.new-buffer.result.items ≡ [] = search rules in record {
  going = going_start g.S.Service.answers _ (g.L.Link.left c.args.link.now) (g.L.Link.taken c.args.link.now) c.new-buffer.result.items none;
  few = omega arith;
  past = omega (arith, ap length none);
  later = omega arith;
}

pub returns-in-Ok-true-clause-served : goal.returns-in-Ok-true-clause-served
returns-in-Ok-true-clause-served g c =
    served_asked g.S.Service.answers c.loop-answered.invariant.going c.loop-answered-test.true c.in-Ok-true.ensures.few (rw c.in-Ok-true.field-0-test at c.in-Ok-true.ensures.served)

pub loop-answered-preserved : goal.loop-answered-preserved
loop-answered-preserved g c = record {
  going = going_on g.S.Service.answers c.loop-answered.invariant.going c.loop-answered-test.true (rw c.in-Ok-false.field-0-test at c.in-Ok-false.ensures.served);
  few = omega (arith, c.loop-answered-test.true);
  past = c.in-Ok-false.ensures.few;
  later = omega (arith, c.loop-answered.invariant.later, c.in-Ok-false.ensures.later);
}

pub returns-in-Err-clause-served : goal.returns-in-Err-clause-served
returns-in-Err-clause-served g c =
    served_end g.S.Service.answers c.loop-answered.invariant.going c.in-Err.end c.loop-answered-test.true c.in-Err.ensures.served

pub returns-clause-served : goal.returns-clause-served
returns-clause-served g c =
    served_spent g.S.Service.answers c.loop-answered.invariant.going c.loop-answered.invariant.past (omega (arith, c.loop-answered-test.false, c.loop-answered.invariant.few))
