use Rattle.std.proofs.Common.{arith, subst, sym, ◌≡◌, ◌<◌, length}
use Rattle.batch_serve.specs.Passes.{IsGiven}
use Rattle.batch_serve.proofs.Loops.{done_more, rest_less}
use Rattle.batch_serve.proofs.Numbers.{Rise, below_more, rise_more, rising_distinct}
use Rattle.batch_serve.proofs.passes.give_passes.Goals as goal

pub loop-worker-preserved : goal.loop-worker-preserved
loop-worker-preserved g c =
    let xs = c.args.workers.now in let ys = c.loop-worker.workers in let i = c.loop-worker.worker-index in let x = c.worker-item.result in
    let y = c.give_pass.new.worker in let loop = c.loop-worker.invariant in let gives = c.give_pass.ensures in
    let inside : i < length ys = (let a = c.loop-worker-test.true in let b = c.loop-worker.auto.workers in omega arith) in
    let rest = loop.rest in let is = c.worker-item.is in
    let r = IsGiven c.args.desk.now in let old = c.loop-worker.next.number in
    record {
      next = gives.next;
      fresh = gives.fresh;
      opened = gives.opened;
      given_so_far = done_more r xs ys i x y inside rest is (subst (λ w. r w y) (sym is) gives.given) loop.given_so_far;
      below = below_more (λ w. w.pass.number) ys i y inside old c.give_pass.new.next.number gives.number loop.below gives.above;
      rise = rise_more (λ w. w.pass.number) ys i y inside old c.give_pass.new.next.number gives.number loop.below loop.rise;
      rest = rest_less r xs ys i x y inside rest is;
    }

pub returns-clause-distinct : goal.returns-clause-distinct
returns-clause-distinct g c =
    let ys = c.loop-worker.workers in let i = c.loop-worker.worker-index in
    let is : i ≡ length ys = (let a = c.loop-worker-test.false in let b = c.loop-worker.auto.workers in omega arith) in
    rising_distinct (λ w. w.pass.number) ys (subst (λ n. Rise (λ w. w.pass.number) ys n) is c.loop-worker.invariant.rise)
