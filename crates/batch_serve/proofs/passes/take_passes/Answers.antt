use Rattle.std.proofs.Common.{arith, ap, sym, subst, ◌∙◌, append_assoc, ◌<◌, ◌++◌, ◌∷◌, [], length, map, take}
use Rattle.batch_serve.specs.Passes.{IsSameKind}
use Rattle.batch_serve.proofs.Loops.{here, done_more, rest_less, map_more}
use Rattle.batch_serve.proofs.passes.take_passes.Goals as goal

pub loop-worker-preserved : goal.loop-worker-preserved
loop-worker-preserved g c =
    let xs = c.args.workers.now in let ys = c.loop-worker.workers in let i = c.loop-worker.worker-index in let x = c.worker-item.result in
    let y = c.take_pass.new.worker in
    let inside : i < length ys = (let a = c.loop-worker-test.true in let b = c.loop-worker.auto.workers in omega arith) in
    let rest = c.loop-worker.invariant.rest in let is = c.worker-item.is in
    let within : i < length xs = (let a = c.loop-worker-test.true in let b = c.loop-worker.auto.workers in omega arith) in
    let pass = c.take_pass.ensures.pass ∙ ap (λ w. w.pass) (sym is ∙ sym (here IsSameKind xs ys i x y inside rest is x)) in
    record {
      taken = c.push_reserved.ensures.items ∙ (ap (λ zs. zs ++ c.take_pass.result ∷ []) c.loop-worker.invariant.taken
          ∙ (append_assoc c.args.passes.now.items (map (λ w. w.pass) (take i xs)) (c.take_pass.result ∷ [])
          ∙ ap (λ zs. c.args.passes.now.items ++ zs) (ap (λ p. map (λ w. w.pass) (take i xs) ++ p ∷ []) pass ∙ sym (map_more (λ w. w.pass) xs i x within))));
      room = let a = c.push_reserved.ensures.len in let b = c.push_reserved.ensures.capacity in let r = c.loop-worker.invariant.room in omega arith;
      same_so_far = done_more IsSameKind xs ys i x y inside rest is (subst (λ w. IsSameKind w y) (sym is) c.take_pass.ensures.same) c.loop-worker.invariant.same_so_far;
      rest = rest_less IsSameKind xs ys i x y inside rest is;
    }
