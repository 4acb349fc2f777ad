use Rattle.std.proofs.Common.{subst, sym, ap, ◌∙◌, ◌∷◌, [], ◌++◌, map, arith}
use Rattle.std.specs.Prelude.{All}
use Rattle.counted_lock.specs.Passes.{IsPassOf}
use Rattle.shared_desk.specs.Sharing.{IsSharedJournal}
use Rattle.batch_serve.proofs.Journals.{passes_all, serves_all}
use Rattle.batch_serve.proofs.serving.run_crew.Goals as goal

pub close-requires : goal.close-requires
close-requires g c =
    let ended = c.crew.new.workers in let next = c.give_passes.new.next in
    let is = c.take_passes.ensures.taken
    ∙ ap (λ xs. xs ++ map (λ w. w.pass) ended) (c.push_reserved.ensures.items ∙ ap (λ xs. xs ++ next ∷ []) c.requires.empty) in
    let all = passes_all c.args.desk next ended c.give_passes.ensures.next
    (λ k d lt. (c.crew.ensures.works k d (let count = c.crew.ensures.count in omega arith)).pass) in
    record { passes = subst (λ xs. All (IsPassOf c.args.desk) xs) (sym is) all }

pub returns-clause-serves : goal.returns-clause-serves
returns-clause-serves g c =
    let ended = c.crew.new.workers in let next = c.give_passes.new.next in
    let is = c.take_passes.ensures.taken
    ∙ ap (λ xs. xs ++ map (λ w. w.pass) ended) (c.push_reserved.ensures.items ∙ ap (λ xs. xs ++ next ∷ []) c.requires.empty) in
    serves_all c.args.desk g.W.Work.worked c.close.result.1 next c.args.workers.now c.give_passes.new.workers ended c.take_passes.new.workers
    c.give_passes.ensures.given c.give_passes.ensures.distinct c.crew.ensures.count c.crew.ensures.works c.take_passes.ensures.same
    c.give_passes.ensures.fresh c.give_passes.ensures.opened
    (subst (λ xs. IsSharedJournal c.close.result.1 xs) is c.close.ensures.shared)
