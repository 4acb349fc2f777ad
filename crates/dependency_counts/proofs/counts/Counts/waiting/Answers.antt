use Rattle.std.proofs.Common.{sym, ◌∙◌, ap}
use Rattle.std.specs.List.{find}
use Rattle.dependency_counts.specs.Counts.{has_key}
use Rattle.dependency_counts.proofs.Lists.{found_few, waiting_found}
use Rattle.dependency_counts.proofs.counts.Counts.waiting.Goals as goal

pub waiting_count-requires : goal.waiting_count-requires
waiting_count-requires c =
    found_few c.self.inside.next c.self.inside.lives.items c.args.key c.in-Some.live.now
    (sym (c.in-Some.ensures ∙ ap (find (has_key c.args.key)) c.deref.ensures.value)) c.self.invariant

pub returns-in-Some : goal.returns-in-Some
returns-in-Some c =
    waiting_found c.args.key c.deref.result.now c.deref-in-Some.result.now c.self.inside.lives.items c.args.self.now c.in-Some.live.now c.waiting_count.result
    c.in-Some.ensures c.deref.ensures.value c.deref-in-Some.ensures.value c.self.view_is c.waiting_count.ensures
