use Rattle.std.proofs.Common.{◌≡◌, true, false, sym, subst, refl}
use Rattle.batch_model.specs.Finding.{Each}
use Rattle.dependency_counts.specs.Counts.{has_few_ranges, is_kept}
use Rattle.dependency_counts.proofs.Lists.{kept_added, next_new}
use Rattle.dependency_counts.proofs.counts.Counts.add_task.Goals as goal

pub invariant_of-self-2 : goal.invariant_of-self-2
invariant_of-self-2 c =
    subst (Each (is_kept c.in-Some.next)) (sym c.in_ok-push.ensures.items)
    (kept_added c.self.inside.next c.in-Some.next c.self.inside.lives.items
    (record { key = record { number = c.self.inside.next }; task = c.in_ok-task.task; satisfies = false }) c.in-Some.ensures.1 refl
    (subst (λ task. has_few_ranges task ≡ true) (sym c.in_ok-task.ensures) c.requires.few_ranges) c.self.invariant)

pub returns-clause-new_key : goal.returns-clause-new_key
returns-clause-new_key c = next_new c.self.inside.next c.self.inside.lives.items c.args.self.now c.self.view_is c.self.invariant
