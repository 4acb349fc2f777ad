use Rattle.std.proofs.Common.{sym, subst, ◌∙◌, Some, None, ◌≡◌}
use Rattle.std.specs.List.{find}
use Rattle.task_index.specs.Timed.{is_overdue}
use Rattle.job_rules.proofs.FirstTimedOut.{none_timed_out, first_is_timed_out}
use Rattle.job_rules.proofs.wall.first_timed_out_at.Goals as goal

pub returns-in-None : goal.returns-in-None
returns-in-None c =
    let s = c.args.indexed.now.state in
    sym (none_timed_out s (subst (λ now. find (is_overdue now) s.tasks ≡ None) c.requires (sym c.in-None.ensures)))

pub returns-in-Some : goal.returns-in-Some
returns-in-Some c =
    let s = c.args.indexed.now.state in
    let task = c.in-Some.task.now in
    sym (first_is_timed_out s task (subst (λ now. find (is_overdue now) s.tasks ≡ Some task) c.requires (sym c.in-Some.ensures))
    (sym c.is_busy.ensures ∙ c.if-is_busy.true))
