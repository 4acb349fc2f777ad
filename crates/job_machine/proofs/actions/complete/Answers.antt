use Rattle.std.proofs.Common.{◌++◌, ◌∙◌, ap}
use Rattle.bt_rows.specs.Changes.{apply_changes}
use Rattle.batch_model.specs.Rows.{put_task}
use Rattle.batch_model.specs.Settling.{is_over, act_if_asked}
use Rattle.batch_model.specs.Variants.{TaskRow}
use Rattle.machine_plans.proofs.DuePuts.{task_changed}
use Rattle.job_machine.proofs.actions.complete.Goals as goal

pub returns : goal.returns
returns c =
    let s = c.args.tables.now.state in
    let job = c.args.job.now in
    let later = c.in_ok-later.later.items in
    ap (λ changes. apply_changes changes s) (c.in_ok-append.ensures.items ∙ ap (λ first. first ++ later) c.in_ok-changes.ensures.items)
    ∙ ap (apply_changes later)
    (task_changed (is_over s) c.args.task.now c.in_ok-row.row s c.requires.over.keys c.requires.over.found
    (ap (λ (row : TaskRow). row.job) (c.in_ok-row.ensures ∙ c.in_ok-done.ensures)) (ap (λ (row : TaskRow). row.id) (c.in_ok-row.ensures ∙ c.in_ok-done.ensures)))
    ∙ ap (λ row. apply_changes later (put_task row s)) c.in_ok-row.ensures
    ∙ c.in_ok-later.ensures
    ∙ ap (λ row. act_if_asked c.args.action job (put_task row s)) c.in_ok-done.ensures
