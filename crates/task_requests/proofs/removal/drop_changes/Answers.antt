use Rattle.std.proofs.Common.{◌∷◌, [], ◌++◌, ◌∙◌, ap}
use Rattle.bt_rows.specs.Changes.{apply_changes}
use Rattle.bt_rows.specs.declared.tables.Change.TheVariants.{DropTask}
use Rattle.batch_model.specs.Runs.{is_run_of_task}
use Rattle.machine_plans.specs.Plans.{with_moment}
use Rattle.machine_plans.proofs.Moves.{keys_moved}
use Rattle.row_changes.specs.Puts.{changes_where, run_drop}
use Rattle.task_requests.proofs.DroppedTasks.{task_dropped}
use Rattle.task_requests.proofs.removal.drop_changes.Goals as goal

pub returns-clause-here : goal.returns-clause-here
returns-clause-here c =
    let s = c.args.tables.now.state in
    let task = c.args.task.now in
    ap (λ changes. apply_changes changes s)
    (c.in_ok-push_run_drops.ensures
    ∙ ap (λ changes. changes ++ changes_where run_drop (is_run_of_task task.job task.id) s.runs)
    (c.in_ok-changes.ensures.items ∙ ap (λ key. DropTask key ∷ []) c.in_ok-key.ensures))
    ∙ task_dropped task s c.requires.keys

pub returns-clause-moved : goal.returns-clause-moved
returns-clause-moved c = λ now.
    let s = c.args.tables.now.state in
    let task = c.args.task.now in
    ap (λ changes. apply_changes changes (with_moment now s))
    (c.in_ok-push_run_drops.ensures
    ∙ ap (λ changes. changes ++ changes_where run_drop (is_run_of_task task.job task.id) s.runs)
    (c.in_ok-changes.ensures.items ∙ ap (λ key. DropTask key ∷ []) c.in_ok-key.ensures))
    ∙ task_dropped task (with_moment now s) (keys_moved now s c.requires.keys)
