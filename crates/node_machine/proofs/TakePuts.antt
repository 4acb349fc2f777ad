-- What the taking of a run puts into the tables.
use Rattle.std.proofs.Common.{◌≡◌, ℕ, true, ◌&&◌, List, ◌++◌, Option, Some, None, refl, sym, ap, ◌∙◌}
use Rattle.std.specs.List.{find}
use Rattle.std.specs.Option.{option_map}
use Rattle.bt_base.specs.Ids.{same}
use Rattle.bt_rows.specs.Changes.{apply_changes}
use Rattle.bt_rows.specs.Keys.{same_run, same_run_equiv, same_task, same_task_equiv, same_prep}
use Rattle.bt_rows.specs.Lists.{AreDistinct}
use Rattle.bt_rows.specs.declared.tables.Change.{Change}
use Rattle.bt_rows.specs.declared.tables.Change.TheVariants.{PutTask}
use Rattle.batch_model.specs.Events.{is_prep_of_work, is_task_of_run, run_taken, served, started_task, taken_run}
use Rattle.batch_model.specs.Finding.{names}
use Rattle.batch_model.specs.Rows.{change_runs, change_tasks, is_run, run_of}
use Rattle.batch_model.specs.Runs.{is_at_prep, is_work}
use Rattle.batch_model.specs.WellFormed.{KeysAreDistinct}
use Rattle.batch_model.specs.Variants.{State, TaskRow, RunRow, PrepRow}
use Rattle.model_lists.proofs.Putting.{put_row-found, any-not_found, change_where-none}
use Rattle.model_lists.proofs.RowLists.{find_test}
use Rattle.model_lists.proofs.Tests.{and_first, and_second}
use Rattle.machine_plans.specs.Plans.{with_moment}
use Rattle.node_machine.specs.Takes.{served_puts, started_puts, take_changes}
use Rattle.row_changes.specs.Puts.{put_if_some}
use Rattle.row_changes.proofs.PrepPuts.{at_prep_key, found_prep_changed, names_same}

-- tasks of the run have the key of one that is
pub one_task : (run : RunRow) (task x : TaskRow) → is_task_of_run run task ≡ true → is_task_of_run run x ≡ same_task x task
one_task run task x h =
    let job = names_same run.job task.job x.job (and_first (names run.job task.job) (names run.task task.id) h) in
    let id = names_same run.task task.id x.id (and_second (names run.job task.job) (names run.task task.id) h) in
    ap (λ b. b && names run.task x.id) job ∙ ap (λ b. same x.job task.job && b) id

-- the run's task has started, if it is there; other changes come after it
task_started : (run : RunRow) (now : ℕ) (s : State) → AreDistinct same_task s.tasks → (found : Option TaskRow) → find (is_task_of_run run) s.tasks ≡ found
    → (more : List Change)
    → apply_changes (put_if_some PutTask (option_map (started_task now) found) ++ more) s ≡ apply_changes more (change_tasks (is_task_of_run run) (started_task now) s)
task_started run now s d None e more =
    ap (λ tasks. apply_changes more (record s { tasks = tasks })) (sym (change_where-none (is_task_of_run run) (started_task now) s.tasks (any-not_found (is_task_of_run run) s.tasks e)))
task_started run now s d (Some task) e more =
    ap (λ tasks. apply_changes more (record s { tasks = tasks }))
    (put_row-found same_task same_task_equiv (is_task_of_run run) (started_task now) task
    (λ x. one_task run task x (find_test (is_task_of_run run) task s.tasks e)) (λ x. refl) s.tasks d e)

-- preparations of the run's job on its node have the key of one that is
one_prep : (run : RunRow) (prep other : PrepRow) → is_prep_of_work run prep ≡ true → is_prep_of_work run other ≡ same_prep other prep
one_prep run prep other h =
    ap (λ b. b && is_at_prep other run) (and_first (is_work run.kind) (is_at_prep prep run) h)
    ∙ at_prep_key run prep other (and_second (is_work run.kind) (is_at_prep prep run) h)

-- the run is taken, its task has started, and the preparation of its job on its node has served
pub taken_put : (s : State) → KeysAreDistinct s → (run : RunRow) (now : ℕ) → run_of s run.number ≡ Some run → apply_changes (take_changes now run s) (with_moment now s) ≡ run_taken (with_moment now s) run
taken_put s keys run now there =
    let taken = change_runs (is_run run.number) (taken_run now) (with_moment now s) in
    ap (λ runs. apply_changes (started_puts now run s ++ served_puts run s) (record s { moment = now; runs = runs }))
    (put_row-found same_run same_run_equiv (is_run run.number) (taken_run now) run (λ x. refl) (λ x. refl) s.runs keys.runs there)
    ∙ (task_started run now taken keys.tasks (find (is_task_of_run run) s.tasks) refl (served_puts run s)
    ∙ found_prep_changed (is_prep_of_work run) served (λ prep other. refl) (one_prep run) (change_tasks (is_task_of_run run) (started_task now) taken) keys.preps
    (find (is_prep_of_work run) s.preps) refl)
