-- Tests of runs that name no task and are not of start tasks, by what no change touches: after a step that drops no job, some run passes
-- if some run did before.
use Rattle.std.proofs.Common.{◌≡◌, ℕ, Bool, true, false, not, ◌&&◌, List, Option, Some, None, is_none, refl, ◌∙◌, ap}
use Rattle.std.specs.List.{list_any}
use Rattle.bt_base.specs.Ids.{same}
use Rattle.bt_rows.specs.declared.event.DisableTasks.{DisableTasks}
use Rattle.bt_rows.specs.declared.event.DisableTasks.TheVariants.{Requeue, Terminate, Wait}
use Rattle.batch_model.specs.Events.{taken_run, ended_run}
use Rattle.batch_model.specs.Dues.{is_start_run_of, drop_pool}
use Rattle.batch_model.specs.Finding.{names}
use Rattle.batch_model.specs.Leaving.{is_on, is_start_run, has_run_where, clear_runs, clear_for, leaving_by, with_leaving, leave}
use Rattle.batch_model.specs.Preparing.{queued}
use Rattle.batch_model.specs.Rows.{put_job, change_nodes, change_runs, add_run_row}
use Rattle.batch_model.specs.Runs.{is_start, is_open_preparation, is_run_of_task, prepares, asked_to_stop, withdrawn, halted_in, halted}
use Rattle.batch_model.specs.Settling.{drop_task}
use Rattle.batch_model.specs.Stops.{is_run_of_stopped, stop, halt_preparations, disable, job_for, close}
use Rattle.batch_model.specs.Tasks.{is_in_job}
use Rattle.batch_model.specs.Variants.{State, PoolRow, NodeRow, Dealloc, ByRequeue, ByTerminate, TaskCompletion, RetainedData, JobRow, JobState, TaskRow}
use Rattle.batch_model.specs.Variants.{Want, WantRequeue, WantTerminate, Ending, RunRow, RunState, Waiting, Queued, Taken, Ended, Withdrawn}
use Rattle.model_lists.proofs.ChangedRows.{any_change}
use Rattle.model_lists.proofs.KeptRows.{any_still}
use Rattle.model_lists.proofs.RowLists.{any_append_old}

-- a run passes whatever else becomes of it, and one that passes names no task and is not of a start task
pub record IsStaying (test : RunRow → Bool) : Type 0 where
  pub fixed : (run : RunRow) (next : RunState) (stop : Bool) (from to : Option ℕ)
      → test (record run { state = next; asked = stop; taken = from; ended = to }) ≡ test run
  pub no_task : (run : RunRow) → test run ≡ true → is_none run.task ≡ true
  pub no_start : (run : RunRow) → test run ≡ true → is_start run.kind ≡ false

-- a run that names no task is not one of a task
not_of_task : (of_job : Bool) (name : Option (List ℕ)) (id : List ℕ) → is_none name ≡ true → not (of_job && names name id) ≡ true
not_of_task true None id h = refl
not_of_task false None id h = refl
not_of_task of_job (Some name) id h = cc

module _ (test : RunRow → Bool) where
  -- some run passes after a step if some run did before it
  abbrev pub Stays : State → State → Type 0
  Stays s t = list_any test s.runs ≡ true → list_any test t.runs ≡ true

  -- runs change that pass afterwards if they do
  pub change_stays : (of : RunRow → Bool) (change : RunRow → RunRow) (s : State) → ((run : RunRow) → test run ≡ true → test (change run) ≡ true)
      → Stays s (change_runs of change s)
  change_stays of change s keep = any_change of change test test (λ run e. keep run) (λ run e h. h) s.runs

  -- a run is added
  pub added_stays : (run : RunRow) (s : State) → Stays s (add_run_row run s)
  added_stays run s = any_append_old test s.runs run

  module _ (staying : IsStaying test) where
    -- a run passes after a change, since it does before
    passes : (run later : RunRow) → test later ≡ test run → test run ≡ true → test later ≡ true
    passes run later e h = e ∙ h

    halted_passes : (now : ℕ) (run : RunRow) → test run ≡ true → test (halted now run) ≡ true
    halted_passes now run = by_state run.state
      where
        by_state : (state : RunState) → test run ≡ true → test (halted_in state now run) ≡ true
        by_state Waiting = passes run (withdrawn now run) (staying.fixed run Withdrawn run.asked run.taken (Some now))
        by_state Queued = passes run (withdrawn now run) (staying.fixed run Withdrawn run.asked run.taken (Some now))
        by_state Taken = passes run (asked_to_stop run) (staying.fixed run run.state true run.taken run.ended)
        by_state (Ended ending) = λ h. h
        by_state Withdrawn = λ h. h

    -- tasks are stopped
    pub stop_stays : (of : TaskRow → Bool) (want : Want) (s : State) → Stays s (stop of want s)
    stop_stays of want s = change_stays (is_run_of_stopped of s) (halted s.moment) s (halted_passes s.moment)

    -- preparation runs are halted
    pub halt_stays : (of : RunRow → Bool) (s : State) → Stays s (halt_preparations of s)
    halt_stays of s = change_stays (λ run. of run && is_open_preparation run) (halted s.moment) s (halted_passes s.moment)

    -- a job is closed
    pub close_stays : (next : JobState) (why : List ℕ) (row : JobRow) (s : State) → Stays s (close next why row s)
    close_stays next why row s h =
        let put : State = put_job (job_for next why row) s in
        halt_stays (prepares row.id) (stop (is_in_job row.id) WantTerminate put) (stop_stays (is_in_job row.id) WantTerminate put h)

    -- a job is disabled
    pub disable_stays : (option : DisableTasks) (row : JobRow) (s : State) → Stays s (disable row option s)
    disable_stays Requeue row s = stop_stays (is_in_job row.id) WantRequeue (disable row Wait s)
    disable_stays Terminate row s = stop_stays (is_in_job row.id) WantTerminate (disable row Wait s)
    disable_stays Wait row s = λ h. h

    -- runs that pass a test are cleared
    clear_stays : (want : Want) (of : RunRow → Bool) (s : State) → Stays s (clear_runs want of s)
    clear_stays want of s h = halt_stays of (stop (has_run_where of s) want s) (stop_stays (has_run_where of s) want s h)

    clear_for_stays : (option : Dealloc) (of : RunRow → Bool) (s : State) → Stays s (clear_for option of s)
    clear_for_stays ByRequeue of s = clear_stays WantRequeue of s
    clear_for_stays ByTerminate of s = clear_stays WantTerminate of s
    clear_for_stays TaskCompletion of s = λ h. h
    clear_for_stays RetainedData of s = λ h. h

    -- nodes leave
    pub leave_stays : (option : Dealloc) (of : NodeRow → Bool) (s : State) → Stays s (leave option of s)
    leave_stays option of s h =
        clear_for_stays option (is_on of s) (with_leaving option of s)
        (change_stays (is_start_run (is_on of s)) (halted s.moment) (change_nodes of (leaving_by option) s) (halted_passes s.moment) h)

    -- a pool is dropped with its start runs
    pub drop_pool_stays : (pool : PoolRow) (s : State) → Stays s (drop_pool pool s)
    drop_pool_stays pool s h =
        any_still (λ run. not (is_start_run_of pool.id run)) test (λ run k. ap (λ b. not (b && same run.pool pool.id)) (staying.no_start run k)) s.runs
        ∙ h

    -- a run is asked to stop
    pub ask_stays : (of : RunRow → Bool) (s : State) → Stays s (change_runs of asked_to_stop s)
    ask_stays of s = change_stays of asked_to_stop s (λ run. passes run (asked_to_stop run) (staying.fixed run run.state true run.taken run.ended))

    -- waiting runs are queued
    pub queue_stays : (of : RunRow → Bool) (s : State) → Stays s (change_runs of queued s)
    queue_stays of s = change_stays of queued s (λ run. passes run (queued run) (staying.fixed run Queued run.asked run.taken run.ended))

    -- a run is taken
    pub take_stays : (of : RunRow → Bool) (s : State) → Stays s (change_runs of (taken_run s.moment) s)
    take_stays of s =
        change_stays of (taken_run s.moment) s
        (λ run. passes run (taken_run s.moment run) (staying.fixed run Taken run.asked (Some s.moment) run.ended))

    -- a run ends
    pub end_stays : (of : RunRow → Bool) (ending : Ending) (s : State) → Stays s (change_runs of (ended_run s.moment ending) s)
    end_stays of ending s =
        change_stays of (ended_run s.moment ending) s
        (λ run. passes run (ended_run s.moment ending run) (staying.fixed run (Ended ending) run.asked run.taken (Some s.moment)))

    -- a task is dropped with its runs
    pub drop_stays : (task : TaskRow) (s : State) → Stays s (drop_task task s)
    drop_stays task s h =
        any_still (λ run. not (is_run_of_task task.job task.id run)) test
        (λ run k. not_of_task (names run.job task.job) run.task task.id (staying.no_task run k)) s.runs
        ∙ h
