-- What a due step does with runs: it makes none, or those of a release, of a new node, or of a placed task.
use Rattle.std.proofs.Common.{◌≡◌, ℕ, ◌+◌, ◌≤◌, Bool, true, false, not, Option, Some, None, cond, refl, arith}
use Rattle.bt_rows.specs.declared.event.DisableTasks.TheVariants.{Requeue}
use Rattle.batch_model.specs.Dues.{new_node, begin_start, node_added, due_step}
use Rattle.batch_model.specs.Finding.{names}
use Rattle.batch_model.specs.JobRules.{all_complete, releasing, release_made, job_removed}
use Rattle.batch_model.specs.Jobs.{can_disable, is_past}
use Rattle.batch_model.specs.Metrics.{sampled_metrics}
use Rattle.batch_model.specs.Placing.{placed, begin_preparation, prepare_with, prepare, first_state, place}
use Rattle.batch_model.specs.Preps.{new_prep, change_prep, has_preparation}
use Rattle.batch_model.specs.Rows.{is_node, is_task, is_run, put_task, add_node_row, add_prep_row}
use Rattle.batch_model.specs.Runs.{start_run, job_run, work_run}
use Rattle.batch_model.specs.Settling.{task_failed, act}
use Rattle.batch_model.specs.Steps.{DueStep}
use Rattle.batch_model.specs.Stops.{disable, terminate}
use Rattle.batch_model.specs.Tasks.{completed}
use Rattle.batch_model.specs.Variants.{State, PoolRow, NodeRow, JobRow, Terminating, JobAction, NoAction, ToDisable, ToTerminate, StartTask, ReleaseTask}
use Rattle.batch_model.specs.Variants.{TaskRow, Closed, WantWall, RunRow, RunState, PrepRun, TaskRun, ReleaseRun, PrepRow}
use Rattle.batch_model.specs.WallTimes.{wall_time_over}
use Rattle.model_tables.proofs.ScalingParts.{samples_leave}
use Rattle.model_laws.proofs.DueCases.{DueCase, task_stops, release_stops, job_stops, task_deleted, task_terminated, task_requeued, task_tried, task_completed}
use Rattle.model_laws.proofs.DueCases.{job_active, job_done, job_rests, releases, job_goes, job_stays, pool_goes, pool_reaches, pool_fails, pool_stops}
use Rattle.model_laws.proofs.DueCases.{takes_samples, pool_scales, node_departs, node_goes, node_comes, places, due_cases}
use Rattle.model_laws.proofs.LastingRuns.{IsLasting, HasNoMore, no_change, both_steps, dropped, added, run_asked}
use Rattle.model_laws.proofs.StayingRuns.{ask_stays}
use Rattle.model_laws.proofs.MadeRuns.{Lasts, same_runs, lasts_on}
use Rattle.model_laws.proofs.RunsKept.{stop_lasts, close_lasts, disable_lasts, leave_lasts, drop_pool_lasts, drop_lasts}

-- what a completed task does to its job makes no run

disabled_if : (job : JobRow) (t : State) (b : Bool) → Lasts t (cond b (disable job Requeue t) t)
disabled_if job t true = disable_lasts Requeue job t
disabled_if job t false = same_runs t t refl refl

terminated_unless : (job : JobRow) (t : State) (b : Bool) → Lasts t (cond b t (terminate task_failed job t))
terminated_unless job t true = same_runs t t refl refl
terminated_unless job t false = close_lasts Terminating task_failed job t

acted : (action : JobAction) (job : JobRow) (t : State) → Lasts t (act action job t)
acted NoAction job t = same_runs t t refl refl
acted ToDisable job t = disabled_if job t (can_disable job.state)
acted ToTerminate job t = terminated_unless job t (is_past job.state)

acted_if : (b : Bool) (action : JobAction) (job : JobRow) (t : State) → Lasts t (cond b (act action job t) t)
acted_if true action job t = acted action job t
acted_if false action job t = same_runs t t refl refl

-- what holds of a step that makes no run and drops no job, of one that drops a job, and of each step that makes runs, holds of each due
-- step
module _ (s : State) (P : DueStep → Type 0) (of_none : (step : DueStep) → Lasts s step.state → P step)
    (of_job : (job : JobRow) → P (job_removed s job))
    (of_release : (prep : PrepRow) (node : NodeRow) (job : JobRow) (release : ReleaseTask) → P (release_made s prep node job release))
    (of_node : (seat : ℕ) (pool : PoolRow) → P (node_added s seat pool))
    (of_place : (job : JobRow) (task : TaskRow) (node : NodeRow) → P (place s job task node)) where
  of_case : (step : DueStep) → DueCase s step → P step
  of_case step (takes_samples pool) =
      of_none step (samples_leave (Lasts s) s pool sampled_metrics s (λ samples. same_runs s (record s { samples = samples }) refl refl))
  of_case step (task_stops task) = of_none step (stop_lasts (is_task task.job task.id) WantWall s)
  of_case step (release_stops run) =
      of_none step
      (record {
        runs = λ test lasts. run_asked test lasts (is_run run.number) s;
        stay = λ test staying. ask_stays test staying (is_run run.number) s;
        next = refl;
      })
  of_case step (job_stops job) = of_none step (close_lasts Terminating wall_time_over job s)
  of_case step (task_deleted task) = of_none step (drop_lasts task s)
  of_case step (task_terminated task found) = of_none step (same_runs s step.state refl refl)
  of_case step (task_requeued task found) = of_none step (same_runs s step.state refl refl)
  of_case step (task_tried job task found there left) = of_none step (same_runs s step.state refl refl)
  of_case step (task_completed job task cause succeeded options outcome found) =
      let closing : Closed = record { how = cause; success = succeeded; satisfies = options.satisfies; at = s.moment } in
      let put : State = put_task (completed closing task) s in
      of_none step (lasts_on s put step.state (same_runs s put refl refl) (acted_if job.on_fail options.job job put))
  of_case step (job_active job) = of_none step (same_runs s step.state refl refl)
  of_case step (job_done job) = of_none step (close_lasts Terminating all_complete job s)
  of_case step (job_rests job) = of_none step (same_runs s step.state refl refl)
  of_case step (releases prep node job release) = of_release prep node job release
  of_case step (job_goes job) = of_job job
  of_case step (job_stays job) = of_none step (same_runs s step.state refl refl)
  of_case step (pool_goes pool) = of_none step (drop_pool_lasts pool s)
  of_case step (pool_reaches pool) = of_none step (same_runs s step.state refl refl)
  of_case step (pool_fails pool) = of_none step (same_runs s step.state refl refl)
  of_case step (pool_stops pool) = of_none step (same_runs s step.state refl refl)
  of_case step (pool_scales pool scale) = of_none step (same_runs s step.state refl refl)
  of_case step (node_departs pool node) = of_none step (leave_lasts pool.option (is_node node.number) s)
  of_case step (node_goes node) = of_none step (same_runs s step.state refl refl)
  of_case step (node_comes seat pool) = of_node seat pool
  of_case step (places job task node finds found) = of_place job task node

  pub of_due_cases : (seats : ℕ) (step : DueStep) → due_step seats s ≡ Some step → P step
  of_due_cases seats step e = of_case step (due_cases s seats step e)

-- no run is made, and runs change and go in such ways alone, also with their job
pub record MakesNone (s t : State) : Type 0 where
  pub runs : (test : RunRow → Bool) → IsLasting test → HasNoMore test s t
  pub next : t.next_run ≡ s.next_run

-- what holds of a step that makes no run, and of each step that makes runs, holds of each due step
module _ (s : State) (P : DueStep → Type 0) (of_none : (step : DueStep) → MakesNone s step.state → P step)
    (of_release : (prep : PrepRow) (node : NodeRow) (job : JobRow) (release : ReleaseTask) → P (release_made s prep node job release))
    (of_node : (seat : ℕ) (pool : PoolRow) → P (node_added s seat pool))
    (of_place : (job : JobRow) (task : TaskRow) (node : NodeRow) → P (place s job task node)) where
  pub of_due : (seats : ℕ) (step : DueStep) → due_step seats s ≡ Some step → P step
  of_due =
      of_due_cases s P (λ step lasts. of_none step (record { runs = lasts.runs; next = lasts.next }))
      (λ job. of_none (job_removed s job) (record { runs = λ test lasts. dropped test (λ run. not (names run.job job.id)) s.runs; next = refl }))
      of_release of_node of_place

-- the counter of runs

-- it stays
pub stays : (a b : ℕ) → b ≡ a → a ≤ b
stays a b e = omega (arith, e)

-- it is higher by one
rises : (a b c : ℕ) → a ≤ b → c ≡ b + 1 → a ≤ c
rises a b c h e = omega (arith, h, e)

start_counter : (o : Option StartTask) (node : NodeRow) (t : State) → t.next_run ≤ (begin_start o node t).next_run
start_counter None node t = omega arith
start_counter (Some start) node t = omega arith

begun_counter : (job : JobRow) (node : NodeRow) (preparation : StartTask) (t : State) (b : Bool)
    → t.next_run ≤ (cond b t (begin_preparation job node preparation t)).next_run
begun_counter job node preparation t true = omega arith
begun_counter job node preparation t false = omega arith

preparation_counter : (o : Option StartTask) (job : JobRow) (node : NodeRow) (t : State) → t.next_run ≤ (prepare_with o job node t).next_run
preparation_counter None job node t = omega arith
preparation_counter (Some preparation) job node t = begun_counter job node preparation t (has_preparation t job.id node.number)

place_counter : (s : State) (job : JobRow) (task : TaskRow) (node : NodeRow) → s.next_run ≤ (place s job task node).state.next_run
place_counter s job task node =
    let put : State = put_task (placed task) s in
    rises s.next_run (prepare job node put).next_run (place s job task node).state.next_run (preparation_counter job.prep job node put) refl

-- it does not fall
pub counter_by_due : (seats : ℕ) (s : State) (step : DueStep) → due_step seats s ≡ Some step → s.next_run ≤ step.state.next_run
counter_by_due seats s step e =
    of_due s (λ made. s.next_run ≤ made.state.next_run) (λ made lasts. stays s.next_run made.state.next_run lasts.next)
    (λ prep node job release.
    rises s.next_run s.next_run (release_made s prep node job release).state.next_run (stays s.next_run s.next_run refl) refl)
    (λ seat pool. start_counter pool.start (new_node s pool seat) (add_node_row (new_node s pool seat) s)) (place_counter s) seats step e

module _ (test : RunRow → Bool) where
  -- runs that are made, and do not pass

  -- the release run of a job on a node
  pub release_no_more : (s : State) (prep : PrepRow) (node : NodeRow) (job : JobRow) (release : ReleaseTask)
      → test (job_run s node.number node.pool ReleaseRun release.line job.id) ≡ false → HasNoMore test s (release_made s prep node job release).state
  release_no_more s prep node job release =
      added test (job_run s node.number node.pool ReleaseRun release.line job.id) (change_prep prep releasing s)

  -- the start run of a node
  start_added : (o : Option StartTask) (node : NodeRow) (t : State) → ((start : StartTask) → test (start_run t node start) ≡ false)
      → HasNoMore test t (begin_start o node t)
  start_added None node t other = no_change test t
  start_added (Some start) node t other = added test (start_run t node start) t (other start)

  -- a node is added
  pub node_no_more : (s : State) (seat : ℕ) (pool : PoolRow) → ((start : StartTask) → test (start_run s (new_node s pool seat) start) ≡ false)
      → HasNoMore test s (node_added s seat pool).state
  node_no_more s seat pool = start_added pool.start (new_node s pool seat) (add_node_row (new_node s pool seat) s)

  -- the preparation run of a job on a node where it has none
  preparation_begun : (job : JobRow) (node : NodeRow) (preparation : StartTask) (t : State) (b : Bool)
      → (b ≡ false → test (job_run t node.number node.pool PrepRun preparation.line job.id) ≡ false)
      → HasNoMore test t (cond b t (begin_preparation job node preparation t))
  preparation_begun job node preparation t true other = no_change test t
  preparation_begun job node preparation t false other =
      added test (job_run t node.number node.pool PrepRun preparation.line job.id) (add_prep_row (new_prep job.id node.number) t) (other refl)

  preparation_added : (o : Option StartTask) (job : JobRow) (node : NodeRow) (t : State)
      → ((preparation : StartTask) → has_preparation t job.id node.number ≡ false
      → test (job_run t node.number node.pool PrepRun preparation.line job.id) ≡ false)
      → HasNoMore test t (prepare_with o job node t)
  preparation_added None job node t other = no_change test t
  preparation_added (Some preparation) job node t other =
      preparation_begun job node preparation t (has_preparation t job.id node.number) (other preparation)

  -- a task is placed
  pub place_no_more : (s : State) (job : JobRow) (task : TaskRow) (node : NodeRow)
      → ((preparation : StartTask) → has_preparation s job.id node.number ≡ false
      → test (job_run s node.number node.pool PrepRun preparation.line job.id) ≡ false)
      → ((t : State) → s.next_run ≤ t.next_run → test (work_run t node (placed task) TaskRun task.line task.slots (first_state t job node)) ≡ false)
      → HasNoMore test s (place s job task node).state
  place_no_more s job task node no_preparation no_work =
      let put : State = put_task (placed task) s in
      let before : State = prepare job node put in
      both_steps test put before (place s job task node).state (preparation_added job.prep job node put no_preparation)
      (added test (work_run before node (placed task) TaskRun task.line task.slots (first_state before job node)) before
      (no_work before (preparation_counter job.prep job node put)))

  -- none of the runs that a due step makes passes the test
  pub record RefusesNew (s : State) : Type 0 where
    pub release : (node : NodeRow) (job : JobRow) (release : ReleaseTask) → test (job_run s node.number node.pool ReleaseRun release.line job.id) ≡ false
    pub start : (seat : ℕ) (pool : PoolRow) (start : StartTask) → test (start_run s (new_node s pool seat) start) ≡ false
    pub preparation : (job : JobRow) (node : NodeRow) (preparation : StartTask) → has_preparation s job.id node.number ≡ false
        → test (job_run s node.number node.pool PrepRun preparation.line job.id) ≡ false
    pub work : (node : NodeRow) (task : TaskRow) (t : State) (state : RunState) → s.next_run ≤ t.next_run
        → test (work_run t node task TaskRun task.line task.slots state) ≡ false

  -- if none of the runs that it makes passes, no more runs pass after it than before
  pub no_more_by_due : IsLasting test → (seats : ℕ) (s : State) (step : DueStep) → RefusesNew s → due_step seats s ≡ Some step → HasNoMore test s step.state
  no_more_by_due lasting seats s step refuses e =
      of_due s (λ made. HasNoMore test s made.state) (λ made lasts. lasts.runs test lasting)
      (λ prep node job release. release_no_more s prep node job release (refuses.release node job release))
      (λ seat pool. node_no_more s seat pool (refuses.start seat pool))
      (λ job task node.
      place_no_more s job task node (refuses.preparation job node) (λ t later. refuses.work node (placed task) t (first_state t job node) later))
      seats step e
