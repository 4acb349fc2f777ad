-- The rules of wall times keep sound tables, and lower the rank: a task is stopped, and a job is terminated.
use Rattle.std.proofs.Common.{◌≡◌, ℕ, ◌<◌, Bool, true, false, not, ◌&&◌, Option, Some, None, find, is_some, is_none, count_by, refl, cond, subst, arith}
use Rattle.std.specs.List.{find}
use Rattle.std.specs.Option.{option_map_or}
use Rattle.bt_base.specs.Ids.{same}
use Rattle.bt_base.proofs.SameIds.{same_equiv}
use Rattle.bt_base.proofs.Turns.{lex_first, lex_next}
use Rattle.bt_rows.specs.Ranges.{is_reason}
use Rattle.batch_model.specs.Finding.{has_passed, change_where}
use Rattle.batch_model.specs.Rows.{is_task}
use Rattle.batch_model.specs.Tasks.{is_placed, is_completed, is_undisturbed, is_busy}
use Rattle.batch_model.specs.Jobs.{is_past}
use Rattle.batch_model.specs.Stops.{wanting, is_stopped, job_for}
use Rattle.batch_model.specs.WallTimes.{is_out_of_time, is_task_timed_out, task_timed_out, time_out_task_first, wall_time_over, is_job_timed_out, job_timed_out}
use Rattle.batch_model.specs.WallTimes.{time_out_job_first}
use Rattle.batch_model.specs.Measure.{steps_of_job, can_time_out}
use Rattle.batch_model.specs.Sound.{IsSound}
use Rattle.batch_model.specs.Steps.{DueStep}
use Rattle.batch_model.specs.Variants.{State, JobState, JobActive, Disabling, Disabled, Enabling, Terminating, JobCompleted, Deleting, TaskRow, WantWall}
use Rattle.model_lists.proofs.Tests.{and_true, and_first, and_second}
use Rattle.model_lists.proofs.RowLists.{find_test}
use Rattle.model_lists.proofs.RowSums.{sum_change_same, count_found_less}
use Rattle.model_tables.proofs.OneStopped.{sound_one_stopped}
use Rattle.model_tables.proofs.JobsStopped.{sound_closed}
use Rattle.batch_model.specs.Runs.{is_taken, is_release, halted_in, halted}
use Rattle.batch_model.specs.Stops.{is_run_of_stopped}
use Rattle.batch_model.specs.WallTimes.{can_be_asked}
use Rattle.batch_model.specs.Variants.{RunRow, RunState, Waiting, Queued, Taken, Ended, Withdrawn}
use Rattle.model_lists.proofs.RowLists.{each_any}
use Rattle.model_lists.proofs.RowSums.{count_change_at_most}
use Rattle.model_tables.proofs.JobPut.{found_waits}
use Rattle.model_rules.proofs.JobsMoved.{job_valid, fewer_steps}
use Rattle.model_rules.proofs.Rules.{IsDueKept, from_map}

-- a task that is out of time has started
started_if_out : (from : Option ℕ) (wall : Option ℕ) (now : ℕ) → option_map_or (λ at. has_passed at wall now) from false ≡ true → is_some from ≡ true
started_if_out None wall now h = cc
started_if_out (Some from) wall now h = refl

-- a test beside one that does not pass
not_beside : (a : Bool) → (a && false) ≡ false
not_beside true = refl
not_beside false = refl

-- a run that can be asked to stop after it was halted could before
pub asked_before : (now : ℕ) (run : RunRow) → can_be_asked (halted now run) ≡ true → can_be_asked run ≡ true
asked_before now run h = by_state run.state h
  where
    off : {P : Type 0} (a b : Bool) → ((a && false) && b) ≡ true → P
    off true b k = cc
    off false b k = cc

    off_last : {P : Type 0} (a : Bool) → (a && false) ≡ true → P
    off_last true k = cc
    off_last false k = cc

    by_state : (state : RunState) → can_be_asked (halted_in state now run) ≡ true → can_be_asked run ≡ true
    by_state Waiting k = off (is_release run.kind) (not run.asked) k
    by_state Queued k = off (is_release run.kind) (not run.asked) k
    by_state Taken k = off_last (is_release run.kind && is_taken run.state) k
    by_state (Ended ending) k = k
    by_state Withdrawn k = k

-- a job that is not past has more steps than a terminating one
pub open_steps : (state : JobState) → not (is_past state) ≡ true → 1 < steps_of_job state
open_steps JobActive h = omega arith
open_steps Disabling h = omega arith
open_steps Disabled h = omega arith
open_steps Enabling h = omega arith
open_steps Terminating h = cc
open_steps JobCompleted h = cc
open_steps Deleting h = cc

-- the reason of a job whose wall time is over is one
wall_time_reason : is_reason wall_time_over ≡ true
unfolding wall_time_over
wall_time_reason = refl

module _ (seats : ℕ) (s : State) (h : IsSound seats s) where
  module _ (task : TaskRow) (found : find (is_task_timed_out s) s.tasks ≡ Some task) where
    -- its wall time is over
    passes : is_task_timed_out s task ≡ true
    passes = find_test (is_task_timed_out s) task s.tasks found

    -- it is placed, and no end is wanted
    quiet : (is_placed task.stage && is_undisturbed task) ≡ true
    quiet = and_first _ (is_busy s task) (and_first _ (is_out_of_time s.moment task) passes)

    -- it is the one that is stopped
    stops : is_stopped (is_task task.job task.id) task ≡ true
    stops =
        and_true (and_first (is_placed task.stage) (is_undisturbed task) quiet)
        (and_true {a = same task.job task.job} (same_equiv.refl task.job) (same_equiv.refl task.id))

    -- it could be stopped
    could : can_time_out task ≡ true
    could =
        and_true
        (and_true (and_first (is_placed task.stage) (is_undisturbed task) quiet)
        (started_if_out task.started task.wall s.moment (and_second _ (is_out_of_time s.moment task) passes)))
        (and_first (is_none task.wanted) (is_none task.fail) (and_second (is_placed task.stage) (is_undisturbed task) quiet))

    -- fewer tasks can be stopped
    fewer : count_by can_time_out (change_where (is_stopped (is_task task.job task.id)) (wanting WantWall) s.tasks) < count_by can_time_out s.tasks
    fewer =
        count_found_less (is_stopped (is_task task.job task.id)) (wanting WantWall) can_time_out
        (λ x t k. let none : false ≡ true = and_second (is_placed x.stage && is_some x.started) false k in cc)
        (is_task_timed_out s) task s.tasks found stops could (not_beside (is_placed task.stage && is_some task.started))

    -- it is stopped
    stopped_kept : IsDueKept seats s (task_timed_out s task)
    stopped_kept =
        let same_ends =
        sum_change_same (is_stopped (is_task task.job task.id)) (wanting WantWall) (λ (t : TaskRow). cond {A = ℕ} (not (is_completed t.stage)) 1 0)
        (λ x t. refl) s.tasks
        in
        let less = fewer in
        let no_more =
        count_change_at_most (is_run_of_stopped (is_task task.job task.id) s) (halted s.moment) (λ run. true) can_be_asked
        (λ run k t. asked_before s.moment run) s.runs (each_any (λ run. true) (λ run. refl) s.runs)
        in
        record {
          sound = sound_one_stopped seats s task.job task.id WantWall h;
          falls = lex_next _ _ _ _ (omega arith) (lex_next _ _ _ _ (omega arith) (lex_next _ _ _ _ (omega arith) (lex_first _ _ _ _ (omega (arith, same_ends, less, no_more)) refl)));
          places = tt;
          ends = tt;
          releases = tt;
        }

  -- U2
  pub time_out_task_kept : (step : DueStep) → time_out_task_first s ≡ Some step → IsDueKept seats s step
  time_out_task_kept step e =
      let made = from_map (task_timed_out s) (find (is_task_timed_out s) s.tasks) step e in
      subst (IsDueKept seats s) made.1 (stopped_kept made.0 made.2)

  -- U4
  pub time_out_job_kept : (step : DueStep) → time_out_job_first s ≡ Some step → IsDueKept seats s step
  time_out_job_kept step e =
      let made = from_map (job_timed_out s) (find (is_job_timed_out s) s.jobs) step e in
      let open_before : not (is_past made.0.state) ≡ true =
      and_first _ (has_passed made.0.created made.0.wall s.moment) (find_test (is_job_timed_out s) made.0 s.jobs made.2)
      in
      subst (IsDueKept seats s) made.1
      (record {
        sound = sound_closed seats s Terminating wall_time_over made.0 h (job_valid seats s h (is_job_timed_out s) made.0 made.2) wall_time_reason refl
            (found_waits s (is_job_timed_out s) made.0 made.2);
        falls =
            lex_next _ _ _ _ (omega arith) (lex_first _ _ _ _
            (fewer_steps seats s h (is_job_timed_out s) made.0 (job_for Terminating wall_time_over made.0) made.2 refl (open_steps made.0.state open_before)) refl);
        places = tt;
        ends = tt;
        releases = tt;
      })
