-- The rule that settles a task keeps sound tables, and lowers the rank.
use Rattle.std.proofs.Common.{◌≡◌, ℕ, ◌+◌, ◌<◌, Some, refl, true, Option, None, subst, Bool, false, not, ◌&&◌, ◌||◌, nat_le, find, cond, is_some, is_none}
use Rattle.std.proofs.Common.{arith, inl, inr}
use Rattle.std.specs.List.{find}
use Rattle.std.proofs.lemmas.Bool.Decides.{nat_tests}
use Rattle.bt_base.specs.Ids.{same}
use Rattle.bt_base.proofs.SameIds.{same_equiv}
use Rattle.bt_base.proofs.Turns.{lex_lt, lex_first, lex_next}
use Rattle.bt_rows.proofs.DistinctRows.{found_first}
use Rattle.bt_rows.specs.Ranges.{passes_if_some}
use Rattle.bt_rows.specs.Keys.{same_task, same_task_equiv}
use Rattle.bt_rows.specs.declared.due.Outcome.{Outcome}
use Rattle.batch_model.specs.Finding.{is_below}
use Rattle.batch_model.specs.Rows.{put_task, is_task, is_job, job_of}
use Rattle.batch_model.specs.Runs.{is_run_of_task}
use Rattle.batch_model.specs.Tasks.{is_placed, is_active, is_completed, is_busy, attempt_ending, retry_limit, completed, again}
use Rattle.batch_model.specs.Endings.{is_success, is_not_started}
use Rattle.batch_model.specs.Conditions.{condition}
use Rattle.batch_model.specs.Settling.{is_over, settled, complete, outcome_of, settle_completed, settle_timed_out, settle_terminated, settle_again}
use Rattle.batch_model.specs.Settling.{settle_deleted, settle_failed, settle_ending, settle_by, settle}
use Rattle.batch_model.specs.Sound.{IsSound}
use Rattle.batch_model.specs.WellFormed.{is_closed_if_completed, is_task_in_range, is_closed_past, is_task_valid}
use Rattle.batch_model.specs.WallTimes.{can_be_asked}
use Rattle.batch_model.specs.Dues.{settle_first}
use Rattle.batch_model.specs.Steps.{DueStep}
use Rattle.batch_model.specs.Measure.{scaling_left, steps_of_task, can_time_out, jobs_left, pools_left, ends_left, tasks_left, rank}
use Rattle.batch_model.specs.Variants.{State, JobRow, TaskRow, TaskStage, Active, Placed, Completed, Closed, How, ByEnding, ByTermination, ByWall, Options, Ending}
use Rattle.batch_model.specs.Variants.{NoCode, Want, WantRequeue, WantTerminate, WantWall, WantDelete, RunRow}
use Rattle.model_lists.proofs.Tests.{passes_or_not, and_first, and_true, and_second, not_true}
use Rattle.model_lists.proofs.RowLists.{each_found, find_test}
use Rattle.model_lists.proofs.NextNumbers.{is_not_after_itself}
use Rattle.model_lists.proofs.KeyedLists.{sum_by-put_row}
use Rattle.model_lists.proofs.KeptRows.{sum_kept, sum_dropped}
use Rattle.model_tables.proofs.TasksKept.{Marks}
use Rattle.model_tables.proofs.TaskMoved.{consistent_over, sound_task_put}
use Rattle.model_tables.proofs.TaskDropped.{sound_task_dropped}
use Rattle.model_rules.proofs.settle.JobActed.{job_is_loud, acted_sound, acted_below}
use Rattle.model_rules.proofs.Rules.{IsDueKept, from_map, from_then}

-- a placed task isn't completed
placed_counts : (stage : TaskStage) → is_placed stage ≡ true → is_completed stage ≡ false
placed_counts Active h = refl
placed_counts Placed h = refl
placed_counts Completed h = cc

-- a placed task isn't active
placed_inactive : (stage : TaskStage) → is_placed stage ≡ true → is_active stage ≡ false
placed_inactive Active h = cc
placed_inactive Placed h = refl
placed_inactive Completed h = cc

-- a row that doesn't pass counts one where others count none
ends_one : {b : Bool} → b ≡ false → cond {A = ℕ} (not b) 1 0 ≡ 1
ends_one h = rw h refl

-- what is not completed is not closed
unclosed_by : (done : Bool) (closed : Option Closed) → done ≡ false → ((done && is_some closed) || (not done && is_none closed)) ≡ true → is_none closed ≡ true
unclosed_by true closed h k = cc
unclosed_by false closed h k = k

-- one failure more is not above the attempt if the failures are below it
more_fits : (failures attempt : ℕ) → nat_le attempt failures ≡ false → nat_le (failures + 1) attempt ≡ true
more_fits failures attempt h = grind (arith, nat_tests)

-- a placed task has fewer failures than attempts
fewer_failures : (placed few enough : Bool) → placed ≡ true → (few && not (placed && enough)) ≡ true → enough ≡ false
fewer_failures true true true h k = cc
fewer_failures true true false h k = refl
fewer_failures true false enough h k = cc
fewer_failures false few enough h k = cc

-- what passes is not kept by the opposite test
dropped : (b : Bool) → b ≡ true → not b ≡ false
dropped true k = refl
dropped false k = cc

module _ (seats : ℕ) (s : State) (h : IsSound seats s) (task : TaskRow) (found : find (is_over s) s.tasks ≡ Some task) where
  -- the task is placed, and no run of its present attempt is unended
  over : is_over s task ≡ true
  over = find_test (is_over s) task s.tasks found

  placed_before : is_placed task.stage ≡ true
  placed_before = and_first (is_placed task.stage) _ over

  free : is_busy s task ≡ false
  free = not_true (is_busy s task) (and_second (is_placed task.stage) _ over)

  -- it is valid, and not closed
  valid : is_task_valid s.moment task ≡ true
  valid = each_found (is_task_valid s.moment) (is_over s) task s.tasks found h.limited.rows.tasks

  unclosed : is_none task.closed ≡ true
  unclosed =
      unclosed_by (is_completed task.stage) task.closed (placed_counts task.stage placed_before)
      (each_found is_closed_if_completed (is_over s) task s.tasks found h.consistent.fitting.closing)

  -- it is found by its key
  first : find (λ (other : TaskRow). same_task other task) s.tasks ≡ Some task
  first = found_first same_task same_task_equiv (is_over s) task s.tasks h.consistent.keys.tasks found

  -- it is one of those that are to end
  one : cond {A = ℕ} (not (is_completed task.stage)) 1 0 ≡ 1
  one = ends_one (placed_counts task.stage placed_before)

  -- completed

  -- the marks of a task that is completed
  abbrev completed_marks : Closed → Marks
  completed_marks closing =
      record { stage = Completed; failures = task.failures; wanted = None; fail = None; started = None; closed = Some closing }

  -- the tables stay sound
  sound_completed : (closing : Closed) → nat_le closing.at s.moment ≡ true → IsSound seats (put_task (completed closing task) s)
  sound_completed closing now =
      sound_task_put s (completed closing task) seats h
      (consistent_over (completed_marks closing) refl refl refl seats s task (is_over s) h.consistent found free)
      (and_true (and_true (and_first _ _ (and_first _ _ valid)) now) (and_true (and_first _ _ (and_second _ _ valid)) refl))
      refl

  -- one task less is to end
  completed_ends : (closing : Closed) → ends_left (put_task (completed closing task) s) < ends_left s
  completed_ends closing =
      let total =
      sum_by-put_row same_task same_task_equiv task s.tasks h.consistent.keys.tasks first (λ (t : TaskRow). cond {A = ℕ} (not (is_completed t.stage)) 1 0)
      (completed closing task) (λ x. refl)
      in
      let timed =
      sum_by-put_row same_task same_task_equiv task s.tasks h.consistent.keys.tasks first (λ (t : TaskRow). cond {A = ℕ} (can_time_out t) 1 0)
      (completed closing task) (λ x. refl)
      in
      let counted = one in
      omega (arith, total, counted, timed)

  -- without an action
  terminated_kept : (closing : Closed) (outcome : Outcome) → nat_le closing.at s.moment ≡ true
      → IsDueKept seats s (settled task outcome (put_task (completed closing task) s))
  terminated_kept closing outcome now = record {
    sound = sound_completed closing now;
    falls = lex_next _ _ _ _ (omega arith) (lex_next _ _ _ _ (omega arith) (lex_next _ _ _ _ (omega arith) (lex_first _ _ _ _ (completed_ends closing) refl)));
    places = tt;
    ends = tt;
    releases = tt;
  }

  -- active again

  -- the marks of a task that is active again
  abbrev again_marks : ℕ → Marks
  again_marks failed = record { stage = Active; failures = failed; wanted = None; fail = None; started = None; closed = task.closed }

  -- the tables stay sound
  sound_again : (failed : ℕ) → nat_le failed task.attempt ≡ true → IsSound seats (put_task (again failed task) s)
  sound_again failed few =
      let past : passes_if_some (is_closed_past s.moment) task.closed ≡ true = and_second _ _ (and_second _ _ (and_first _ _ valid)) in
      sound_task_put s (again failed task) seats h
      (consistent_over (again_marks failed) refl refl unclosed seats s task (is_over s) h.consistent found free)
      (and_true {a = is_task_in_range task && passes_if_some (is_closed_past s.moment) task.closed} {b = nat_le failed task.attempt && true}
      (and_true (and_first _ _ (and_first _ _ valid)) past)
      (and_true few refl))
      refl

  -- a placed task that is not busy is to be settled and placed
  steps_if_over : steps_of_task s task ≡ 2
  steps_if_over = rw (placed_inactive task.stage placed_before, placed_before, free) refl

  -- it is only to be placed, and jobs, pools and ends are as they were, or fewer tasks can be stopped
  again_falls : (failed : ℕ) → lex_lt (rank (put_task (again failed task) s)) (rank s) ≡ true
  again_falls failed =
      let ends =
      sum_by-put_row same_task same_task_equiv task s.tasks h.consistent.keys.tasks first (λ (t : TaskRow). cond {A = ℕ} (not (is_completed t.stage)) 1 0)
      (again failed task) (λ x. refl)
      in
      let counted = one in
      let steps = sum_by-put_row same_task same_task_equiv task s.tasks h.consistent.keys.tasks first (steps_of_task s) (again failed task) (λ x. refl) in
      let before = steps_if_over in
      let timed =
      sum_by-put_row same_task same_task_equiv task s.tasks h.consistent.keys.tasks first (λ (t : TaskRow). cond {A = ℕ} (can_time_out t) 1 0)
      (again failed task) (λ x. refl)
      in
      elim (passes_or_not (can_time_out task)) [
        | inl can ↦
            let counts : cond {A = ℕ} (can_time_out task) 1 0 ≡ 1 = rw can refl in
            lex_next _ _ _ _ (omega arith) (lex_next _ _ _ _ (omega arith) (lex_next _ _ _ _ (omega arith) (lex_first _ _ _ _ (omega (arith, ends, counted, timed, counts)) refl)))
        | inr cannot ↦
            let counts : cond {A = ℕ} (can_time_out task) 1 0 ≡ 0 = rw cannot refl in
            lex_next _ _ _ _ (omega arith) (lex_next _ _ _ _ (omega arith)
            (lex_next _ _ _ _ (omega arith)
            (lex_next _ _ _ _ (omega (arith, ends, counted, timed, counts)) (lex_first _ _ _ _ (omega (arith, steps, before)) refl))))
      ]

  -- with failures that are not above its attempt
  again_kept : (failed : ℕ) → nat_le failed task.attempt ≡ true → IsDueKept seats s (settle_again s task failed)
  again_kept failed few = record { sound = sound_again failed few; falls = again_falls failed; places = tt; ends = tt; releases = tt }

  -- with the failures that it has, and with one more
  same_failures : nat_le task.failures task.attempt ≡ true
  same_failures = and_first _ _ (and_second _ _ valid)

  one_failure_more : nat_le (task.failures + 1) task.attempt ≡ true
  one_failure_more =
      more_fits task.failures task.attempt
      (fewer_failures (is_placed task.stage) (nat_le task.failures task.attempt) (nat_le task.attempt task.failures) placed_before
      (and_second _ _ valid))

  -- deleted

  -- it is dropped with its runs
  deleted_kept : IsDueKept seats s (settle_deleted s task)
  deleted_kept =
      let counted = one in
      let fewer =
      sum_dropped (λ other. not (is_task task.job task.id other)) (λ (t : TaskRow). cond {A = ℕ} (not (is_completed t.stage)) 1 0) (is_over s) task s.tasks
      found (dropped (is_task task.job task.id task) (and_true {a = same task.job task.job} (same_equiv.refl task.job) (same_equiv.refl task.id)))
      (omega (arith, counted))
      in
      let timed = sum_kept (λ other. not (is_task task.job task.id other)) (λ (t : TaskRow). cond {A = ℕ} (can_time_out t) 1 0) s.tasks in
      let asked = sum_kept (λ run. not (is_run_of_task task.job task.id run)) (λ (run : RunRow). cond {A = ℕ} (can_be_asked run) 1 0) s.runs in
      record {
        sound = sound_task_dropped task s seats h;
        falls = lex_next _ _ _ _ (omega arith) (lex_next _ _ _ _ (omega arith) (lex_next _ _ _ _ (omega arith) (lex_first _ _ _ _ (omega (arith, fewer, timed, asked)) refl)));
        places = tt;
        ends = tt;
        releases = tt;
      }

  -- in its job

  module _ (job : JobRow) (job_found : job_of s task.job ≡ Some job) where
    -- the closing of a task that is completed so
    abbrev closing_by : How → Bool → Options → Closed
    closing_by cause succeeded options = record { how = cause; success = succeeded; satisfies = options.satisfies; at = s.moment }

    -- completed, with the action of its options
    completed_kept : (cause : How) (succeeded : Bool) (options : Options) (outcome : Outcome)
        → IsDueKept seats s (settled task outcome (complete job task cause succeeded options s))
    completed_kept cause succeeded options outcome = record {
      sound =
          acted_sound seats (put_task (completed (closing_by cause succeeded options) task) s)
          (sound_completed (closing_by cause succeeded options) (is_not_after_itself s.moment)) (is_job task.job) job job_found options.job;
      falls =
          acted_below seats (put_task (completed (closing_by cause succeeded options) task) s)
          (sound_completed (closing_by cause succeeded options) (is_not_after_itself s.moment)) (is_job task.job) job job_found
          (job_is_loud seats s h task job found job_found) (scaling_left s) (jobs_left s) (pools_left s) (ends_left s) (tasks_left s) (omega arith) (omega arith) (omega arith)
          (completed_ends (closing_by cause succeeded options)) options.job;
      places = tt;
      ends = tt;
      releases = tt;
    }

    -- as it ended
    as_ended : (ending : Ending) (succeeded : Bool) → IsDueKept seats s (settle_completed s job task ending succeeded)
    as_ended ending succeeded = completed_kept (ByEnding ending) succeeded (condition task ending) (outcome_of succeeded)

    -- after a failure
    failed_kept : (ending : Ending) (b : Bool)
        → IsDueKept seats s (cond b (settle_again s task (task.failures + 1)) (settle_completed s job task ending false))
    failed_kept ending true = again_kept (task.failures + 1) one_failure_more
    failed_kept ending false = as_ended ending false

    -- by how its attempt ended
    ending_kept : (ending : Ending) (a b : Bool)
        → IsDueKept seats s (cond a (settle_completed s job task ending true) (cond b (settle_completed s job task ending false) (settle_failed s job task ending)))
    ending_kept ending true b = as_ended ending true
    ending_kept ending false true = as_ended ending false
    ending_kept ending false false = failed_kept ending (is_below task.failures (retry_limit job task))

    -- by its wanted end
    kept_by : (want : Option Want) (step : DueStep) → settle_by want s job task ≡ Some step → IsDueKept seats s step
    kept_by (Some WantDelete) step e =
        let is : settle_deleted s task ≡ step = cc in subst (IsDueKept seats s) is deleted_kept
    kept_by (Some WantTerminate) step e =
        let is : settle_terminated s task ≡ step = cc in
        subst (IsDueKept seats s) is
        (terminated_kept (record { how = ByTermination; success = false; satisfies = false; at = s.moment }) (outcome_of false) (is_not_after_itself s.moment))
    kept_by (Some WantWall) step e =
        let is : settle_timed_out s job task ≡ step = cc in
        subst (IsDueKept seats s) is (completed_kept ByWall false (condition task NoCode) (outcome_of false))
    kept_by (Some WantRequeue) step e =
        let is : settle_again s task task.failures ≡ step = cc in subst (IsDueKept seats s) is (again_kept task.failures same_failures)
    kept_by None step e =
        let made = from_map (settle_ending s job task) (attempt_ending s task) step e in
        subst (IsDueKept seats s) made.1 (ending_kept made.0 (is_success made.0) (is_not_started made.0))

-- U5
pub settle_kept : (seats : ℕ) (s : State) → IsSound seats s → (step : DueStep) → settle_first s ≡ Some step → IsDueKept seats s step
settle_kept seats s h step e =
    let found = from_then (settle s) (find (is_over s) s.tasks) step e in
    let job = from_then (λ (row : JobRow). settle_by found.0.wanted s row found.0) (job_of s found.0.job) step found.1 in
    kept_by seats s h found.0 found.2 job.0 job.2 found.0.wanted step job.1
