-- What the ending of a task does to its job keeps sound tables, and the rank stays below what it is below without it.
use Rattle.std.proofs.Common.{◌≡◌, ℕ, ◌+◌, ◌<◌, ◌≤◌, Bool, true, false, not, ◌&&◌, [], ◌∷◌, Some, find, is_some, refl, ◌∙◌, cond, arith}
use Rattle.std.specs.List.{find, list_any}
use Rattle.bt_base.proofs.SameIds.{same_equiv}
use Rattle.bt_base.proofs.Turns.{lex_lt, lex_first, lex_next}
use Rattle.bt_rows.specs.declared.event.DisableTasks.TheVariants.{Requeue}
use Rattle.bt_rows.specs.Ranges.{is_reason}
use Rattle.batch_model.specs.Rows.{is_job, job_of, put_job}
use Rattle.batch_model.specs.Runs.{halted}
use Rattle.batch_model.specs.Tasks.{is_placed, is_completed, is_in_job, is_placed_in}
use Rattle.batch_model.specs.Jobs.{can_disable, is_past, is_quiet, job_in}
use Rattle.batch_model.specs.Stops.{wanting, is_stopped, is_run_of_stopped, stop, disable, terminate, job_for}
use Rattle.batch_model.specs.Settling.{is_over, task_failed, act, act_if_asked}
use Rattle.batch_model.specs.WallTimes.{can_be_asked}
use Rattle.batch_model.specs.Measure.{scaling_left, steps_of_job, can_time_out, jobs_left, pools_left, ends_left, rank}
use Rattle.batch_model.specs.Sound.{IsSound}
use Rattle.batch_model.specs.WellFormed.{has_no_placed_if_quiet}
use Rattle.batch_model.specs.Variants.{State, JobRow, JobState, JobActive, Disabling, Disabled, Enabling, Terminating, JobCompleted, Deleting, JobAction, NoAction}
use Rattle.batch_model.specs.Variants.{ToDisable, ToTerminate, TaskRow, WantRequeue}
use Rattle.model_lists.proofs.Tests.{and_true, and_first, and_second, true_not}
use Rattle.model_lists.proofs.RowLists.{each_any, each_found, find_test, any_found}
use Rattle.model_lists.proofs.RowSums.{sum_change_same, count_change_at_most}
use Rattle.model_tables.proofs.JobPut.{found_waits}
use Rattle.model_tables.proofs.JobsStopped.{sound_disabled, sound_closed}
use Rattle.model_rules.proofs.JobsMoved.{job_valid, fewer_steps, steps_put}
use Rattle.model_rules.proofs.WallTimes.{open_steps, asked_before}

-- the reason of a job that a failed task terminated is one
task_failed_reason : is_reason task_failed ≡ true
unfolding task_failed
task_failed_reason = refl

-- a job that can be disabled, and is not quiet, has at least the steps of one that is disabling
disabling_at_most : (state : JobState) → can_disable state ≡ true → is_quiet state ≡ false → 4 ≤ steps_of_job state
disabling_at_most JobActive h k = omega arith
disabling_at_most Disabling h k = omega arith
disabling_at_most Disabled h k = cc
disabling_at_most Enabling h k = cc
disabling_at_most Terminating h k = cc
disabling_at_most JobCompleted h k = cc
disabling_at_most Deleting h k = cc

-- a sum in which a part is replaced by four, which it is at least
no_more_steps : (after before old jobs : ℕ) → after + old ≡ before + 4 → 4 ≤ old → before ≤ jobs → after ≤ jobs
no_more_steps after before old jobs total few below = omega (arith, total, few, below)

-- what is not more than a number that is below another
still_below : (after before ends : ℕ) → after ≤ before → before < ends → after < ends
still_below after before ends less below = omega (arith, less, below)

-- what is below a number that is not more than another
below_still : (after before jobs : ℕ) → after < before → before ≤ jobs → after < jobs
below_still after before jobs less below = omega (arith, less, below)

-- tasks are stopped: no more is to end
stop_ends_less : (s : State) (test : TaskRow → Bool) → ends_left (stop test WantRequeue s) ≤ ends_left s
stop_ends_less s test =
    let same_ends =
    sum_change_same (is_stopped test) (wanting WantRequeue) (λ (t : TaskRow). cond {A = ℕ} (not (is_completed t.stage)) 1 0) (λ x t. refl) s.tasks
    in
    let fewer =
    count_change_at_most (is_stopped test) (wanting WantRequeue) (λ task. true) can_time_out
    (λ x k t m. let none : false ≡ true = and_second (is_placed x.stage && is_some x.started) false m in cc)
    s.tasks (each_any (λ task. true) (λ task. refl) s.tasks)
    in
    let no_more =
    count_change_at_most (is_run_of_stopped test s) (halted s.moment) (λ run. true) can_be_asked
    (λ run k t. asked_before s.moment run) s.runs (each_any (λ run. true) (λ run. refl) s.runs)
    in
    omega (arith, same_ends, fewer, no_more)

-- the job of a placed task is not disabled, enabling or completed
pub job_is_loud : (seats : ℕ) (s : State) (h : IsSound seats s) (task : TaskRow) (job : JobRow) → find (is_over s) s.tasks ≡ Some task
    → job_of s task.job ≡ Some job → is_quiet job.state ≡ false
job_is_loud seats s h task job found job_found =
    not_quiet (is_quiet job.state) (list_any (is_placed_in job.id) s.tasks)
    (each_found (has_no_placed_if_quiet s) (is_job task.job) job s.jobs job_found h.limited.quiet)
    (any_found (is_placed_in job.id) (is_over s) task s.tasks found
    (and_true (and_first (is_placed task.stage) _ (find_test (is_over s) task s.tasks found))
    (same_equiv.symm task.job job.id ∙ find_test (is_job task.job) job s.jobs job_found)))
  where
    not_quiet : (a b : Bool) → not (a && b) ≡ true → b ≡ true → a ≡ false
    not_quiet true true h k = cc
    not_quiet true false h k = cc
    not_quiet false b h k = refl

module _ (seats : ℕ) (s : State) (h : IsSound seats s) (test : JobRow → Bool) (job : JobRow) (found : find test s.jobs ≡ Some job) where
  -- the tables after the action

  disabled_sound : (b : Bool) → IsSound seats (cond b (disable job Requeue s) s)
  disabled_sound true = sound_disabled seats s job Requeue h (job_valid seats s h test job found) (found_waits s test job found)
  disabled_sound false = h

  terminated_sound : (b : Bool) → IsSound seats (cond b s (terminate task_failed job s))
  terminated_sound true = h
  terminated_sound false =
      sound_closed seats s Terminating task_failed job h (job_valid seats s h test job found) task_failed_reason refl (found_waits s test job found)

  act_sound : (action : JobAction) → IsSound seats (act action job s)
  act_sound NoAction = h
  act_sound ToDisable = disabled_sound (can_disable job.state)
  act_sound ToTerminate = terminated_sound (is_past job.state)

  asked_sound : (b : Bool) (action : JobAction) → IsSound seats (cond b (act action job s) s)
  asked_sound true action = act_sound action
  asked_sound false action = h

  -- they are sound
  pub acted_sound : (action : JobAction) → IsSound seats (act_if_asked action job s)
  acted_sound action = asked_sound job.on_fail action

  -- their rank

  module _ (loud : is_quiet job.state ≡ false) (scaling jobs pools ends tasks : ℕ) (scaling_below : scaling_left s ≤ scaling) (jobs_below : jobs_left s ≤ jobs) (pools_below : pools_left s ≤ pools)
      (ends_below : ends_left s < ends) where
    -- below these numbers
    abbrev IsBelow : State → Type 0
    IsBelow after = lex_lt (rank after) (scaling ∷ jobs ∷ pools ∷ ends ∷ tasks ∷ []) ≡ true

    unchanged_below : IsBelow s
    unchanged_below = lex_next _ _ _ _ scaling_below (lex_next _ _ _ _ jobs_below (lex_next _ _ _ _ pools_below (lex_first _ _ _ _ ends_below refl)))

    disabled_below : (b : Bool) → can_disable job.state ≡ b → IsBelow (cond b (disable job Requeue s) s)
    disabled_below true can =
        let total : jobs_left (put_job (job_in Disabling job) s) + steps_of_job job.state ≡ jobs_left s + 4 =
        steps_put seats s h test job (job_in Disabling job) found refl
        in
        let jobs_less : jobs_left (disable job Requeue s) ≤ jobs =
        no_more_steps (jobs_left (put_job (job_in Disabling job) s)) (jobs_left s) (steps_of_job job.state) jobs total
        (disabling_at_most job.state can loud) jobs_below
        in
        let ends_less : ends_left (disable job Requeue s) ≤ ends_left s = stop_ends_less (put_job (job_in Disabling job) s) (is_in_job job.id) in
        lex_next _ _ _ _ scaling_below
        (lex_next _ _ _ _ jobs_less
        (lex_next _ _ _ _ pools_below (lex_first _ _ _ _ (still_below (ends_left (disable job Requeue s)) (ends_left s) ends ends_less ends_below) refl)))
    disabled_below false can = unchanged_below

    terminated_below : (b : Bool) → is_past job.state ≡ b → IsBelow (cond b s (terminate task_failed job s))
    terminated_below true past = unchanged_below
    terminated_below false going =
        let less : jobs_left (terminate task_failed job s) < jobs_left s =
        fewer_steps seats s h test job (job_for Terminating task_failed job) found refl (open_steps job.state (true_not going))
        in
        lex_next _ _ _ _ scaling_below (lex_first _ _ _ _ (below_still (jobs_left (terminate task_failed job s)) (jobs_left s) jobs less jobs_below) refl)

    act_below : (action : JobAction) → IsBelow (act action job s)
    act_below NoAction = unchanged_below
    act_below ToDisable = disabled_below (can_disable job.state) refl
    act_below ToTerminate = terminated_below (is_past job.state) refl

    asked_below : (b : Bool) (action : JobAction) → IsBelow (cond b (act action job s) s)
    asked_below true action = act_below action
    asked_below false action = unchanged_below

    -- it is below
    pub acted_below : (action : JobAction) → IsBelow (act_if_asked action job s)
    acted_below action = asked_below job.on_fail action
