-- The rules of jobs keep sound tables, and lower the rank: a job is active again, is terminated with its tasks, is disabled,
-- and has ended.
use Rattle.std.proofs.Common.{◌≡◌, ℕ, ◌+◌, ◌<◌, Bool, true, false, not, ◌&&◌, ◌||◌, List, Some, find, refl, cond, subst, arith}
use Rattle.std.specs.List.{find}
use Rattle.bt_base.proofs.SameIds.{same_equiv}
use Rattle.bt_base.proofs.Turns.{lex_first, lex_next}
use Rattle.bt_rows.specs.Keys.{same_job, same_job_equiv}
use Rattle.bt_rows.specs.Ranges.{is_reason}
use Rattle.bt_rows.proofs.DistinctRows.{found_first}
use Rattle.batch_model.specs.Rows.{is_job, put_job}
use Rattle.batch_model.specs.Tasks.{has_placed_task}
use Rattle.batch_model.specs.Jobs.{is_job_active, is_disabling, is_enabling, is_closing, is_job_deleting, job_in}
use Rattle.batch_model.specs.JobRules.{is_to_enable, job_enabled, enable_first, all_complete, ends_with_tasks, tasks_done, terminate_first}
use Rattle.batch_model.specs.JobRules.{is_to_disable, job_disabled, disable_first, has_unended_run, has_job_ended, job_removed, job_completed}
use Rattle.batch_model.specs.JobRules.{job_ended, end_first}
use Rattle.batch_model.specs.Stops.{job_for}
use Rattle.batch_model.specs.Measure.{steps_of_job, jobs_left}
use Rattle.batch_model.specs.Sound.{IsSound}
use Rattle.batch_model.specs.Steps.{DueStep}
use Rattle.batch_model.specs.WellFormed.{is_job_valid}
use Rattle.batch_model.specs.Variants.{State, JobRow, JobState, JobActive, Disabling, Disabled, Enabling, Terminating, JobCompleted, Deleting}
use Rattle.model_lists.proofs.Tests.{and_first, and_second, or_false, not_true}
use Rattle.model_lists.proofs.RowLists.{each_found, find_test}
use Rattle.model_lists.proofs.KeyedLists.{sum_by-put_row}
use Rattle.model_lists.proofs.KeptRows.{sum_dropped}
use Rattle.model_tables.proofs.JobPut.{sound_job_put, found_waits}
use Rattle.model_tables.proofs.JobsStopped.{sound_closed}
use Rattle.model_rules.proofs.JobDropped.{sound_dropped}
use Rattle.model_rules.proofs.Rules.{IsDueKept, from_map}

-- the steps of a job, by its state

enabling_steps : (state : JobState) → is_enabling state ≡ true → steps_of_job state ≡ 6
enabling_steps JobActive h = cc
enabling_steps Disabling h = cc
enabling_steps Disabled h = cc
enabling_steps Enabling h = refl
enabling_steps Terminating h = cc
enabling_steps JobCompleted h = cc
enabling_steps Deleting h = cc

active_steps : (state : JobState) → is_job_active state ≡ true → steps_of_job state ≡ 5
active_steps JobActive h = refl
active_steps Disabling h = cc
active_steps Disabled h = cc
active_steps Enabling h = cc
active_steps Terminating h = cc
active_steps JobCompleted h = cc
active_steps Deleting h = cc

disabling_steps : (state : JobState) → is_disabling state ≡ true → steps_of_job state ≡ 4
disabling_steps JobActive h = cc
disabling_steps Disabling h = refl
disabling_steps Disabled h = cc
disabling_steps Enabling h = cc
disabling_steps Terminating h = cc
disabling_steps JobCompleted h = cc
disabling_steps Deleting h = cc

closing_steps : (state : JobState) → is_closing state ≡ true → steps_of_job state ≡ 1
closing_steps JobActive h = cc
closing_steps Disabling h = cc
closing_steps Disabled h = cc
closing_steps Enabling h = cc
closing_steps Terminating h = refl
closing_steps JobCompleted h = cc
closing_steps Deleting h = refl

-- the reason of a job that is terminated with its tasks is one
all_complete_reason : is_reason all_complete ≡ true
unfolding all_complete
all_complete_reason = refl

module _ (seats : ℕ) (s : State) (h : IsSound seats s) where
  -- a found job is valid
  pub job_valid : (test : JobRow → Bool) (job : JobRow) → find test s.jobs ≡ Some job → is_job_valid s.moment job ≡ true
  job_valid test job found = each_found (is_job_valid s.moment) test job s.jobs found h.limited.rows.jobs

  -- the steps of jobs with a row in the place of the one that is found
  pub steps_put : (test : JobRow → Bool) (job row : JobRow) → find test s.jobs ≡ Some job → row.id ≡ job.id
      → jobs_left (put_job row s) + steps_of_job job.state ≡ jobs_left s + steps_of_job row.state
  steps_put test job row found ids =
      let first = found_first same_job same_job_equiv test job s.jobs h.consistent.keys.jobs found in
      let total : jobs_left (put_job (record row { id = job.id }) s) + steps_of_job job.state ≡ jobs_left s + steps_of_job row.state =
      sum_by-put_row same_job same_job_equiv job s.jobs h.consistent.keys.jobs first (λ (one : JobRow). steps_of_job one.state)
      (record row { id = job.id }) (λ x. refl)
      in
      let same_row : record row { id = job.id } ≡ row = by_id row.id job.id ids in
      subst (λ (r : JobRow). jobs_left (put_job r s) + steps_of_job job.state ≡ jobs_left s + steps_of_job row.state) same_row total
    where
      by_id : (a b : List ℕ) → a ≡ b → record row { id = b } ≡ record row { id = a }
      by_id a b e = rw e refl

  -- jobs have fewer steps if the one that is found has
  pub fewer_steps : (test : JobRow → Bool) (job row : JobRow) → find test s.jobs ≡ Some job → row.id ≡ job.id
      → steps_of_job row.state < steps_of_job job.state → jobs_left (put_job row s) < jobs_left s
  fewer_steps test job row found ids less =
      let total = steps_put test job row found ids in omega (arith, total, less)

  -- U6
  pub enable_kept : (step : DueStep) → enable_first s ≡ Some step → IsDueKept seats s step
  enable_kept step e =
      let made = from_map (job_enabled s) (find is_to_enable s.jobs) step e in
      let job : JobRow = made.0 in
      subst (IsDueKept seats s) made.1
      (record {
        sound = sound_job_put s (job_in JobActive made.0) seats h (job_valid is_to_enable made.0 made.2) refl (found_waits s is_to_enable made.0 made.2) refl;
        falls =
            lex_next _ _ _ _ (omega arith) (lex_first _ _ _ _
            (fewer_steps is_to_enable made.0 (job_in JobActive made.0) made.2 refl
            (let steps = enabling_steps made.0.state (find_test is_to_enable made.0 s.jobs made.2) in omega (arith, steps))) refl);
        places = tt;
        ends = tt;
        releases = tt;
      })

  -- U7
  pub terminate_kept : (step : DueStep) → terminate_first s ≡ Some step → IsDueKept seats s step
  terminate_kept step e =
      let made = from_map (tasks_done s) (find (ends_with_tasks s) s.jobs) step e in
      let passes : ends_with_tasks s made.0 ≡ true = find_test (ends_with_tasks s) made.0 s.jobs made.2 in
      subst (IsDueKept seats s) made.1
      (record {
        sound = sound_closed seats s Terminating all_complete made.0 h (job_valid (ends_with_tasks s) made.0 made.2) all_complete_reason refl
            (found_waits s (ends_with_tasks s) made.0 made.2);
        falls =
            lex_next _ _ _ _ (omega arith) (lex_first _ _ _ _
            (fewer_steps (ends_with_tasks s) made.0 (job_for Terminating all_complete made.0) made.2 refl
            (let steps = active_steps made.0.state (and_first _ _ (and_first _ _ passes)) in omega (arith, steps))) refl);
        places = tt;
        ends = tt;
        releases = tt;
      })

  -- U8
  pub disable_kept : (step : DueStep) → disable_first s ≡ Some step → IsDueKept seats s step
  disable_kept step e =
      let made = from_map (job_disabled s) (find (is_to_disable s) s.jobs) step e in
      let passes : is_to_disable s made.0 ≡ true = find_test (is_to_disable s) made.0 s.jobs made.2 in
      subst (IsDueKept seats s) made.1
      (record {
        sound =
            sound_job_put s (job_in Disabled made.0) seats h (job_valid (is_to_disable s) made.0 made.2)
            (and_second (is_disabling made.0.state) (not (has_placed_task s made.0.id)) passes) (found_waits s (is_to_disable s) made.0 made.2) refl;
        falls =
            lex_next _ _ _ _ (omega arith) (lex_first _ _ _ _
            (fewer_steps (is_to_disable s) made.0 (job_in Disabled made.0) made.2 refl
            (let steps = disabling_steps made.0.state (and_first _ _ passes) in omega (arith, steps))) refl);
        places = tt;
        ends = tt;
        releases = tt;
      })

  module _ (job : JobRow) (found : find (has_job_ended s) s.jobs ≡ Some job) where
    -- it has ended
    passes : has_job_ended s job ≡ true
    passes = find_test (has_job_ended s) job s.jobs found

    -- it has one step left
    one_step : steps_of_job job.state ≡ 1
    one_step = closing_steps job.state (and_first _ _ (and_first _ _ passes))

    -- it has no placed task and no unended run
    at_rest : (has_placed_task s job.id || has_unended_run s job.id) ≡ false
    at_rest =
        or_false
        (not_true (has_placed_task s job.id)
        (and_second (is_closing job.state) (not (has_placed_task s job.id)) (and_first _ (not (has_unended_run s job.id)) passes)))
        (not_true (has_unended_run s job.id) (and_second (is_closing job.state && not (has_placed_task s job.id)) (not (has_unended_run s job.id)) passes))

    -- a job that is completed
    completed_kept : IsDueKept seats s (job_completed s job)
    completed_kept = record {
      sound =
          sound_job_put s (job_in JobCompleted job) seats h (job_valid (has_job_ended s) job found)
          (and_second (is_closing job.state) (not (has_placed_task s job.id)) (and_first _ (not (has_unended_run s job.id)) passes))
          (found_waits s (has_job_ended s) job found)
          (and_second (is_closing job.state && not (has_placed_task s job.id)) (not (has_unended_run s job.id)) passes);
      falls =
          lex_next _ _ _ _ (omega arith) (lex_first _ _ _ _ (fewer_steps (has_job_ended s) job (job_in JobCompleted job) found refl (omega (arith, one_step))) refl);
      places = tt;
      ends = at_rest;
      releases = tt;
    }

    -- a job that is removed
    removed_kept : IsDueKept seats s (job_removed s job)
    removed_kept = record {
      sound = sound_dropped job.id s seats h;
      falls =
          lex_next _ _ _ _ (omega arith) (lex_first _ _ _ _
          (sum_dropped (λ row. not (is_job job.id row)) (λ (row : JobRow). steps_of_job row.state) (has_job_ended s) job s.jobs found
          (dropped (is_job job.id job) (same_equiv.refl job.id)) (omega (arith, one_step))) refl);
      places = tt;
      ends = at_rest;
      releases = tt;
    }
      where
        dropped : (b : Bool) → b ≡ true → not b ≡ false
        dropped true k = refl
        dropped false k = cc

    -- one or the other
    either_kept : (b : Bool) → IsDueKept seats s (cond b (job_removed s job) (job_completed s job))
    either_kept true = removed_kept
    either_kept false = completed_kept

  -- U10
  pub end_kept : (step : DueStep) → end_first s ≡ Some step → IsDueKept seats s step
  end_kept step e =
      let made = from_map (job_ended s) (find (has_job_ended s) s.jobs) step e in
      subst (IsDueKept seats s) made.1 (either_kept made.0 made.2 (is_job_deleting made.0.state))
