-- The events `patch-job`, `disable-job`, `enable-job`, `terminate-job` and `delete-job` keep sound tables.
use Rattle.std.proofs.Common.{◌≡◌, ℕ, ℤ, Bool, true, false, not, ◌&&◌, ◌||◌, nat_le, List, Option, Some, None, is_some, is_none, refl, unwrap_or}
use Rattle.std.specs.List.{list_any}
use Rattle.bt_rows.specs.declared.event.Limits.{Limits}
use Rattle.bt_rows.specs.declared.event.JobPatch.{JobPatch}
use Rattle.bt_rows.specs.declared.event.DisableTasks.{DisableTasks}
use Rattle.bt_rows.specs.declared.refusal.Refusal.TheVariants.{JobStateRefuses}
use Rattle.bt_rows.specs.Ranges.{passes_if_some, is_duration, is_retry_limit, is_priority, is_parallel, are_limits_in_range, is_patch_in_range, is_reason}
use Rattle.bt_rows.specs.Ranges.{is_start_in_range, is_release_in_range}
use Rattle.batch_model.specs.Finding.{at_row}
use Rattle.batch_model.specs.Rows.{is_job, job_of, put_job}
use Rattle.batch_model.specs.Tasks.{is_placed_in}
use Rattle.batch_model.specs.Jobs.{is_quiet, is_disabled, job_in}
use Rattle.batch_model.specs.Stops.{disable, close, terminate}
use Rattle.batch_model.specs.Events.{limited, patched, patch_refusals, patch_job, disable_refusals, disable_job, enable_refusals, enable_job, user_terminate}
use Rattle.batch_model.specs.Events.{terminate_refusals, terminate_job, delete_refusals, delete_job}
use Rattle.batch_model.specs.Preps.{waits_for_preparation}
use Rattle.batch_model.specs.Sound.{IsSound, is_at_rest}
use Rattle.batch_model.specs.WellFormed.{is_job_valid, has_no_placed_if_quiet}
use Rattle.batch_model.specs.Variants.{State, JobRow, JobState, JobActive, Disabling, Disabled, Enabling, Terminating, JobCompleted, Deleting}
use Rattle.model_lists.proofs.Tests.{and_first, and_second, not_false}
use Rattle.model_lists.proofs.RowLists.{each_found}
use Rattle.model_tables.proofs.JobPut.{sound_job_put, found_waits}
use Rattle.model_tables.proofs.JobsStopped.{sound_disabled, sound_closed}
use Rattle.model_events.proofs.Keeping.{passed, answer_keeps, given_passes}

-- patches

-- tests of a job's values, of which the third and fourth are of its limits
new_limits : (a b c d new_c new_d prep release both reason past : Bool) → (new_c && new_d) ≡ true
    → ((a && b && c && d && prep && release && both && reason) && past) ≡ true
    → ((a && b && new_c && new_d && prep && release && both && reason) && past) ≡ true
new_limits true true true true true true prep release both reason past k h = h
new_limits true true true true true false prep release both reason past k h = cc
new_limits true true true true false d prep release both reason past k h = cc
new_limits true true true false new_c new_d prep release both reason past k h = cc
new_limits true true false d new_c new_d prep release both reason past k h = cc
new_limits true false c d new_c new_d prep release both reason past k h = cc
new_limits false b c d new_c new_d prep release both reason past k h = cc

-- the first and the second are of its priority and its number of placed tasks
new_order : (a b new_a new_b c d prep release both reason past : Bool) → new_a ≡ true → new_b ≡ true
    → ((a && b && c && d && prep && release && both && reason) && past) ≡ true
    → ((new_a && new_b && c && d && prep && release && both && reason) && past) ≡ true
new_order true true new_a new_b c d prep release both reason past k m h = rw (k, m) h
new_order true false new_a new_b c d prep release both reason past k m h = cc
new_order false b new_a new_b c d prep release both reason past k m h = cc

-- the first two of these
first_passes : (a b c d prep release both reason past : Bool) → ((a && b && c && d && prep && release && both && reason) && past) ≡ true → a ≡ true
first_passes true b c d prep release both reason past h = refl
first_passes false b c d prep release both reason past h = cc

second_passes : (a b c d prep release both reason past : Bool) → ((a && b && c && d && prep && release && both && reason) && past) ≡ true → b ≡ true
second_passes true true c d prep release both reason past h = refl
second_passes true false c d prep release both reason past h = cc
second_passes false b c d prep release both reason past h = cc

module _ (now : ℕ) (job : JobRow) (valid : is_job_valid now job ≡ true) where
  -- a job with given limits
  limits_valid : (limits : Option Limits) → passes_if_some are_limits_in_range limits ≡ true → is_job_valid now (at_row limited limits job) ≡ true
  limits_valid None k = valid
  limits_valid (Some limits) k =
      new_limits (is_priority job.priority) (is_parallel job.parallel) (is_retry_limit job.retries) (passes_if_some is_duration job.wall)
      (is_retry_limit limits.retries) (passes_if_some is_duration limits.wall) (passes_if_some is_start_in_range job.prep)
      (passes_if_some is_release_in_range job.release) (is_none job.release || is_some job.prep) (passes_if_some is_reason job.reason)
      (nat_le job.created now) k valid

  -- a job with other values besides
  order_valid : (row : JobRow) (priority parallel : ℤ) (on_all : Bool) → is_priority priority ≡ true → is_parallel parallel ≡ true → is_job_valid now row ≡ true
      → is_job_valid now (record row { priority = priority; parallel = parallel; on_all = on_all }) ≡ true
  order_valid row priority parallel on_all p q k =
      new_order (is_priority row.priority) (is_parallel row.parallel) (is_priority priority) (is_parallel parallel) (is_retry_limit row.retries)
      (passes_if_some is_duration row.wall) (passes_if_some is_start_in_range row.prep) (passes_if_some is_release_in_range row.release)
      (is_none row.release || is_some row.prep) (passes_if_some is_reason row.reason) (nat_le row.created now) p q k

  -- a patched job
  patched_valid : (patch : JobPatch) → is_patch_in_range patch ≡ true → is_job_valid now (patched patch job) ≡ true
  patched_valid patch k =
      order_valid (at_row limited patch.limits job) (unwrap_or patch.priority job.priority) (unwrap_or patch.parallel job.parallel)
      (unwrap_or patch.on_all job.on_all)
      (given_passes is_priority patch.priority job.priority
      (and_first (passes_if_some is_priority patch.priority) (passes_if_some is_parallel patch.parallel) (and_first _ _ k))
      (first_passes (is_priority job.priority) (is_parallel job.parallel) (is_retry_limit job.retries) (passes_if_some is_duration job.wall)
      (passes_if_some is_start_in_range job.prep) (passes_if_some is_release_in_range job.release) (is_none job.release || is_some job.prep)
      (passes_if_some is_reason job.reason) (nat_le job.created now) valid))
      (given_passes is_parallel patch.parallel job.parallel
      (and_second (passes_if_some is_priority patch.priority) (passes_if_some is_parallel patch.parallel) (and_first _ _ k))
      (second_passes (is_priority job.priority) (is_parallel job.parallel) (is_retry_limit job.retries) (passes_if_some is_duration job.wall)
      (passes_if_some is_start_in_range job.prep) (passes_if_some is_release_in_range job.release) (is_none job.release || is_some job.prep)
      (passes_if_some is_reason job.reason) (nat_le job.created now) valid))
      (limits_valid patch.limits (and_second (passes_if_some is_priority patch.priority && passes_if_some is_parallel patch.parallel) _ k))

-- a patched job has the placed tasks that it had
patched_quiet : (s : State) (patch : JobPatch) (job : JobRow) → has_no_placed_if_quiet s job ≡ true → has_no_placed_if_quiet s (patched patch job) ≡ true
patched_quiet s patch job h = by_limits patch.limits
  where
    by_limits : (limits : Option Limits)
        → not (is_quiet (at_row limited limits job).state && list_any (is_placed_in (at_row limited limits job).id) s.tasks) ≡ true
    by_limits None = h
    by_limits (Some limits) = h

-- a disabled job places as little as an enabling one
enabling_quiet : (s : State) (job : JobRow) → is_disabled job.state ≡ true → has_no_placed_if_quiet s job ≡ true
    → has_no_placed_if_quiet s (job_in Enabling job) ≡ true
enabling_quiet s job e h = by_state job.state (list_any (is_placed_in job.id) s.tasks) e h
  where
    by_state : (state : JobState) (placed : Bool) → is_disabled state ≡ true → not (is_quiet state && placed) ≡ true → not placed ≡ true
    by_state JobActive placed k m = cc
    by_state Disabling placed k m = cc
    by_state Disabled placed k m = m
    by_state Enabling placed k m = cc
    by_state Terminating placed k m = cc
    by_state JobCompleted placed k m = cc
    by_state Deleting placed k m = cc

-- the reason if none is given is one
user_reason : is_reason user_terminate ≡ true
unfolding user_terminate
user_reason = refl

-- the events

module _ (seats : ℕ) (s : State) (id : List ℕ) (job : JobRow) (found : job_of s id ≡ Some job) (h : IsSound seats s) where
  -- the job is valid
  job_valid : is_job_valid s.moment job ≡ true
  job_valid = each_found (is_job_valid s.moment) (is_job id) job s.jobs found h.limited.rows.jobs

  -- no task of it is placed if it is quiet
  job_quiet : has_no_placed_if_quiet s job ≡ true
  job_quiet = each_found (has_no_placed_if_quiet s) (is_job id) job s.jobs found h.limited.quiet

  -- a patched job waits for its preparation as it did
  patched_waits : (limits : Option Limits) → waits_for_preparation (at_row limited limits job) ≡ true
      → list_any (λ other. is_job (at_row limited limits job).id other && waits_for_preparation other) s.jobs ≡ true
  patched_waits None w = found_waits s (is_job id) job found w
  patched_waits (Some limits) w = found_waits s (is_job id) job found w

  -- it rests if it did
  patched_rests : (limits : Option Limits) → is_at_rest s (at_row limited limits job) ≡ true
  patched_rests None = each_found (is_at_rest s) (is_job id) job s.jobs found h.resting
  patched_rests (Some limits) = each_found (is_at_rest s) (is_job id) job s.jobs found h.resting

  -- `patch-job`
  pub patch_job_kept : (patch : JobPatch) → is_patch_in_range patch ≡ true → IsSound seats (patch_job s patch job).state
  patch_job_kept patch k =
      answer_keeps (IsSound seats) s h (patch_refusals patch job) 200 (put_job (patched patch job) s)
      (λ absent. sound_job_put s (patched patch job) seats h (patched_valid s.moment job job_valid patch k) (patched_quiet s patch job job_quiet)
      (patched_waits patch.limits) (patched_rests patch.limits))

  -- `disable-job`
  pub disable_job_kept : (option : DisableTasks) → IsSound seats (disable_job s option job).state
  disable_job_kept option =
      answer_keeps (IsSound seats) s h (disable_refusals job) 202 (disable job option s) (λ absent. sound_disabled seats s job option h job_valid (found_waits s (is_job id) job found))

  -- `enable-job`
  pub enable_job_kept : IsSound seats (enable_job s job).state
  enable_job_kept =
      answer_keeps (IsSound seats) s h (enable_refusals job) 202 (put_job (job_in Enabling job) s)
      (λ absent.
      sound_job_put s (job_in Enabling job) seats h job_valid
      (enabling_quiet s job (not_false (is_disabled job.state) (passed (not (is_disabled job.state)) (JobStateRefuses job.state) absent.0)) job_quiet)
      (found_waits s (is_job id) job found) refl)

  -- `terminate-job`
  pub terminate_job_kept : (reason : Option (List ℕ)) → passes_if_some is_reason reason ≡ true → IsSound seats (terminate_job s reason job).state
  terminate_job_kept reason k =
      answer_keeps (IsSound seats) s h (terminate_refusals job) 202 (terminate (unwrap_or reason user_terminate) job s)
      (λ absent.
      sound_closed seats s Terminating (unwrap_or reason user_terminate) job h job_valid (given_passes is_reason reason user_terminate k user_reason) refl
      (found_waits s (is_job id) job found))

  -- `delete-job`
  pub delete_job_kept : IsSound seats (delete_job s job).state
  delete_job_kept =
      answer_keeps (IsSound seats) s h (delete_refusals job) 202 (close Deleting user_terminate job s)
      (λ absent. sound_closed seats s Deleting user_terminate job h job_valid user_reason refl (found_waits s (is_job id) job found))
