-- What each event does with runs: it makes none, or a start or preparation run again after a failure.
use Rattle.std.proofs.Common.{◌≡◌, ℕ, Bool, true, false, List, [], ◌∷◌, cond, is_some, unwrap_or, inl, inr, refl, ◌<◌, Option, Some, None, not, ◌&&◌, nat_eq}
use Rattle.std.proofs.Common.{nat_lt, arith}
use Rattle.std.proofs.lemmas.Bool.Decides.{nat_tests}
use Rattle.std.specs.Option.{option_map_or}
use Rattle.bt_rows.specs.Keys.{same_run}
use Rattle.bt_rows.specs.Lists.{AreDistinct}
use Rattle.bt_rows.specs.declared.event.EventKind.{EventKind}
use Rattle.bt_rows.specs.declared.event.EventKind.TheVariants.{AddPool, DeletePool, Resize, StopResize, AddJob, PatchJob, DisableJob, EnableJob}
use Rattle.bt_rows.specs.declared.event.EventKind.TheVariants.{TerminateJob, DeleteJob, AddTask, AddTasks, DeleteTask, TerminateTask, ReactivateTask, Take, End}
use Rattle.bt_rows.specs.declared.event.EventKind.TheVariants.{EnableAutoscale, DisableAutoscale, EvaluateAutoscale, Sample, Tick}
use Rattle.bt_rows.specs.declared.event.JobSpec.{JobSpec}
use Rattle.bt_rows.specs.declared.event.PoolSpec.{PoolSpec}
use Rattle.bt_rows.specs.declared.event.TaskSpec.{TaskSpec}
use Rattle.bt_rows.specs.declared.refusal.Refusal.TheVariants.{PoolNotFound, JobNotFound, TaskNotFound, JobStateRefuses, RunNotFound, RunAlreadyEnded}
use Rattle.bt_rows.specs.declared.refusal.Refusal.TheVariants.{RunWithdrawn}
use Rattle.bt_rows.specs.declared.refusal.Refusal.{Refusal}
use Rattle.bt_rows.specs.declared.reply.Reply.TheVariants.{Status}
use Rattle.batch_model.specs.Events.{refuse, answer, event_step, event_now, at_moment, accept_all, add_pool_refusals, pool_added, add_job, add_job_in, add_job_refusals}
use Rattle.batch_model.specs.Events.{patch_job, patch_refusals, patched, disable_job, disable_refusals, enable_job, enable_refusals, terminate_job}
use Rattle.batch_model.specs.Events.{terminate_refusals, user_terminate, delete_job, delete_refusals, add_task, task_refusals, task_added, after_element}
use Rattle.batch_model.specs.Events.{add_each, add_tasks, add_tasks_refusals, for_row, delete_found, delete_task_refusals, delete_task, task_terminated}
use Rattle.batch_model.specs.Events.{terminate_task_refusals, terminate_found, terminate_task, reactivated, reactivate_refusals, reactivate_found}
use Rattle.batch_model.specs.Events.{reactivate_task_refusals, reactivate_task, run_taken, take_run, take_refusals, run_ended, end_run, end_refusals, ended_run}
use Rattle.batch_model.specs.Events.{accept}
use Rattle.batch_model.specs.Steps.{Answered, refuse_if}
use Rattle.batch_model.specs.Finding.{first_of, Each}
use Rattle.batch_model.specs.Jobs.{is_past, job_in, new_job}
use Rattle.batch_model.specs.PoolEvents.{resize_refusals, resized_pool, resize_pool, stop_resize_refusals, stopping, stop_resize}
use Rattle.batch_model.specs.PoolEvents.{delete_pool_refusals, deleted_pool, drop_scale, is_leaving_from, pool_deleted, delete_pool}
use Rattle.batch_model.specs.Pools.{new_pool}
use Rattle.batch_model.specs.Rows.{is_task, job_of, task_of, pool_of, run_of, put_pool, put_job, put_task, add_pool_row, add_job_row, is_run}
use Rattle.batch_model.specs.Runs.{is_ended, is_withdrawn, is_unended}
use Rattle.batch_model.specs.Samples.{new_sample, add_sample}
use Rattle.batch_model.specs.Scaling.{autoscale_enabled, enable_autoscale_refusals, enable_autoscale, scaling_refusals, disable_autoscale}
use Rattle.batch_model.specs.Scaling.{formula_shown, evaluate_refusals, evaluate_autoscale, sample_refusals, sample_pool}
use Rattle.batch_model.specs.Settling.{drop_task}
use Rattle.batch_model.specs.Sound.{IsSound}
use Rattle.batch_model.specs.Stops.{stop, disable, close, terminate}
use Rattle.batch_model.specs.Tasks.{is_placed, terminated}
use Rattle.batch_model.specs.Variants.{State, PoolRow, ByRequeue, CpuPercent, JobRow, Terminating, Deleting, Enabling, TaskRow, WantTerminate, WantDelete, Ending, RunRow}
use Rattle.batch_model.specs.Variants.{RunState, Waiting, Queued, Taken, Ended, Withdrawn}
use Rattle.model_lists.proofs.Tests.{passes_or_not, and_true, true_not}
use Rattle.model_lists.proofs.ChangedRows.{each_change}
use Rattle.model_lists.proofs.RowLists.{each_any, each_found, find_test, none_any, any_found}
use Rattle.model_tables.proofs.FoundRows.{own_number}
use Rattle.model_tables.proofs.ScalingParts.{given_scale_leaves, enabled_leaves}
use Rattle.model_events.proofs.Keeping.{AreAbsent, passed, through, given_keeps, answer_keeps, for_row_keeps}
use Rattle.model_laws.specs.Runs.{KeepsRuns, is_open, RefusesEnd, of_ended, of_absent}
use Rattle.model_laws.proofs.MadeRuns.{Lasts, same_runs, lasts_on, EventRuns, makes_none, keeps_runs, closed_on}
use Rattle.model_laws.proofs.RunsKept.{stop_lasts, close_lasts, disable_lasts, leave_lasts, drop_lasts, taken_lasts}
use Rattle.model_laws.proofs.RunEnds.{ended_does, with_ended, then_does}
use Rattle.model_laws.proofs.LastingRuns.{is_open_run}

module _ (s : State) where
  -- what the event does with the runs
  abbrev Does : EventKind → State → Type 0
  Does event t = EventRuns s event s t

  -- the runs stay
  unchanged : (event : EventKind) (t : State) → t.runs ≡ s.runs → t.next_run ≡ s.next_run → Does event t
  unchanged event t e n = makes_none t (same_runs s t e n)

  -- a refused event leaves the tables
  stays : (event : EventKind) → Does event s
  stays event = unchanged event s refl refl

  -- so it is left to see what an event does if nothing refuses it
  by_given : (event : EventKind) (given : Answered) (refusals : List (Option Refusal)) → (AreAbsent refusals → Does event given.state)
      → Does event (option_map_or (λ refusal. refuse refusal s) (first_of refusals) given).state
  by_given event = given_keeps (Does event) s (stays event)

  by_answer : (event : EventKind) (refusals : List (Option Refusal)) (status : ℕ) (after : State) → (AreAbsent refusals → Does event after)
      → Does event (answer s refusals status after).state
  by_answer event = answer_keeps (Does event) s (stays event)

  by_row : {R : Type 0} (event : EventKind) (refusal : Refusal) (answer_for : R → Answered) (row : Option R)
      → ((one : R) → row ≡ Some one → Does event (answer_for one).state) → Does event (for_row s refusal answer_for row).state
  by_row event = for_row_keeps (Does event) s (stays event)

  job_added : (event : EventKind) (id : List ℕ) (spec : JobSpec) → Does event (add_job s id spec).state
  job_added event id spec = elim (passes_or_not (is_some (job_of s id))) [
    | inl e ↦ rw e (stays event)
    | inr new ↦
        rw new (by_row event PoolNotFound (add_job_in s id spec) (pool_of s spec.pool)
        (λ pool found. by_answer event (add_job_refusals s pool) 201 (add_job_row (new_job s.moment id pool.id spec) s)
        (λ absent. unchanged event (add_job_row (new_job s.moment id pool.id spec) s) refl refl)))
  ]

  -- a pool

  pool_is_added : (event : EventKind) (spec : PoolSpec) → Does event (pool_added s spec)
  pool_is_added event spec =
      let with_row : State = add_pool_row (new_pool s.moment spec) s in
      given_scale_leaves (Does event) with_row (λ rows. unchanged event (record with_row { scales = rows }) refl refl) spec.id spec.scale

  pool_deleted_lasts : (pool : PoolRow) → Lasts s (pool_deleted s pool)
  pool_deleted_lasts pool =
      let put : State = drop_scale pool.id (put_pool (deleted_pool pool) s) in
      lasts_on s put (pool_deleted s pool) (same_runs s put refl refl) (leave_lasts ByRequeue (is_leaving_from pool.id) put)

  -- a task of a job

  deleted_by : (event : EventKind) (task : TaskRow) (b : Bool)
      → Does event (cond b (stop (is_task task.job task.id) WantDelete s) (drop_task task s))
  deleted_by event task true = makes_none (stop (is_task task.job task.id) WantDelete s) (stop_lasts (is_task task.job task.id) WantDelete s)
  deleted_by event task false = makes_none (drop_task task s) (drop_lasts task s)

  terminated_by : (event : EventKind) (task : TaskRow) (b : Bool)
      → Does event (cond b (stop (is_task task.job task.id) WantTerminate s) (put_task (terminated s.moment task) s))
  terminated_by event task true = makes_none (stop (is_task task.job task.id) WantTerminate s) (stop_lasts (is_task task.job task.id) WantTerminate s)
  terminated_by event task false = unchanged event (put_task (terminated s.moment task) s) refl refl

  -- the tables after each element of a collection

  after_same : (row : JobRow) (specs : List TaskSpec) (t : State) → Lasts t (add_each t row specs).state
  after_same row [] t = same_runs t t refl refl
  after_same row (spec ∷ specs) t =
      let next : State = after_element t row spec (first_of (task_refusals t row spec)) in
      lasts_on t next (add_each next row specs).state
      (through (λ first. Lasts t (after_element t row spec first)) (λ refusal. same_runs t t refl refl) (task_refusals t row spec)
      (λ absent. same_runs t (task_added t row spec) refl refl))
      (after_same row specs next)

  -- a run that has not ended and is not withdrawn is unended
  neither : (state : RunState) → is_ended state ≡ false → is_withdrawn state ≡ false → is_unended state ≡ true
  neither Waiting h k = refl
  neither Queued h k = refl
  neither Taken h k = refl
  neither (Ended ending) h k = cc
  neither Withdrawn h k = cc

  module _ (keys : AreDistinct same_run s.runs) where
    -- each event at the tables' moment
    pub does_now : (event : EventKind) → Does event (event_now event s).state
    does_now (AddPool spec) =
        by_answer (AddPool spec) (add_pool_refusals s spec) 201 (pool_added s spec)
        (λ absent. pool_is_added (AddPool spec) spec)
    does_now (DeletePool id) =
        by_row (DeletePool id) PoolNotFound (delete_pool s) (pool_of s id)
        (λ pool found. by_answer (DeletePool id) (delete_pool_refusals pool) 202 (pool_deleted s pool)
        (λ absent. makes_none (pool_deleted s pool) (pool_deleted_lasts pool)))
    does_now (Resize id spec) =
        by_row (Resize id spec) PoolNotFound (resize_pool s spec) (pool_of s id)
        (λ pool found. by_answer (Resize id spec) (resize_refusals s pool) 202 (put_pool (resized_pool s.moment spec pool) s)
        (λ absent. unchanged (Resize id spec) (put_pool (resized_pool s.moment spec pool) s) refl refl))
    does_now (StopResize id) =
        by_row (StopResize id) PoolNotFound (stop_resize s) (pool_of s id)
        (λ pool found. by_answer (StopResize id) (stop_resize_refusals pool) 202 (put_pool (stopping pool) s)
        (λ absent. unchanged (StopResize id) (put_pool (stopping pool) s) refl refl))
    does_now (AddJob id spec) = job_added (AddJob id spec) id spec
    does_now (PatchJob id patch) =
        by_row (PatchJob id patch) JobNotFound (patch_job s patch) (job_of s id)
        (λ row found. by_answer (PatchJob id patch) (patch_refusals patch row) 200 (put_job (patched patch row) s)
        (λ absent. unchanged (PatchJob id patch) (put_job (patched patch row) s) refl refl))
    does_now (DisableJob id option) =
        by_row (DisableJob id option) JobNotFound (disable_job s option) (job_of s id)
        (λ row found. by_answer (DisableJob id option) (disable_refusals row) 202 (disable row option s)
        (λ absent. makes_none (disable row option s) (disable_lasts option row s)))
    does_now (EnableJob id) =
        by_row (EnableJob id) JobNotFound (enable_job s) (job_of s id)
        (λ row found. by_answer (EnableJob id) (enable_refusals row) 202 (put_job (job_in Enabling row) s)
        (λ absent. unchanged (EnableJob id) (put_job (job_in Enabling row) s) refl refl))
    does_now (TerminateJob id reason) =
        by_row (TerminateJob id reason) JobNotFound (terminate_job s reason) (job_of s id)
        (λ row found. by_answer (TerminateJob id reason) (terminate_refusals row) 202
        (terminate (unwrap_or reason user_terminate) row s)
        (λ absent. makes_none (terminate (unwrap_or reason user_terminate) row s) (close_lasts Terminating (unwrap_or reason user_terminate) row s)))
    does_now (DeleteJob id) =
        by_row (DeleteJob id) JobNotFound (delete_job s) (job_of s id)
        (λ row found. by_answer (DeleteJob id) (delete_refusals row) 202 (close Deleting user_terminate row s)
        (λ absent. makes_none (close Deleting user_terminate row s) (close_lasts Deleting user_terminate row s)))
    does_now (AddTask id spec) =
        by_row (AddTask id spec) JobNotFound (add_task s spec) (job_of s id)
        (λ row found. by_answer (AddTask id spec)
        (refuse_if (is_past row.state) (JobStateRefuses row.state) ∷ task_refusals s row spec) 201 (task_added s row spec)
        (λ absent. unchanged (AddTask id spec) (task_added s row spec) refl refl))
    does_now (AddTasks id specs) =
        by_row (AddTasks id specs) JobNotFound (add_tasks s specs) (job_of s id)
        (λ row found. by_given (AddTasks id specs) (accept_all (add_each s row specs)) (add_tasks_refusals row specs)
        (λ absent. makes_none (add_each s row specs).state (after_same row specs s)))
    does_now (DeleteTask id task) =
        by_row (DeleteTask id task) JobNotFound (delete_task s task) (job_of s id)
        (λ row found. by_given (DeleteTask id task) (for_row s TaskNotFound (delete_found s) (task_of s row.id task))
        (delete_task_refusals row)
        (λ absent. by_row (DeleteTask id task) TaskNotFound (delete_found s) (task_of s row.id task)
        (λ one there. deleted_by (DeleteTask id task) one (is_placed one.stage))))
    does_now (TerminateTask id task) =
        by_row (TerminateTask id task) JobNotFound (terminate_task s task) (job_of s id)
        (λ row found. by_row (TerminateTask id task) TaskNotFound (terminate_found s) (task_of s row.id task)
        (λ one there. by_answer (TerminateTask id task) (terminate_task_refusals one) 204 (task_terminated s one)
        (λ absent. terminated_by (TerminateTask id task) one (is_placed one.stage))))
    does_now (ReactivateTask id task) =
        by_row (ReactivateTask id task) JobNotFound (reactivate_task s task) (job_of s id)
        (λ row found. by_given (ReactivateTask id task) (for_row s TaskNotFound (reactivate_found s) (task_of s row.id task))
        (reactivate_task_refusals row)
        (λ none. by_row (ReactivateTask id task) TaskNotFound (reactivate_found s) (task_of s row.id task)
        (λ one there. by_answer (ReactivateTask id task) (reactivate_refusals one) 204 (put_task (reactivated one) s)
        (λ absent. unchanged (ReactivateTask id task) (put_task (reactivated one) s) refl refl))))
    does_now (Take number) =
        by_row (Take number) RunNotFound (take_run s) (run_of s number)
        (λ run found. by_answer (Take number) (take_refusals run) 200 (run_taken s run)
        (λ absent. makes_none (run_taken s run)
        (taken_lasts run s keys (own_number s number run found)
        (neither run.state (passed (is_ended run.state) RunAlreadyEnded absent.0) (passed (is_withdrawn run.state) RunWithdrawn absent.1.0)))))
    does_now (End number ending) =
        by_row (End number ending) RunNotFound (end_run s ending) (run_of s number)
        (λ run found. by_answer (End number ending) (end_refusals run) 200 (run_ended s ending run)
        (λ absent. ended_does s number ending run found))
    does_now (EnableAutoscale id spec) =
        by_row (EnableAutoscale id spec) PoolNotFound (enable_autoscale s spec) (pool_of s id)
        (λ pool found. by_answer (EnableAutoscale id spec) (enable_autoscale_refusals s spec pool) 200 (autoscale_enabled s spec pool)
        (λ absent. enabled_leaves (Does (EnableAutoscale id spec)) s
        (λ pools rows. unchanged (EnableAutoscale id spec) (record s { pools = pools; scales = rows }) refl refl) spec pool))
    does_now (DisableAutoscale id) =
        by_row (DisableAutoscale id) PoolNotFound (disable_autoscale s) (pool_of s id)
        (λ pool found. by_answer (DisableAutoscale id) (scaling_refusals s pool) 200 (drop_scale pool.id s)
        (λ absent. unchanged (DisableAutoscale id) (drop_scale pool.id s) refl refl))
    does_now (EvaluateAutoscale id text) =
        by_row (EvaluateAutoscale id text) PoolNotFound (evaluate_autoscale s text) (pool_of s id)
        (λ pool found. by_given (EvaluateAutoscale id text) (formula_shown s text pool) (evaluate_refusals s text pool)
        (λ absent. stays (EvaluateAutoscale id text)))
    does_now (Sample id percentage) =
        by_row (Sample id percentage) PoolNotFound (sample_pool s percentage) (pool_of s id)
        (λ pool found. by_answer (Sample id percentage) (sample_refusals s pool) 200 (add_sample (new_sample s pool.id CpuPercent percentage) s)
        (λ absent. unchanged (Sample id percentage) (add_sample (new_sample s pool.id CpuPercent percentage) s) refl refl))
    does_now Tick = stays Tick

-- numbers of runs are made once, and runs end once, through each event
pub event_keeps_runs : (seats moment : ℕ) (event : EventKind) (s : State) → IsSound seats s → KeepsRuns s (event_step moment event s).state
event_keeps_runs seats moment event s h = record { counter = kept.counter; gone = kept.gone; same = kept.same; closed = kept.closed }
  where
    kept : KeepsRuns (at_moment moment s) (event_step moment event s).state
    kept =
        keeps_runs (at_moment moment s) (at_moment moment s) event (event_step moment event s).state h.consistent.keys.runs
        (does_now (at_moment moment s) h.consistent.keys.runs event)

-- accepted and refused `end` events

-- numbers below the next one, as a test and as an order
below_next : (own number next : ℕ) → nat_eq own number ≡ true → nat_lt own next ≡ true → number < next
below_next own number next e h = grind (arith, nat_tests)

-- a run with another number than the one that ends has another number than the event
ended_or_other : (own number other : ℕ) → nat_eq own number ≡ true → nat_eq other own ≡ false → nat_eq other number ≡ false
ended_or_other own number other e h = grind (arith, nat_tests)

module _ (s : State) (number : ℕ) (ending : Ending) where
  module _ (run : RunRow) (found : run_of s number ≡ Some run) where
    -- the run has the number
    numbered : nat_eq run.number number ≡ true
    numbered = find_test (is_run number) run s.runs found

    -- no run with the number is open once the run has ended
    closed_first : is_open (with_ended s number ending run found) number ≡ false
    closed_first =
        none_any (is_open_run number) (with_ended s number ending run found).runs
        (each_change (is_run run.number) (ended_run s.moment ending) (λ row. true) (λ row. not (is_open_run number row))
        (λ row t k. ended_passes (nat_eq row.number number))
        (λ row t k. other_passes (nat_eq row.number number) (is_ended row.state) (ended_or_other run.number number row.number numbered t)) s.runs
        (each_any (λ row. true) (λ row. refl) s.runs))
      where
        ended_passes : (same : Bool) → not (same && false) ≡ true
        ended_passes true = refl
        ended_passes false = refl

        other_passes : (same over : Bool) → same ≡ false → not (same && not over) ≡ true
        other_passes true over e = cc
        other_passes false over e = refl

    -- nor at the end of the event
    closed_last : number < s.next_run → is_open (run_ended s ending run) number ≡ false
    closed_last below =
        closed_on s (with_ended s number ending run found) (End number ending) number (run_ended s ending run) below
        (then_does s number ending run found) closed_first

    -- the number was given
    was_there : Each (λ row. nat_lt row.number s.next_run) s.runs → number < s.next_run
    was_there numbers =
        below_next run.number number s.next_run numbered (each_found (λ row. nat_lt row.number s.next_run) (is_run number) run s.runs found numbers)

    -- an ended run
    ended_run_there : is_open s number ≡ false → is_ended run.state ≡ true
    ended_run_there none = either (is_ended run.state) refl
      where
        either : (b : Bool) → is_ended run.state ≡ b → b ≡ true
        either true e = refl
        either false e =
            let some : is_open s number ≡ true = any_found (is_open_run number) (is_run number) run s.runs found (and_true numbered (true_not e)) in
            cc

    closed_if_accepted : number < s.next_run → (end_run s ending run).reply ≡ Status 200 → is_open (end_run s ending run).state number ≡ false
    closed_if_accepted below =
        through
        (λ first. (answered first).reply ≡ Status 200 → is_open (answered first).state number ≡ false) (λ refusal e. cc) (end_refusals run)
        (λ absent e. closed_last below)
      where
        answered : Option Refusal → Answered
        answered first = option_map_or (λ refusal. refuse refusal s) first (accept 200 (run_ended s ending run))

    refused_if_ended : is_ended run.state ≡ true → RefusesEnd (end_run s ending run).reply
    refused_if_ended e = rw e of_ended

  module _ (numbers : Each (λ row. nat_lt row.number s.next_run) s.runs) where
    closes : (o : Option RunRow) → run_of s number ≡ o → (for_row s RunNotFound (end_run s ending) o).reply ≡ Status 200
        → is_open (for_row s RunNotFound (end_run s ending) o).state number ≡ false
    closes None e accepted = cc
    closes (Some run) e accepted = closed_if_accepted run e (was_there run e numbers) accepted

    given_before : (o : Option RunRow) → run_of s number ≡ o → (for_row s RunNotFound (end_run s ending) o).reply ≡ Status 200 → number < s.next_run
    given_before None e accepted = cc
    given_before (Some run) e accepted = was_there run e numbers

  refuses : (o : Option RunRow) → run_of s number ≡ o → is_open s number ≡ false → RefusesEnd (for_row s RunNotFound (end_run s ending) o).reply
  refuses None e none = of_absent
  refuses (Some run) e none = refused_if_ended run e (ended_run_there run e none)

-- after an `end` that is accepted, there is no run with the number that has not ended
pub ended_closes : (seats moment number : ℕ) (ending : Ending) (s : State) → IsSound seats s → (event_step moment (End number ending) s).reply ≡ Status 200
    → is_open (event_step moment (End number ending) s).state number ≡ false
ended_closes seats moment number ending s h =
    closes (at_moment moment s) number ending h.consistent.numbers.runs (run_of (at_moment moment s) number) refl

-- its number was given before
pub ended_was_there : (seats moment number : ℕ) (ending : Ending) (s : State) → IsSound seats s → (event_step moment (End number ending) s).reply ≡ Status 200
    → number < s.next_run
ended_was_there seats moment number ending s h =
    given_before (at_moment moment s) number ending h.consistent.numbers.runs (run_of (at_moment moment s) number) refl

-- an `end` is refused if no run with the number is one that has not ended
pub not_open_refused : (seats moment number : ℕ) (ending : Ending) (s : State) → IsSound seats s → is_open s number ≡ false
    → RefusesEnd (event_step moment (End number ending) s).reply
not_open_refused seats moment number ending s h =
    refuses (at_moment moment s) number ending (run_of (at_moment moment s) number) refl
