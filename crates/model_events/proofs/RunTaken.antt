-- The event `take` keeps sound tables.
use Rattle.std.proofs.Common.{◌≡◌, ℕ, Bool, true, not, ◌&&◌, ◌||◌, nat_le, List, Option, Some, None, is_none, refl, ◌∙◌, ap, false}
use Rattle.std.specs.List.{find}
use Rattle.std.specs.Option.{unwrap_or}
use Rattle.bt_rows.specs.Keys.{same_run, same_run_equiv}
use Rattle.bt_rows.specs.Lists.{AreDistinct}
use Rattle.bt_rows.specs.Ranges.{passes_if_some}
use Rattle.bt_rows.specs.declared.refusal.Refusal.TheVariants.{RunAlreadyEnded, RunWithdrawn, RunAlreadyTaken, RunWaiting}
use Rattle.batch_model.specs.Finding.{Each}
use Rattle.batch_model.specs.Rows.{is_run, run_of, change_runs, change_preps}
use Rattle.batch_model.specs.Preps.{is_prepared}
use Rattle.batch_model.specs.Tasks.{is_placed_in}
use Rattle.batch_model.specs.Jobs.{is_quiet}
use Rattle.batch_model.specs.Events.{taken_run, started_task, is_task_of_run, served, is_prep_of_work, run_taken, take_run, take_refusals}
use Rattle.batch_model.specs.Limits.{task_limit}
use Rattle.batch_model.specs.Sound.{IsWithinLimits, has_no_end_yet, UnendedRunsHaveNoEnd, StartsAreSound, IsSound}
use Rattle.batch_model.specs.WellFormed.{is_past_if_some, is_ended_in_order, is_task_valid, is_run_valid, has_no_placed_if_quiet, has_few_preparations}
use Rattle.batch_model.specs.Variants.{State, TaskRow, RunRow, PrepRow}
use Rattle.batch_model.specs.Variants.{Queued, RunState, Waiting, Taken, Ended, Withdrawn}
use Rattle.batch_model.specs.Runs.{is_unended, is_waiting, is_queued, is_taken, is_ended, is_withdrawn}
use Rattle.model_lists.proofs.Tests.{and_true, and_first, and_second, asked}
use Rattle.model_lists.proofs.RowLists.{each_any, each_weaker, each_and, each_found}
use Rattle.model_lists.proofs.ChangedRows.{each_change, each_change_same, any_change_same}
use Rattle.model_lists.proofs.DistinctLists.{each_with_key}
use Rattle.model_lists.proofs.NextNumbers.{is_not_after_itself}
use Rattle.model_lists.proofs.Lengths.{change_keeps_length}
use Rattle.model_tables.proofs.FoundRows.{own_number}
use Rattle.model_tables.proofs.PrepsKept.{preps_with_tasks}
use Rattle.model_tables.proofs.PrepsChanged.{running_still, preps_changed, sound_preps_changed}
use Rattle.model_events.proofs.Keeping.{passed, answer_keeps}
use Rattle.model_events.proofs.take.Consistent.{run_started, preps_taken, rest_taken, consistent_taken}
use Rattle.model_events.proofs.take.Starts.{starts_taken}

-- within the limits

-- where there is no value, none is to pass
none_passes : (test : ℕ → Bool) (o : Option ℕ) → is_none o ≡ true → passes_if_some test o ≡ true
none_passes test None h = refl
none_passes test (Some n) h = cc

-- a run that is taken before it ends was made before
taken_valid : (now : ℕ) (run : RunRow) → is_run_valid now run ≡ true → is_none run.ended ≡ true → is_run_valid now (taken_run now run) ≡ true
taken_valid now run h running =
    let made : nat_le run.made now ≡ true = and_first _ _ (and_first _ _ (and_second _ _ (and_first _ _ h))) in
    and_true
    (and_true (and_first _ _ (and_first _ _ h)) (and_true (and_true made (is_not_after_itself now)) (and_second _ _ (and_second _ _ (and_first _ _ h)))))
    (and_true made (none_passes (is_ended_in_order (taken_run now run)) run.ended running))

-- a task starts not after now
start_past : (now : ℕ) (started : Option ℕ) → is_past_if_some now started ≡ true → nat_le (unwrap_or started now) now ≡ true
start_past now None h = is_not_after_itself now
start_past now (Some moment) h = h

started_valid : (now : ℕ) (task : TaskRow) → is_task_valid now task ≡ true → is_task_valid now (started_task now task) ≡ true
started_valid now task h =
    and_true
    (and_true (and_first _ _ (and_first _ _ h))
    (and_true (start_past now task.started (and_first _ _ (and_second _ _ (and_first _ _ h)))) (and_second _ _ (and_second _ _ (and_first _ _ h)))))
    (and_second _ _ h)

-- a row with the key of a run that has no end has none
each_without_end : (runs : List RunRow) (run : RunRow) → AreDistinct same_run runs → find (is_run run.number) runs ≡ Some run → is_none run.ended ≡ true
    → Each (λ (row : RunRow). not (is_run run.number row) || is_none row.ended) runs
each_without_end runs run = each_with_key same_run same_run_equiv (λ (row : RunRow). is_none row.ended) run run runs

-- a run without an end is taken now, and its task starts
limited_taken : (s : State) (run : RunRow) → IsWithinLimits s → AreDistinct same_run s.runs → find (is_run run.number) s.runs ≡ Some run
    → is_none run.ended ≡ true → IsWithinLimits (run_started s run)
limited_taken s run h keys found running = record {
  rows = record {
    moment = h.rows.moment;
    pools = h.rows.pools;
    nodes = h.rows.nodes;
    jobs = h.rows.jobs;
    tasks = each_change_same (is_task_of_run run) (started_task s.moment) (is_task_valid s.moment) (λ task t. started_valid s.moment task) s.tasks h.rows.tasks;
    runs =
        each_change (is_run run.number) (taken_run s.moment) (λ row. is_run_valid s.moment row && (not (is_run run.number row) || is_none row.ended))
        (is_run_valid s.moment)
        (λ row t p. taken_valid s.moment row (and_first _ _ p) (asked (is_run run.number row) (is_none row.ended) (and_second _ _ p) t))
        (λ row t p. and_first _ _ p) s.runs
        (each_and (is_run_valid s.moment) (λ row. not (is_run run.number row) || is_none row.ended) s.runs h.rows.runs
        (each_without_end s.runs run keys found running));
    samples = h.rows.samples;
    scales = h.rows.scales;
  };
  counts = record {
    pools = h.counts.pools;
    jobs = h.counts.jobs;
    tasks = change_keeps_length (is_task_of_run run) (started_task s.moment) task_limit s.tasks h.counts.tasks;
    first_node = h.counts.first_node;
    next_node = h.counts.next_node;
    first_run = h.counts.first_run;
    next_run = h.counts.next_run;
  };
  quiet =
      each_weaker (has_no_placed_if_quiet s) (has_no_placed_if_quiet (run_started s run))
      (λ job k. ap (λ b. not (is_quiet job.state && b))
      (any_change_same (is_task_of_run run) (started_task s.moment) (is_placed_in job.id) (λ task t. refl) s.tasks) ∙ k)
      s.jobs h.quiet;
  pools = record {
    deleting = h.pools.deleting;
    pools_of_scales = h.pools.pools_of_scales;
    pools_of_samples = h.pools.pools_of_samples;
    labels = h.pools.labels;
    order = h.pools.order;
    covered = h.pools.covered;
    kept = h.pools.kept;
  };
}

-- a run that is found and has not ended
found_without_end : (s : State) (test : RunRow → Bool) (run : RunRow) → UnendedRunsHaveNoEnd s → find test s.runs ≡ Some run → is_unended run.state ≡ true
    → is_none run.ended ≡ true
found_without_end s test run h found unended =
    asked (is_unended run.state) (is_none run.ended) (each_found has_no_end_yet test run s.runs found h) unended

-- a run without an end is taken
unended_taken : (s : State) (run : RunRow) → UnendedRunsHaveNoEnd s → AreDistinct same_run s.runs → find (is_run run.number) s.runs ≡ Some run
    → is_none run.ended ≡ true → UnendedRunsHaveNoEnd (run_taken s run)
unended_taken s run h keys found running =
    each_change (is_run run.number) (taken_run s.moment) (λ row. has_no_end_yet row && (not (is_run run.number row) || is_none row.ended)) has_no_end_yet
    (λ row t p. asked (is_run run.number row) (is_none row.ended) (and_second _ _ p) t)
    (λ row t p. and_first _ _ p) s.runs
    (each_and has_no_end_yet (λ row. not (is_run run.number row) || is_none row.ended) s.runs h (each_without_end s.runs run keys found running))

-- a run that neither has ended or was withdrawn, nor is taken or waits, is queued
queued_if_left : (state : RunState) → is_ended state ≡ false → is_withdrawn state ≡ false → is_taken state ≡ false → is_waiting state ≡ false
    → is_queued state ≡ true
queued_if_left Waiting ended withdrawn taken waiting = cc
queued_if_left Queued ended withdrawn taken waiting = refl
queued_if_left Taken ended withdrawn taken waiting = cc
queued_if_left (Ended ending) ended withdrawn taken waiting = cc
queued_if_left Withdrawn ended withdrawn taken waiting = cc

-- it has not ended
queued_unended : (state : RunState) → is_queued state ≡ true → is_unended state ≡ true
queued_unended Waiting h = refl
queued_unended Queued h = refl
queued_unended Taken h = refl
queued_unended (Ended ending) h = cc
queued_unended Withdrawn h = cc

-- a queued run is taken, and its task starts
sound_started : (seats : ℕ) (s : State) (run : RunRow) → IsSound seats s → find (is_run run.number) s.runs ≡ Some run → is_queued run.state ≡ true
    → IsSound seats (run_started s run)
sound_started seats s run h found queued =
    let running : is_none run.ended ≡ true = found_without_end s (is_run run.number) run h.unended found (queued_unended run.state queued) in
    let begun : StartsAreSound (run_taken s run) = starts_taken s run h.consistent.keys.runs found queued h.starts in
    record {
      consistent = consistent_taken seats s run h.consistent found queued;
      limited = limited_taken s run h.limited h.consistent.keys.runs found running;
      unended = unended_taken s run h.unended h.consistent.keys.runs found running;
      starts = record { usable = begun.usable; tries = begun.tries };
      preparing =
          preps_with_tasks (change_runs (is_run run.number) (taken_run s.moment) s) (run_started s run).tasks
          (preps_taken s run h.consistent.keys.runs found queued h.preparing);
      resting = rest_taken s run h.consistent.keys.runs found queued h.resting;
    }

-- what is left of a test
keeps_test : (a b : Bool) → (not (a && b) || b) ≡ true
keeps_test true true = refl
keeps_test true false = refl
keeps_test false true = refl
keeps_test false false = refl

-- a preparation that has served
sound_served : (seats : ℕ) (s : State) (test : PrepRow → Bool) → IsSound seats s → IsSound seats (change_preps test served s)
sound_served seats s test h =
    sound_preps_changed test (λ prep. prep.state) (λ prep. prep.tries) (λ prep. true) (λ prep. prep.release) s seats h
    (preps_changed test (λ prep. prep.state) (λ prep. prep.tries) (λ prep. true) (λ prep. prep.release) s
    (running_still test (λ prep. prep.state) (λ prep. prep.tries) (λ prep. true) (λ prep. prep.release) s (λ prep t k. k) h.preparing.running)
    (each_any (λ (prep : PrepRow). not (test prep && is_prepared prep.state) || is_prepared prep.state) (λ prep. keeps_test (test prep) (is_prepared prep.state)) s.preps)
    (λ prep t k. k) (each_change_same test served (has_few_preparations s) (λ prep t k. k) s.preps h.preparing.tries) h.preparing)

-- a queued run is taken
sound_taken : (seats : ℕ) (s : State) (run : RunRow) → IsSound seats s → find (is_run run.number) s.runs ≡ Some run → is_queued run.state ≡ true
    → IsSound seats (run_taken s run)
sound_taken seats s run h found queued =
    sound_served seats (run_started s run) (is_prep_of_work run) (sound_started seats s run h found queued)

-- `take`
pub take_kept : (seats : ℕ) (s : State) (number : ℕ) (run : RunRow) → IsSound seats s → run_of s number ≡ Some run → IsSound seats (take_run s run).state
take_kept seats s number run h found =
    answer_keeps (IsSound seats) s h (take_refusals run) 200 (run_taken s run)
    (λ absent.
    sound_taken seats s run h (own_number s number run found)
    (queued_if_left run.state
    (passed (is_ended run.state) RunAlreadyEnded absent.0)
    (passed (is_withdrawn run.state) RunWithdrawn absent.1.0)
    (passed (is_taken run.state) RunAlreadyTaken absent.1.1.0)
    (passed (is_waiting run.state) RunWaiting absent.1.1.1.0)))
