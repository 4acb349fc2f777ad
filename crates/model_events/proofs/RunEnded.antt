-- The event `end` keeps sound tables.
use Rattle.std.proofs.Common.{◌≡◌, ℕ, ◌+◌, Bool, true, false, not, ◌&&◌, nat_eq, nat_le, Some, refl, sym, ◌∙◌, ap}
use Rattle.std.specs.List.{find}
use Rattle.bt_rows.specs.declared.refusal.Refusal.TheVariants.{RunNotTaken}
use Rattle.bt_rows.specs.Ranges.{is_from_to}
use Rattle.batch_model.specs.Limits.{seat_limit}
use Rattle.batch_model.specs.Rows.{is_node, is_run, change_runs, run_of}
use Rattle.batch_model.specs.Events.{ended_run, ended_by, run_ended, end_run, end_refusals}
use Rattle.batch_model.specs.Starts.{usable_in, failed_in, started_node, counted_node, failed_node, change_node, start_ended}
use Rattle.batch_model.specs.Jobs.{is_job_completed}
use Rattle.batch_model.specs.JobRules.{is_unended_of}
use Rattle.batch_model.specs.Sound.{IsWithinLimits, has_no_end_yet, UnendedRunsHaveNoEnd, StartsAreSound, PreparationsAreSound, CompletedJobsRest, IsSound}
use Rattle.batch_model.specs.Sound.{prepare_the_same}
use Rattle.batch_model.specs.WellFormed.{is_node_number, is_node_in_range, is_past_if_some, is_run_valid}
use Rattle.batch_model.specs.Variants.{State, NodeRow, JobRow, Ending, RunRow, RunKind, StartRun, PrepRun, TaskRun, CoordinationRun, ReleaseRun}
use Rattle.batch_model.specs.Runs.{is_taken, is_start, is_preparation, is_open_preparation, start_run}
use Rattle.model_lists.proofs.Tests.{and_true, and_first, and_second, not_false, true_not}
use Rattle.model_lists.proofs.RowLists.{each_any, each_found, none_any}
use Rattle.model_lists.proofs.ChangedRows.{changed, each_change_same, any_change_same}
use Rattle.model_lists.proofs.NextNumbers.{is_not_after_itself}
use Rattle.model_tables.proofs.StartAdded.{limited_start_added, unended_start_added}
use Rattle.model_tables.proofs.NodeChanged.{limited_node_changed}
use Rattle.model_tables.proofs.FoundRows.{own_number}
use Rattle.model_events.proofs.end.StartCases.{StartEnds, nothing, starts, again, fails, start_cases}
use Rattle.model_events.proofs.Keeping.{passed, answer_keeps}
use Rattle.model_events.proofs.end.Consistent.{consistent_run, consistent_start_ended}
use Rattle.model_events.proofs.end.Starts.{starts_run_ended, starts_ended}
use Rattle.model_events.proofs.end.Preps.{sound_preparation_ended, sound_release_ended}
use Rattle.model_tables.proofs.PrepsKept.{KeepsRun, keeps_changed, preps_with_runs, rest_with_runs, preps_with_nodes, preps_run_added, rest_run_added}

-- within the limits

-- it was made and taken before
ended_valid : (now : ℕ) (ending : Ending) (run : RunRow) → is_run_valid now run ≡ true → is_run_valid now (ended_run now ending run) ≡ true
ended_valid now ending run h =
    let before : (nat_le run.made now && is_past_if_some now run.taken) ≡ true = and_first _ _ (and_second _ _ (and_first _ _ h)) in
    and_true (and_true (and_first _ _ (and_first _ _ h)) (and_true before (is_not_after_itself now))) (and_true (and_first _ _ (and_second _ _ h)) before)

-- a run that ends now
limited_run : (s : State) (ending : Ending) (run : RunRow) → IsWithinLimits s → IsWithinLimits (change_runs (is_run run.number) (ended_run s.moment ending) s)
limited_run s ending run h = record {
  rows = record {
    moment = h.rows.moment;
    pools = h.rows.pools;
    nodes = h.rows.nodes;
    jobs = h.rows.jobs;
    tasks = h.rows.tasks;
    runs =
        each_change_same (is_run run.number) (ended_run s.moment ending) (is_run_valid s.moment) (λ row t. ended_valid s.moment ending row) s.runs h.rows.runs;
    samples = h.rows.samples;
    scales = h.rows.scales;
  };
  counts = record {
    pools = h.counts.pools;
    jobs = h.counts.jobs;
    tasks = h.counts.tasks;
    first_node = h.counts.first_node;
    next_node = h.counts.next_node;
    first_run = h.counts.first_run;
    next_run = h.counts.next_run;
  };
  quiet = h.quiet;
  pools = record {
    deleting = h.pools.deleting;
    pools_of_scales = h.pools.pools_of_scales;
    pools_of_samples = h.pools.pools_of_samples;
    labels = h.pools.labels;
    order = h.pools.order;
    covered = h.pools.covered;
    kept = h.pools.kept;
  };
}

-- each case of the ending of a start run
limited_by_start : (s after : State) (run : RunRow) (ending : Ending) → IsWithinLimits s → StartEnds s run ending after → IsWithinLimits after
limited_by_start s after run ending h nothing = h
limited_by_start s after run ending h (starts node found well) =
    limited_node_changed (is_node node.number) (λ (each : NodeRow). usable_in each.stage) (λ (each : NodeRow). each.tries) s h
limited_by_start s after run ending h (again node start found there failed left) =
    limited_start_added (change_node node counted_node s) node start
    (limited_node_changed (is_node node.number) (λ (each : NodeRow). each.stage) (λ (each : NodeRow). each.tries + 1) s h)
    left
    (and_first (is_node_number node.number) (is_from_to 1 seat_limit node.seat)
    (each_found is_node_in_range (is_node run.node) node s.nodes found h.rows.nodes))
limited_by_start s after run ending h (fails node start found there failed) =
    limited_node_changed (is_node node.number) (λ (each : NodeRow). failed_in each.stage) (λ (each : NodeRow). each.tries + 1) s h

-- without ends

-- each case of the ending of a start run
unended_by_start : (s after : State) (run : RunRow) (ending : Ending) → UnendedRunsHaveNoEnd s → StartEnds s run ending after → UnendedRunsHaveNoEnd after
unended_by_start s after run ending h nothing = h
unended_by_start s after run ending h (starts node found well) = h
unended_by_start s after run ending h (again node start found there failed left) = unended_start_added (change_node node counted_node s) node start h
unended_by_start s after run ending h (fails node start found there failed) = h

-- preparations

-- a node changes, and keeps its number
preps_node_changed : (s : State) (node : NodeRow) (change : NodeRow → NodeRow) → ((other : NodeRow) → (change other).number ≡ other.number)
    → PreparationsAreSound s → PreparationsAreSound (change_node node change s)
preps_node_changed s node change keeps h =
    preps_with_nodes s (change_node node change s).nodes (λ run. true)
    (λ number k. any_change_same (is_node node.number) change (is_node number) (λ other t. ap (λ n. nat_eq n number) (keeps other)) s.nodes ∙ k)
    (λ run a k. sym (any_change_same (is_node node.number) change (is_node run.node) (λ other t. ap (λ n. nat_eq n run.node) (keeps other)) s.nodes) ∙ k)
    (each_any (λ run. true) (λ run. refl) s.runs) h

-- a start run is of no preparation
none_same : (a b : Bool) → (((a && false) && b) && false) ≡ false
none_same true b = and_none b
  where
    and_none : (c : Bool) → ((false && c) && false) ≡ false
    and_none c = refl
none_same false b = refl

-- each case of the ending of a start run
preps_by_start : (s after : State) (run : RunRow) (ending : Ending) → PreparationsAreSound s → StartEnds s run ending after → PreparationsAreSound after
preps_by_start s after run ending h nothing = h
preps_by_start s after run ending h (starts node found well) = preps_node_changed s node started_node (λ other. refl) h
preps_by_start s after run ending h (again node start found there failed left) =
    preps_run_added (change_node node counted_node s) (start_run s node start) refl
    (none_any (λ other. prepare_the_same other (start_run s node start)) s.runs
    (each_any (λ other. not (prepare_the_same other (start_run s node start)))
    (λ other. true_not (none_same (is_open_preparation other) (nat_eq other.node node.number))) s.runs))
    refl refl (preps_node_changed s node counted_node (λ other. refl) h)
preps_by_start s after run ending h (fails node start found there failed) = preps_node_changed s node failed_node (λ other. refl) h

-- completed jobs rest in each case
rest_by_start : (s after : State) (run : RunRow) (ending : Ending) → CompletedJobsRest s → StartEnds s run ending after → CompletedJobsRest after
rest_by_start s after run ending h nothing = h
rest_by_start s after run ending h (starts node found well) = h
rest_by_start s after run ending h (again node start found there failed left) =
    rest_run_added (change_node node counted_node s) (start_run s node start)
    (each_any (λ (job : JobRow). not (is_job_completed job.state && is_unended_of job.id (start_run s node start)))
    (λ job. true_not (off (is_job_completed job.state))) s.jobs) h
  where
    off : (a : Bool) → (a && false) ≡ false
    off true = refl
    off false = refl
rest_by_start s after run ending h (fails node start found there failed) = h

-- by kind

module _ (seats : ℕ) (s : State) (ending : Ending) (run : RunRow) (h : IsSound seats s) (found : find (is_run run.number) s.runs ≡ Some run)
    (taken : is_taken run.state ≡ true) where
  -- the tables in which the run has ended
  abbrev with_ended : State
  with_ended = change_runs (is_run run.number) (ended_run s.moment ending) s

  -- each run keeps what it is of
  ended_keeps : (row : RunRow) → KeepsRun row (changed (is_run run.number) (ended_run s.moment ending) row)
  ended_keeps row =
      keeps_changed (is_run run.number) (ended_run s.moment ending) row
      (λ t. record { kind = refl; node = refl; job = refl; unended = λ k. cc; waiting = λ k w. cc })

  -- the run has ended
  sound_run : IsSound seats with_ended
  sound_run =
      let started : StartsAreSound with_ended = starts_run_ended s ending run h.consistent.keys.runs found taken h.starts in
      record {
        consistent = consistent_run seats s ending run h.consistent found taken;
        limited = limited_run s ending run h.limited;
        unended = each_change_same (is_run run.number) (ended_run s.moment ending) has_no_end_yet (λ row t p. refl) s.runs h.unended;
        starts = record { usable = started.usable; tries = started.tries };
        preparing = preps_with_runs (changed (is_run run.number) (ended_run s.moment ending)) ended_keeps s h.preparing;
        resting = rest_with_runs (changed (is_run run.number) (ended_run s.moment ending)) ended_keeps s h.resting;
      }

  -- a start run has ended, and changes its node
  sound_start : is_start run.kind ≡ true → IsSound seats (start_ended run ending with_ended)
  sound_start start =
      let sound : IsSound seats with_ended = sound_run in
      let started : StartsAreSound (start_ended run ending with_ended) = starts_ended s ending run h.consistent.keys.runs found taken h.starts start in
      let preparing : PreparationsAreSound (start_ended run ending with_ended) =
      preps_by_start with_ended (start_ended run ending with_ended) run ending sound.preparing (start_cases with_ended run ending)
      in
      record {
        consistent = consistent_start_ended seats with_ended run ending sound.consistent;
        limited = limited_by_start with_ended (start_ended run ending with_ended) run ending sound.limited (start_cases with_ended run ending);
        unended = unended_by_start with_ended (start_ended run ending with_ended) run ending sound.unended (start_cases with_ended run ending);
        starts = started;
        preparing = preparing;
        resting = rest_by_start with_ended (start_ended run ending with_ended) run ending sound.resting (start_cases with_ended run ending);
      }

  -- its kind decides what else
  by_kind : (kind : RunKind) → run.kind ≡ kind → IsSound seats (ended_by kind run ending with_ended)
  by_kind StartRun e = sound_start (ap is_start e)
  by_kind PrepRun e = sound_preparation_ended seats s ending run h found taken sound_run (ap is_preparation e)
  by_kind TaskRun e = sound_run
  by_kind CoordinationRun e = sound_run
  by_kind ReleaseRun e = sound_release_ended seats s ending run h found taken sound_run

  -- a taken run ends, and then its kind decides
  sound_ended : IsSound seats (run_ended s ending run)
  sound_ended = by_kind run.kind refl

-- `end`
pub end_kept : (seats : ℕ) (s : State) (number : ℕ) (ending : Ending) (run : RunRow) → IsSound seats s → run_of s number ≡ Some run
    → IsSound seats (end_run s ending run).state
end_kept seats s number ending run h found =
    answer_keeps (IsSound seats) s h (end_refusals run) 200 (run_ended s ending run)
    (λ absent.
    sound_ended seats s ending run h (own_number s number run found)
    (not_false (is_taken run.state) (passed (not (is_taken run.state)) RunNotTaken absent.1.1.0)))
