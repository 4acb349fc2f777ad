-- Runs that name no task and are halted: tables with them are sound.
use Rattle.std.proofs.Common.{◌≡◌, ℕ, Bool, true, false, not, ◌&&◌, ◌||◌, nat_eq, nat_lt, List, Option, Some, None, is_some, is_none, cond, refl, sym, ◌∙◌, ap, arith}
use Rattle.std.specs.List.{list_any, find}
use Rattle.std.specs.Option.{option_map, option_and_then}
use Rattle.bt_rows.specs.Keys.{same_run}
use Rattle.batch_model.specs.Finding.{Each, names}
use Rattle.batch_model.specs.Rows.{change_runs}
use Rattle.batch_model.specs.Runs.{is_unended, is_main, is_work, is_preparation, is_release, is_coordination, is_present, is_busy_for, ending_of}
use Rattle.batch_model.specs.Runs.{withdrawn, asked_to_stop, halted}
use Rattle.batch_model.specs.Tasks.{is_placed, is_undisturbed, is_busy, main_ending}
use Rattle.batch_model.specs.Slots.{owns, held_slots, holds_on}
use Rattle.batch_model.specs.Sound.{IsConsistent, IsWithinLimits, IsSound, has_node_while_unended, belongs, can_be_settled, fits_nodes, names_no_task, has_no_end_yet}
use Rattle.batch_model.specs.WellFormed.{is_run_valid, has_named_job, has_named_task, are_one_attempt, is_unended_start_on}
use Rattle.batch_model.specs.Variants.{State, TaskRow, RunRow}
use Rattle.model_lists.proofs.RowLists.{each_any, each_weaker}
use Rattle.model_lists.proofs.ChangedRows.{changed, same_changed, each_change_same, any_change_same, find_change}
use Rattle.model_lists.proofs.DistinctLists.{distinct_change}
use Rattle.model_lists.proofs.RowSums.{count_change_at_most, sum_filter, sum_change_same}
use Rattle.model_tables.proofs.NotBuilt.{is_built}
use Rattle.model_tables.proofs.RunsMove.{slots_suffice}
use Rattle.model_tables.proofs.StartsKept.{is_good_start, starts_with_runs}
use Rattle.model_tables.proofs.PrepsKept.{keeps_changed, preps_with_runs, rest_with_runs}
use Rattle.model_tables.proofs.TasksStopped.{halted_passes, halted_keeps, halted_kept, ending_kept, good_kept, start_before, valid_kept, off_kind, off_both, settled_alike}

-- a run that names no task is of no task's attempt
names_none : (task : TaskRow) (run : RunRow) → is_none run.task ≡ true → is_present task run ≡ false
names_none task run h = by_name run.task (names run.job task.job) (nat_eq run.attempt task.attempt) h
  where
    by_name : (name : Option (List ℕ)) (a b : Bool) → is_none name ≡ true → ((a && names name task.id) && b) ≡ false
    by_name None true b k = refl
    by_name None false b k = refl
    by_name (Some id) a b k = cc

-- what is not of an attempt is not, changed or not
both_off : (a a' b b' : Bool) → a ≡ false → a' ≡ a → (a' && b') ≡ (a && b)
both_off a a' b b' n e = rw (e, n) refl

module _ (test : RunRow → Bool) (s : State) (free : (run : RunRow) → test run ≡ true → is_none run.task ≡ true) where
  -- the tables after the halt
  abbrev after : State
  after = change_runs test (halted s.moment) s

  -- each run: it is halted, or stays
  each_run : (p : RunRow → Bool) → ((run : RunRow) → p run ≡ true → p (withdrawn s.moment run) ≡ true)
      → ((run : RunRow) → p run ≡ true → p (asked_to_stop run) ≡ true) → Each p s.runs → Each p after.runs
  each_run p gone asked h =
      each_change_same test (halted s.moment) p (λ run t k. halted_passes s.moment p run (gone run k) (asked run k) k) s.runs h

  -- nodes hold the same slots
  slots_after : (node : ℕ) → held_slots after node ≡ held_slots s node
  slots_after node =
      sum_filter (holds_on after node) (λ (run : RunRow). run.slots) after.runs
      ∙ sum_change_same test (halted s.moment) held (λ run t. halted_keeps s.moment held run refl refl) s.runs
      ∙ sym (sum_filter (holds_on s node) (λ (run : RunRow). run.slots) s.runs)
    where
      held : RunRow → ℕ
      held run = cond (holds_on s node run) run.slots 0

  -- the main run of a task has ended as before
  main_after : (task : TaskRow) → main_ending after task ≡ main_ending s task
  main_after task =
      ap (option_and_then (λ (run : RunRow). ending_of run.state))
      (find_change test (halted s.moment) (λ run. is_present task run && is_main run.kind)
      (λ run t. halted_keeps s.moment (λ (r : RunRow). is_present task r && is_main r.kind) run refl refl) s.runs)
      ∙ found (find (λ run. is_present task run && is_main run.kind) s.runs)
    where
      found : (o : Option RunRow)
          → option_and_then (λ (run : RunRow). ending_of run.state) (option_map (changed test (halted s.moment)) o)
          ≡ option_and_then (λ (run : RunRow). ending_of run.state) o
      found None = refl
      found (Some run) = same_changed test (halted s.moment) (λ (r : RunRow). ending_of r.state) run (λ t. ending_kept s.moment run)

  -- a task is as busy as before
  busy_after : (task : TaskRow) → is_busy after task ≡ is_busy s task
  busy_after task =
      any_change_same test (halted s.moment) (is_busy_for task)
      (λ run t. both_off (is_present task run) (is_present task (halted s.moment run)) (is_unended run.state) (is_unended (halted s.moment run).state)
      (names_none task run (free run t)) (halted_keeps s.moment (is_present task) run refl refl)) s.runs

  -- the rows fit each other
  consistent_halted : (seats : ℕ) → IsConsistent seats s → IsConsistent seats after
  consistent_halted seats h = record {
    keys = record {
      pools = h.keys.pools;
      nodes = h.keys.nodes;
      jobs = h.keys.jobs;
      tasks = h.keys.tasks;
      runs =
          distinct_change test (halted s.moment) same_run
          (λ x y t. halted_keeps s.moment (λ (r : RunRow). same_run r y) x refl refl)
          (λ x y t. halted_keeps s.moment (λ (r : RunRow). same_run x r) y refl refl) s.runs h.keys.runs;
      preps = h.keys.preps;
      samples = h.keys.samples;
      scales = h.keys.scales;
    };
    numbers = record {
      begun = h.numbers.begun;
      runs = each_run (λ run. nat_lt run.number s.next_run) (λ run k. k) (λ run k. k) h.numbers.runs;
      nodes = h.numbers.nodes;
      nodes_of_runs = each_run (λ run. nat_lt run.node s.next_node) (λ run k. k) (λ run k. k) h.numbers.nodes_of_runs;
      order = h.numbers.order;
    };
    fitting = record { marks = h.fitting.marks; closing = h.fitting.closing; attempts = h.fitting.attempts };
    named = record {
      jobs_of_tasks = h.named.jobs_of_tasks;
      jobs_of_runs = each_run (has_named_job s) (λ run k. k) (λ run k. k) h.named.jobs_of_runs;
      tasks_of_runs = each_run (has_named_task s) (λ run k. k) (λ run k. k) h.named.tasks_of_runs;
      main_runs =
          distinct_change test (halted s.moment) are_one_attempt
          (λ x y t. halted_keeps s.moment (λ (r : RunRow). are_one_attempt r y) x refl refl)
          (λ x y t. halted_keeps s.moment (λ (r : RunRow). are_one_attempt x r) y refl refl) s.runs h.named.main_runs;
    };
    seated = record {
      distinct = h.seated.distinct;
      in_range = h.seated.in_range;
      few = h.seated.few;
      pools_of_nodes = h.seated.pools_of_nodes;
      nodes_of_runs = each_run (has_node_while_unended s) (λ run k. refl) (λ run k. k) h.seated.nodes_of_runs;
    };
    belonging = each_run (belongs s) (λ run k. off_kind (is_work run.kind) (list_any (owns (withdrawn s.moment run)) s.tasks)) (λ run k. k) h.belonging;
    ending =
        each_weaker (can_be_settled s) (can_be_settled after)
        (λ task k. settled_alike (is_placed task.stage) (is_busy s task) (is_busy after task) (not (is_undisturbed task)) (is_some (main_ending s task))
        (is_some (main_ending after task)) (busy_after task) (ap is_some (main_after task)) k)
        s.tasks h.ending;
    naming = record {
      on_nodes = each_run (fits_nodes s) (λ run k. k) (λ run k. k) h.naming.on_nodes;
      of_jobs = each_run names_no_task (λ run k. off_kind (is_preparation run.kind || is_release run.kind) (is_none run.task)) (λ run k. k) h.naming.of_jobs;
    };
    slots = slots_suffice (held_slots after) (held_slots s) s.pools (λ node. omega (arith, slots_after node)) s.nodes h.slots;
    built = record {
      runs = each_run is_built (λ run k. off_both (is_coordination run.kind)) (λ run k. k) h.built.runs;
    };
  }

  -- values stay within the limits
  limited_halted : IsWithinLimits s → IsWithinLimits after
  limited_halted h = record {
    rows = record {
      moment = h.rows.moment;
      pools = h.rows.pools;
      nodes = h.rows.nodes;
      jobs = h.rows.jobs;
      tasks = h.rows.tasks;
      runs = each_change_same test (halted s.moment) (is_run_valid s.moment) (λ run t k. valid_kept s.moment run k) s.runs h.rows.runs;
      samples = h.rows.samples;
      scales = h.rows.scales;
    };
    counts = record {
      pools = h.counts.pools;
      jobs = h.counts.jobs;
      tasks = h.counts.tasks;
      first_node = h.counts.first_node;
      next_node = h.counts.next_node;
      first_run = h.counts.first_run;
      next_run = h.counts.next_run;
    };
    quiet = h.quiet;
    pools = record {
      deleting = h.pools.deleting;
      pools_of_scales = h.pools.pools_of_scales;
      pools_of_samples = h.pools.pools_of_samples;
      labels = h.pools.labels;
      order = h.pools.order;
      covered = h.pools.covered;
      kept = h.pools.kept;
    };
  }

  -- the runs are halted
  pub sound_runs_halted : (seats : ℕ) → IsSound seats s → IsSound seats (change_runs test (halted s.moment) s)
  sound_runs_halted seats h =
      let starts =
      starts_with_runs s after.runs
      (λ node. count_change_at_most test (halted s.moment) (λ run. true) (is_unended_start_on node) (λ run k t. start_before s.moment node run) s.runs
      (each_any (λ run. true) (λ run. refl) s.runs))
      (λ node k. any_change_same test (halted s.moment) (is_good_start node) (λ run t. good_kept s.moment node run) s.runs ∙ k)
      h.starts
      in
      record {
        consistent = consistent_halted seats h.consistent;
        limited = limited_halted h.limited;
        unended = each_run has_no_end_yet (λ run k. refl) (λ run k. k) h.unended;
        starts = record { usable = starts.usable; tries = starts.tries };
        preparing =
            preps_with_runs (changed test (halted s.moment)) (λ run. keeps_changed test (halted s.moment) run (λ t. halted_kept s.moment run)) s h.preparing;
        resting = rest_with_runs (changed test (halted s.moment)) (λ run. keeps_changed test (halted s.moment) run (λ t. halted_kept s.moment run)) s h.resting;
      }
