-- Placed tasks whose end is wanted, and whose runs are halted: tables with them are sound.
use Rattle.std.proofs.Common.{◌≡◌, ℕ, Bool, true, false, not, ◌&&◌, ◌||◌, nat_eq, nat_lt, nat_le, Option, Some, None, is_some, cond, refl, sym}
use Rattle.std.proofs.Common.{◌∙◌, ap, arith}
use Rattle.std.specs.List.{list_any, find}
use Rattle.std.specs.Option.{option_map, option_and_then}
use Rattle.bt_rows.specs.Keys.{same_task, same_run}
use Rattle.bt_rows.specs.Ranges.{passes_if_some}
use Rattle.batch_model.specs.Finding.{Each}
use Rattle.batch_model.specs.Runs.{is_unended, is_waiting, is_coordination, is_start, is_main, is_work, is_preparation, is_release, is_present, is_busy_for, ending_of, withdrawn, asked_to_stop}
use Rattle.batch_model.specs.Runs.{halted_in, halted}
use Rattle.batch_model.specs.Tasks.{is_placed, is_placed_in, is_undisturbed, is_busy, main_ending}
use Rattle.batch_model.specs.Slots.{owns, held_slots, holds_on}
use Rattle.batch_model.specs.Stops.{wanting, is_stopped, is_run_of_stopped, stop}
use Rattle.batch_model.specs.Sound.{IsConsistent, IsWithinLimits, IsSound, has_node_while_unended, belongs, can_be_settled}
use Rattle.batch_model.specs.Sound.{fits_nodes, names_no_task, has_no_end_yet}
use Rattle.batch_model.specs.WellFormed.{is_task_valid, is_run_valid, is_run_in_range, is_past_if_some, is_ended_in_order, has_fitting_marks, is_closed_if_completed}
use Rattle.batch_model.specs.WellFormed.{has_job_row, has_named_job, has_named_task, is_task_of_attempt, are_one_attempt, has_no_placed_if_quiet, is_unended_start_on}
use Rattle.batch_model.specs.Limits.{task_limit}
use Rattle.batch_model.specs.Variants.{State, TaskRow, Want, RunRow, RunState, Waiting, Queued, Taken, Ended, Withdrawn}
use Rattle.model_lists.proofs.Tests.{and_first, and_second, or_first, or_second}
use Rattle.model_lists.proofs.RowLists.{each_any, each_weaker, find_any, find_test}
use Rattle.model_lists.proofs.ChangedRows.{changed, same_changed, each_change, each_change_same, any_change_same, find_change}
use Rattle.model_lists.proofs.DistinctLists.{distinct_change}
use Rattle.model_lists.proofs.NextNumbers.{is_not_after_itself}
use Rattle.model_lists.proofs.Lengths.{change_keeps_length}
use Rattle.model_lists.proofs.RowSums.{count_change_at_most, sum_filter, sum_change_same, sum_agree}
use Rattle.model_tables.proofs.NotBuilt.{is_built}
use Rattle.model_tables.proofs.RunsMove.{slots_suffice}
use Rattle.model_tables.proofs.PrepsKept.{KeepsRun, keeps_changed, preps_with_runs, rest_with_runs, preps_with_tasks}
use Rattle.model_tables.proofs.StartsKept.{is_good_start, starts_with_runs}

-- a halted run

module _ (now : ℕ) where
  -- what the run passes if it is withdrawn, if it is asked to stop, and if it stays
  pub halted_passes : (p : RunRow → Bool) (run : RunRow) → p (withdrawn now run) ≡ true → p (asked_to_stop run) ≡ true → p run ≡ true
      → p (halted now run) ≡ true
  halted_passes p run gone asked stays = by_state run.state
    where
      by_state : (state : RunState) → p (halted_in state now run) ≡ true
      by_state Waiting = gone
      by_state Queued = gone
      by_state Taken = asked
      by_state (Ended ending) = stays
      by_state Withdrawn = stays

  -- what does not hang on its state, its end, and whether it is asked to stop
  pub halted_keeps : {Q : Type 0} (f : RunRow → Q) (run : RunRow) → f (withdrawn now run) ≡ f run → f (asked_to_stop run) ≡ f run
      → f (halted now run) ≡ f run
  halted_keeps f run gone asked = by_state run.state
    where
      by_state : (state : RunState) → f (halted_in state now run) ≡ f run
      by_state Waiting = gone
      by_state Queued = gone
      by_state Taken = asked
      by_state (Ended ending) = refl
      by_state Withdrawn = refl

  -- its ending
  pub ending_kept : (run : RunRow) → ending_of (halted now run).state ≡ ending_of run.state
  ending_kept run = by_state run.state refl
    where
      by_state : (state : RunState) → run.state ≡ state → ending_of (halted_in state now run).state ≡ ending_of run.state
      by_state Waiting e = rw e refl
      by_state Queued e = rw e refl
      by_state Taken e = refl
      by_state (Ended ending) e = refl
      by_state Withdrawn e = refl

  -- whether it is a start run on the node that ended with code 0
  pub good_kept : (node : ℕ) (run : RunRow) → is_good_start node (halted now run) ≡ is_good_start node run
  good_kept node run = by_state run.state refl
    where
      by_state : (state : RunState) → run.state ≡ state → is_good_start node (halted_in state now run) ≡ is_good_start node run
      by_state Waiting e = rw e refl
      by_state Queued e = rw e refl
      by_state Taken e = refl
      by_state (Ended ending) e = refl
      by_state Withdrawn e = refl

  -- an unended start run on the node was one
  pub start_before : (node : ℕ) (run : RunRow) → is_unended_start_on node (halted now run) ≡ true → is_unended_start_on node run ≡ true
  start_before node run h = by_state run.state h
    where
      off : {P : Type 0} (a b : Bool) → (a && false && b) ≡ true → P
      off true b k = cc
      off false b k = cc

      by_state : (state : RunState) → is_unended_start_on node (halted_in state now run) ≡ true → is_unended_start_on node run ≡ true
      by_state Waiting k = off (is_start run.kind) (nat_eq run.node node) k
      by_state Queued k = off (is_start run.kind) (nat_eq run.node node) k
      by_state Taken k = k
      by_state (Ended ending) k = k
      by_state Withdrawn k = k

  -- tests of a run's values, moments and order, once it has ended now
  run_ends : (value made taken ended to last at : Bool) → at ≡ true → (value && (made && taken && ended) && (to && last)) ≡ true
      → (value && (made && taken && at) && (to && (made && taken))) ≡ true
  run_ends true true true true true last at n h = rw n refl
  run_ends true true true true false last at n h = cc
  run_ends true true true false to last at n h = cc
  run_ends true true false ended to last at n h = cc
  run_ends true false taken ended to last at n h = cc
  run_ends false made taken ended to last at n h = cc

  -- it keeps what it is of
  pub halted_kept : (run : RunRow) → KeepsRun run (halted now run)
  halted_kept run = record {
    kind = halted_keeps (λ (r : RunRow). r.kind) run refl refl;
    node = halted_keeps (λ (r : RunRow). r.node) run refl refl;
    job = halted_keeps (λ (r : RunRow). r.job) run refl refl;
    unended = unended_before run.state refl;
    waiting = waiting_before run.state refl;
  }
    where
      unended_before : (state : RunState) → run.state ≡ state → is_unended (halted_in state now run).state ≡ true → is_unended run.state ≡ true
      unended_before Waiting e k = cc
      unended_before Queued e k = cc
      unended_before Taken e k = k
      unended_before (Ended ending) e k = k
      unended_before Withdrawn e k = k

      waiting_before : (state : RunState) → run.state ≡ state → is_unended (halted_in state now run).state ≡ true → is_waiting run.state ≡ true
          → is_waiting (halted_in state now run).state ≡ true
      waiting_before Waiting e k w = cc
      waiting_before Queued e k w = cc
      waiting_before Taken e k w = w
      waiting_before (Ended ending) e k w = w
      waiting_before Withdrawn e k w = w

  -- its values and moments
  pub valid_kept : (run : RunRow) → is_run_valid now run ≡ true → is_run_valid now (halted now run) ≡ true
  valid_kept run h =
      halted_passes (is_run_valid now) run
      (run_ends (is_run_in_range run) (nat_le run.made now) (is_past_if_some now run.taken) (is_past_if_some now run.ended)
      (passes_if_some (nat_le run.made) run.taken) (passes_if_some (is_ended_in_order run) run.ended) (nat_le now now) (is_not_after_itself now) h)
      h h

-- a test that is asked for of an unended run of some kind
pub off_kind : (a c : Bool) → (not (a && false) || c) ≡ true
off_kind true c = refl
off_kind false c = refl

-- what is not beside another test
pub off_both : (a : Bool) → not (a && false) ≡ true
off_both true = refl
off_both false = refl

-- tests of a task that can be settled: it is as busy as before, and its main run has ended if it had
pub settled_alike : (p busy busy' d ends ends' : Bool) → busy' ≡ busy → ends' ≡ ends → (not p || busy || d || ends) ≡ true
    → (not p || busy' || d || ends') ≡ true
settled_alike p busy busy' d ends ends' b e h = rw (b, e) h

-- what is absent is not beside another test
both_absent : (a b u v : Bool) → b ≡ a → a ≡ false → (b && v) ≡ (a && u)
both_absent a b u v e n = rw (e, n) refl

module _ (test : TaskRow → Bool) (want : Want) (s : State) where
  -- the tables after the stop
  abbrev after : State
  after = stop test want s

  -- each run after the stop: it is halted, or stays
  each_run : (p q : RunRow → Bool) → ((run : RunRow) → p run ≡ true → q (withdrawn s.moment run) ≡ true)
      → ((run : RunRow) → p run ≡ true → q (asked_to_stop run) ≡ true) → ((run : RunRow) → p run ≡ true → q run ≡ true) → Each p s.runs → Each q after.runs
  each_run p q gone asked stays h =
      each_change (is_run_of_stopped test s) (halted s.moment) p q
      (λ run t k. halted_passes s.moment q run (gone run k) (asked run k) (stays run k)) (λ run t. stays run) s.runs h

  -- a test that does not hang on what a halt changes
  each_alike : (p : RunRow → Bool) → ((run : RunRow) → p (withdrawn s.moment run) ≡ p run) → ((run : RunRow) → p (asked_to_stop run) ≡ p run)
      → Each p s.runs → Each p after.runs
  each_alike p gone asked h = each_run p p (λ run k. gone run ∙ k) (λ run k. asked run ∙ k) (λ run k. k) h

  -- owners

  -- a run is owned by the same tasks
  owned_after : (run : RunRow) → list_any (owns run) after.tasks ≡ list_any (owns run) s.tasks
  owned_after run = any_change_same (is_stopped test) (wanting want) (owns run) (λ task t. refl) s.tasks

  -- it belongs to one as before
  belongs_after : (run : RunRow) → belongs s run ≡ true → belongs after run ≡ true
  belongs_after run h = rw (owned_after run) h

  -- it names the same task
  named_after : (run : RunRow) → has_named_task s run ≡ true → has_named_task after run ≡ true
  named_after run h = rw (any_change_same (is_stopped test) (wanting want) (is_task_of_attempt run) (λ task t. refl) s.tasks) h

  -- nodes hold the same slots
  slots_after : (node : ℕ) → held_slots after node ≡ held_slots s node
  slots_after node =
      sum_filter (holds_on after node) (λ (run : RunRow). run.slots) after.runs
      ∙ sum_change_same (is_run_of_stopped test s) (halted s.moment) held_after
      (λ run t. halted_keeps s.moment held_after run refl refl) s.runs
      ∙ sum_agree held_after held_before (λ run. rw (owned_after run) refl) s.runs
      ∙ sym (sum_filter (holds_on s node) (λ (run : RunRow). run.slots) s.runs)
    where
      held_after : RunRow → ℕ
      held_after run = cond (holds_on after node run) run.slots 0

      held_before : RunRow → ℕ
      held_before run = cond (holds_on s node run) run.slots 0

  -- the main run of a task has ended as before
  main_after : (task : TaskRow) → main_ending after task ≡ main_ending s task
  main_after task =
      ap (option_and_then (λ (run : RunRow). ending_of run.state))
      (find_change (is_run_of_stopped test s) (halted s.moment) (λ run. is_present task run && is_main run.kind)
      (λ run t. halted_keeps s.moment (λ (r : RunRow). is_present task r && is_main r.kind) run refl refl) s.runs)
      ∙ found (find (λ run. is_present task run && is_main run.kind) s.runs)
    where
      found : (o : Option RunRow)
          → option_and_then (λ (run : RunRow). ending_of run.state) (option_map (changed (is_run_of_stopped test s) (halted s.moment)) o)
          ≡ option_and_then (λ (run : RunRow). ending_of run.state) o
      found None = refl
      found (Some run) =
          same_changed (is_run_of_stopped test s) (halted s.moment) (λ (r : RunRow). ending_of r.state) run (λ t. ending_kept s.moment run)

  -- the rows within the limits
  limited_stopped : IsWithinLimits s → IsWithinLimits after
  limited_stopped h = record {
    rows = record {
      moment = h.rows.moment;
      pools = h.rows.pools;
      nodes = h.rows.nodes;
      jobs = h.rows.jobs;
      tasks = each_change_same (is_stopped test) (wanting want) (is_task_valid s.moment) (λ task t k. k) s.tasks h.rows.tasks;
      runs =
          each_change_same (is_run_of_stopped test s) (halted s.moment) (is_run_valid s.moment) (λ run t k. valid_kept s.moment run k) s.runs h.rows.runs;
      samples = h.rows.samples;
      scales = h.rows.scales;
    };
    counts = record {
      pools = h.counts.pools;
      jobs = h.counts.jobs;
      tasks = change_keeps_length (is_stopped test) (wanting want) task_limit s.tasks h.counts.tasks;
      first_node = h.counts.first_node;
      next_node = h.counts.next_node;
      first_run = h.counts.first_run;
      next_run = h.counts.next_run;
    };
    quiet =
        each_weaker (has_no_placed_if_quiet s) (has_no_placed_if_quiet after)
        (λ job k. rw (any_change_same (is_stopped test) (wanting want) (is_placed_in job.id) (λ task t. refl) s.tasks) k) s.jobs h.quiet;
    pools = record {
      deleting = h.pools.deleting;
      pools_of_scales = h.pools.pools_of_scales;
      pools_of_samples = h.pools.pools_of_samples;
      labels = h.pools.labels;
      order = h.pools.order;
      covered = h.pools.covered;
      kept = h.pools.kept;
    };
  }

  -- tasks that have a run of their present attempts in common are stopped together
  module _ (together : (one other : TaskRow) (run : RunRow) → is_present one run ≡ true → is_present other run ≡ true → test one ≡ true → test other ≡ true) where
    -- a halted run is not of the present attempt of a placed task that is not stopped
    not_present : (task : TaskRow) (run : RunRow) → test task ≡ false → is_run_of_stopped test s run ≡ true → is_present task run ≡ false
    not_present task run n t = either (is_present task run) refl
      where
        either : (b : Bool) → is_present task run ≡ b → b ≡ false
        either false e = refl
        either true e =
            let one = find_any (λ other. is_stopped test other && is_present other run) s.tasks t in
            let both : (is_stopped test one.0 && is_present one.0 run) ≡ true =
            find_test (λ other. is_stopped test other && is_present other run) one.0 s.tasks one.1 in
            let stopped : test one.0 ≡ true = and_second (is_placed one.0.stage) (test one.0) (and_first (is_stopped test one.0) (is_present one.0 run) both) in
            let also : test task ≡ true = together one.0 task run (and_second (is_stopped test one.0) (is_present one.0 run) both) e stopped in
            cc

    -- such a task is as busy as before
    busy_after : (task : TaskRow) → test task ≡ false → is_busy after task ≡ is_busy s task
    busy_after task n =
        any_change_same (is_run_of_stopped test s) (halted s.moment) (is_busy_for task)
        (λ run t. both_absent (is_present task run) (is_present task (halted s.moment run)) (is_unended run.state) (is_unended (halted s.moment run).state)
        (halted_keeps s.moment (is_present task) run refl refl) (not_present task run n t))
        s.runs

    -- it can be settled as before
    unstopped_settled : (task : TaskRow) → is_stopped test task ≡ false → can_be_settled s task ≡ true → can_be_settled after task ≡ true
    unstopped_settled task t h = either (is_placed task.stage) refl
      where
        off_second : (a b : Bool) → a ≡ true → (a && b) ≡ false → b ≡ false
        off_second true b e k = k
        off_second false b e k = cc

        either : (b : Bool) → is_placed task.stage ≡ b → can_be_settled after task ≡ true
        either false e = rw e refl
        either true e =
            settled_alike (is_placed task.stage) (is_busy s task) (is_busy after task) (not (is_undisturbed task)) (is_some (main_ending s task))
            (is_some (main_ending after task)) (busy_after task (off_second (is_placed task.stage) (test task) e t))
            (ap is_some (main_after task)) h

    -- the rows fit each other
    consistent_stopped : (seats : ℕ) → IsConsistent seats s → IsConsistent seats after
    consistent_stopped seats h = record {
      keys = record {
        pools = h.keys.pools;
        nodes = h.keys.nodes;
        jobs = h.keys.jobs;
        tasks = distinct_change (is_stopped test) (wanting want) same_task (λ x y t. refl) (λ x y t. refl) s.tasks h.keys.tasks;
        runs =
            distinct_change (is_run_of_stopped test s) (halted s.moment) same_run
            (λ x y t. halted_keeps s.moment (λ (r : RunRow). same_run r y) x refl refl)
            (λ x y t. halted_keeps s.moment (λ (r : RunRow). same_run x r) y refl refl) s.runs h.keys.runs;
        preps = h.keys.preps;
        samples = h.keys.samples;
        scales = h.keys.scales;
      };
      numbers = record {
        begun = h.numbers.begun;
        runs = each_alike (λ run. nat_lt run.number s.next_run) (λ run. refl) (λ run. refl) h.numbers.runs;
        nodes = h.numbers.nodes;
        nodes_of_runs = each_alike (λ run. nat_lt run.node s.next_node) (λ run. refl) (λ run. refl) h.numbers.nodes_of_runs;
        order = h.numbers.order;
      };
      fitting = record {
        marks =
            each_change (is_stopped test) (wanting want) has_fitting_marks has_fitting_marks
            (λ task t k. or_first _ (and_first (is_placed task.stage) (test task) t)) (λ task t k. k) s.tasks h.fitting.marks;
        closing = each_change_same (is_stopped test) (wanting want) is_closed_if_completed (λ task t k. k) s.tasks h.fitting.closing;
        attempts = each_change_same (is_stopped test) (wanting want) (λ task. nat_lt task.attempt s.next_run) (λ task t k. k) s.tasks h.fitting.attempts;
      };
      named = record {
        jobs_of_tasks = each_change_same (is_stopped test) (wanting want) (λ task. has_job_row s task.job) (λ task t k. k) s.tasks h.named.jobs_of_tasks;
        jobs_of_runs = each_alike (has_named_job s) (λ run. refl) (λ run. refl) h.named.jobs_of_runs;
        tasks_of_runs = each_run (has_named_task s) (has_named_task after) named_after named_after named_after h.named.tasks_of_runs;
        main_runs =
            distinct_change (is_run_of_stopped test s) (halted s.moment) are_one_attempt
            (λ x y t. halted_keeps s.moment (λ (r : RunRow). are_one_attempt r y) x refl refl)
            (λ x y t. halted_keeps s.moment (λ (r : RunRow). are_one_attempt x r) y refl refl) s.runs h.named.main_runs;
      };
      seated = record {
        distinct = h.seated.distinct;
        in_range = h.seated.in_range;
        few = h.seated.few;
        pools_of_nodes = h.seated.pools_of_nodes;
        nodes_of_runs = each_run (has_node_while_unended s) (has_node_while_unended s) (λ run k. refl) (λ run k. k) (λ run k. k) h.seated.nodes_of_runs;
      };
      belonging =
          each_run (belongs s) (belongs after) (λ run k. off_kind (is_work run.kind) (list_any (owns (withdrawn s.moment run)) after.tasks))
          belongs_after belongs_after h.belonging;
      ending =
          each_change (is_stopped test) (wanting want) (can_be_settled s) (can_be_settled after)
          (λ task t k. or_first (is_some (main_ending after (wanting want task)))
          (or_second (not (is_placed task.stage) || is_busy after (wanting want task)) refl))
          (λ task t k. unstopped_settled task t k) s.tasks h.ending;
      naming = record {
        on_nodes = each_alike (fits_nodes s) (λ run. refl) (λ run. refl) h.naming.on_nodes;
        of_jobs =
            each_run names_no_task names_no_task (λ run k. off_kind (is_preparation run.kind || is_release run.kind) _) (λ run k. k) (λ run k. k)
            h.naming.of_jobs;
      };
      slots = slots_suffice (held_slots after) (held_slots s) s.pools (λ node. omega (arith, slots_after node)) s.nodes h.slots;
      built = record {
        runs =
            each_run is_built is_built (λ run k. off_both (is_coordination run.kind)) (λ run k. k) (λ run k. k) h.built.runs;
      };
    }

    -- tasks are stopped
    pub sound_stopped : (seats : ℕ) → IsSound seats s → IsSound seats (stop test want s)
    sound_stopped seats h =
        let starts =
        starts_with_runs s after.runs
        (λ node. count_change_at_most (is_run_of_stopped test s) (halted s.moment) (λ run. true) (is_unended_start_on node)
        (λ run k t. start_before s.moment node run) s.runs (each_any (λ run. true) (λ run. refl) s.runs))
        (λ node k. any_change_same (is_run_of_stopped test s) (halted s.moment) (is_good_start node) (λ run t. good_kept s.moment node run) s.runs ∙ k)
        h.starts
        in
        record {
          consistent = consistent_stopped seats h.consistent;
          limited = limited_stopped h.limited;
          unended = each_run has_no_end_yet has_no_end_yet (λ run k. refl) (λ run k. k) (λ run k. k) h.unended;
          starts = record { usable = starts.usable; tries = starts.tries };
          preparing =
              preps_with_tasks (record s { runs = after.runs }) after.tasks
              (preps_with_runs (changed (is_run_of_stopped test s) (halted s.moment)) (λ run. keeps_changed (is_run_of_stopped test s) (halted s.moment) run (λ t. halted_kept s.moment run))
              s h.preparing);
          resting =
              rest_with_runs (changed (is_run_of_stopped test s) (halted s.moment)) (λ run. keeps_changed (is_run_of_stopped test s) (halted s.moment) run (λ t. halted_kept s.moment run))
              s h.resting;
        }
