-- Tables stay sound when a preparation or release run is queued on a node.
use Rattle.std.proofs.Common.{◌≡◌, ℕ, ◌+◌, ◌<◌, ◌≤◌, Bool, true, false, not, ◌&&◌, ◌||◌, nat_eq, nat_lt, List, [], ◌∷◌, ◌++◌, filter, sum_by, is_none, Some, refl, ap, arith}
use Rattle.std.specs.Option.{option_map_or}
use Rattle.std.specs.List.{list_any}
use Rattle.bt_base.specs.Ids.{same}
use Rattle.bt_rows.specs.Keys.{same_run}
use Rattle.batch_model.specs.Finding.{Each, names, last_number, has_number_left}
use Rattle.batch_model.specs.Rows.{is_node, add_run_row}
use Rattle.batch_model.specs.Runs.{is_start, is_main, is_work, is_coordination, is_preparation, is_release, is_present, is_busy_for, job_run}
use Rattle.batch_model.specs.Tasks.{is_placed}
use Rattle.batch_model.specs.Slots.{owns, holds_on, held_slots}
use Rattle.batch_model.specs.Sound.{IsConsistent, IsWithinLimits, IsSound, PreparationsAreSound, CompletedJobsRest, has_node_row, has_node_while_unended, belongs}
use Rattle.batch_model.specs.Sound.{can_be_settled, is_of_pool, fits_nodes, names_no_task, has_slots_for, has_no_end_yet}
use Rattle.batch_model.specs.WellFormed.{has_job_row, has_named_job, has_named_task, are_one_attempt, is_run_valid}
use Rattle.batch_model.specs.Variants.{State, NodeRow, TaskRow, RunRow, RunKind, StartRun, PrepRun, TaskRun, CoordinationRun, ReleaseRun}
use Rattle.model_lists.proofs.Tests.{and_true, true_not, or_second}
use Rattle.model_lists.proofs.RowLists.{each_any, each_append, each_weaker, find_append_same, any_append_same, none_any}
use Rattle.model_lists.proofs.DistinctLists.{distinct_append}
use Rattle.model_lists.proofs.NextNumbers.{below_other, below_next, below_own_next, is_not_after_itself, ordered}
use Rattle.model_tables.proofs.NotBuilt.{is_built}
use Rattle.model_tables.proofs.StartAdded.{row_below, row_in_range, left_in_range}
use Rattle.model_tables.proofs.StartsKept.{starts_run_added}

-- a run that is no task's is no main run, and no coordination run
idle_main : (kind : RunKind) → is_work kind ≡ false → is_main kind ≡ false
idle_main StartRun h = refl
idle_main PrepRun h = refl
idle_main TaskRun h = cc
idle_main CoordinationRun h = cc
idle_main ReleaseRun h = refl

idle_coordination : (kind : RunKind) → is_work kind ≡ false → is_coordination kind ≡ false
idle_coordination StartRun h = refl
idle_coordination PrepRun h = refl
idle_coordination TaskRun h = cc
idle_coordination CoordinationRun h = cc
idle_coordination ReleaseRun h = refl

-- what fails beside tests
off_first : (a b : Bool) → ((a && false) && b) ≡ false
off_first true b = refl
off_first false b = refl

off_last : (a : Bool) → (a && false) ≡ false
off_last true = refl
off_last false = refl

off_both : (a b : Bool) → b ≡ false → (a && b) ≡ false
off_both true b h = h
off_both false b h = refl

module _ (s : State) (number : ℕ) (pool : List ℕ) (what : RunKind) (text : List ℕ) (job : List ℕ) (idle : is_work what ≡ false) (other_than_start : is_start what ≡ false) where
  -- the new run, and the tables with it
  abbrev run : RunRow
  run = job_run s number pool what text job

  abbrev after : State
  after = add_run_row run s

  -- the run's number is no other run's
  number_is_new : Each (λ (each : RunRow). nat_lt each.number s.next_run) s.runs → list_any (λ (each : RunRow). same_run each run) s.runs ≡ false
  number_is_new below =
      none_any (λ (each : RunRow). same_run each run) s.runs
      (each_weaker (λ (each : RunRow). nat_lt each.number s.next_run) (λ (each : RunRow). not (same_run each run))
      (λ each l. true_not (below_other each.number s.next_run l)) s.runs below)

  -- it is no main run
  is_no_main_run : list_any (λ (each : RunRow). are_one_attempt each run) s.runs ≡ false
  is_no_main_run =
      none_any (λ (each : RunRow). are_one_attempt each run) s.runs
      (each_any (λ (each : RunRow). not (are_one_attempt each run))
      (λ each. true_not (off_both (is_main each.kind && is_main what && nat_eq each.attempt 0) (option_map_or (names each.job) (Some job) false && false)
      (off_last (option_map_or (names each.job) (Some job) false)))) s.runs)

  -- it is of no task, so that it holds no slots
  pub is_not_present : (task : TaskRow) → is_present task run ≡ false
  is_not_present task = off_first (names (Some job) task.job) (nat_eq 0 task.attempt)

  is_not_owned : list_any (owns run) s.tasks ≡ false
  is_not_owned =
      none_any (owns run) s.tasks
      (each_any (λ (task : TaskRow). not (owns run task)) (λ task. true_not (off_both (is_placed task.stage) (is_present task run) (is_not_present task))) s.tasks)

  holds_none : (on : ℕ) → holds_on s on run ≡ false
  holds_none on = off_both (nat_eq number on) (list_any (owns run) s.tasks) is_not_owned

  -- nodes hold the same slots
  pub slots_after : (on : ℕ) → held_slots after on ≡ held_slots s on
  slots_after on = ap (sum_by (λ (each : RunRow). each.slots)) (filter_append_none (holds_on s on) s.runs run (holds_none on))
    where
      filter_append_none : (p : RunRow → Bool) (xs : List RunRow) (x : RunRow) → p x ≡ false → filter p (xs ++ x ∷ []) ≡ filter p xs
      filter_append_none p [] x e = rw e refl
      filter_append_none p (y ∷ ys) x e = rw (filter_append_none p ys x e) refl

  -- a node's slots suffice
  slots_still : (each : NodeRow) → has_slots_for s each ≡ true → has_slots_for after each ≡ true
  slots_still each h = rw (slots_after each.number) h

  -- the run fits the nodes
  run_fits : Each (λ (other : NodeRow). not (is_node number other) || same other.pool pool) s.nodes → fits_nodes s run ≡ true
  run_fits =
      each_weaker (λ (other : NodeRow). not (is_node number other) || same other.pool pool) (is_of_pool run)
      (λ other k. beside (is_node number other) (same other.pool pool) (is_start what) (not (is_none (Some job) && true)) other_than_start k) s.nodes
    where
      beside : (a b c d : Bool) → c ≡ false → (not a || b) ≡ true → (not a || (b && not (c && d))) ≡ true
      beside true b true d n k = cc
      beside true b false d n k = and_true k refl
      beside false b c d n k = refl

  -- it settles no task, and keeps none busy
  settled_still : (task : TaskRow) → can_be_settled s task ≡ true → can_be_settled after task ≡ true
  settled_still task h =
      rw (
        any_append_same (is_busy_for task) s.runs run (absent (is_present task run) true (is_not_present task)),
        find_append_same (λ (each : RunRow). is_present task each && is_main each.kind) s.runs run (absent (is_present task run) (is_main what) (is_not_present task)),
      ) h
    where
      absent : (a b : Bool) → a ≡ false → (a && b) ≡ false
      absent a b e = rw e refl

  module _ (there : has_node_row s number ≡ true) (in_pool : Each (λ (other : NodeRow). not (is_node number other) || same other.pool pool) s.nodes)
      (job_there : has_job_row s job ≡ true) where
    -- the rows fit each other
    pub consistent_job_run_added : (seats : ℕ) → IsConsistent seats s → IsConsistent seats (add_run_row (job_run s number pool what text job) s)
    consistent_job_run_added seats h = record {
      keys = record {
        pools = h.keys.pools;
        nodes = h.keys.nodes;
        jobs = h.keys.jobs;
        tasks = h.keys.tasks;
        runs = distinct_append same_run s.runs run h.keys.runs (number_is_new h.numbers.runs);
        preps = h.keys.preps;
        samples = h.keys.samples;
        scales = h.keys.scales;
      };
      numbers = record {
        begun = let b : 0 < s.next_run = h.numbers.begun in omega arith;
        runs =
            each_append (λ (each : RunRow). nat_lt each.number (s.next_run + 1)) s.runs run
            (each_weaker (λ (each : RunRow). nat_lt each.number s.next_run) (λ (each : RunRow). nat_lt each.number (s.next_run + 1))
            (λ each. below_next each.number s.next_run) s.runs h.numbers.runs)
            (below_own_next s.next_run);
        nodes = h.numbers.nodes;
        nodes_of_runs =
            each_append (λ (each : RunRow). nat_lt each.node s.next_node) s.runs run h.numbers.nodes_of_runs (row_below s number there h.numbers.nodes);
        order = h.numbers.order;
      };
      fitting = record {
        marks = h.fitting.marks;
        closing = h.fitting.closing;
        attempts =
            each_weaker (λ (task : TaskRow). nat_lt task.attempt s.next_run) (λ (task : TaskRow). nat_lt task.attempt (s.next_run + 1))
            (λ task. below_next task.attempt s.next_run) s.tasks h.fitting.attempts;
      };
      named = record {
        jobs_of_tasks = h.named.jobs_of_tasks;
        jobs_of_runs = each_append (has_named_job s) s.runs run h.named.jobs_of_runs job_there;
        tasks_of_runs = each_append (has_named_task s) s.runs run h.named.tasks_of_runs refl;
        main_runs = distinct_append are_one_attempt s.runs run h.named.main_runs is_no_main_run;
      };
      seated = record {
        distinct = h.seated.distinct;
        in_range = h.seated.in_range;
        few = h.seated.few;
        pools_of_nodes = h.seated.pools_of_nodes;
        nodes_of_runs = each_append (has_node_while_unended s) s.runs run h.seated.nodes_of_runs there;
      };
      belonging = each_append (belongs s) s.runs run h.belonging (rw idle refl);
      ending = each_weaker (can_be_settled s) (can_be_settled after) settled_still s.tasks h.ending;
      naming = record {
        on_nodes = each_append (fits_nodes s) s.runs run h.naming.on_nodes (run_fits in_pool);
        of_jobs = each_append names_no_task s.runs run h.naming.of_jobs (or_second (not ((is_preparation what || is_release what) && true)) refl);
      };
      slots = each_weaker (has_slots_for s) (has_slots_for after) slots_still s.nodes h.slots;
      built = record {
        runs = each_append is_built s.runs run h.built.runs (rw (idle_coordination what idle) refl);
      };
    }

    -- while run numbers last
    pub limited_job_run_added : IsWithinLimits s → has_number_left s.next_run ≡ true → IsWithinLimits (add_run_row (job_run s number pool what text job) s)
    limited_job_run_added h left =
        let most : s.next_run ≤ last_number = ordered s.next_run last_number left in
        record {
          rows = record {
            moment = h.rows.moment;
            pools = h.rows.pools;
            nodes = h.rows.nodes;
            jobs = h.rows.jobs;
            tasks = h.rows.tasks;
            runs =
                each_append (is_run_valid s.moment) s.runs run h.rows.runs
                (and_true
                (and_true (and_true (and_true (left_in_range s.next_run 63 h.counts.first_run left) refl) (row_in_range s number there h.rows.nodes)) (and_true (and_true (is_not_after_itself s.moment) refl) refl))
                refl);
            samples = h.rows.samples;
            scales = h.rows.scales;
          };
          counts = record {
            pools = h.counts.pools;
            jobs = h.counts.jobs;
            tasks = h.counts.tasks;
            first_node = h.counts.first_node;
            next_node = h.counts.next_node;
            first_run = omega arith;
            next_run = omega (arith, most);
          };
          quiet = h.quiet;
          pools = record {
            deleting = h.pools.deleting;
            pools_of_scales = h.pools.pools_of_scales;
            pools_of_samples = h.pools.pools_of_samples;
            labels = h.pools.labels;
            order = h.pools.order;
            covered = h.pools.covered;
            kept = h.pools.kept;
          };
        }

    -- with sound preparations, and jobs that rest
    pub sound_job_run_added : (seats : ℕ) → IsSound seats s → has_number_left s.next_run ≡ true
        → PreparationsAreSound (add_run_row (job_run s number pool what text job) s) → CompletedJobsRest (add_run_row (job_run s number pool what text job) s)
        → IsSound seats (add_run_row (job_run s number pool what text job) s)
    sound_job_run_added seats h left preparing resting =
        let starts = starts_run_added s run h.starts in
        record {
          consistent = consistent_job_run_added seats h.consistent;
          limited = limited_job_run_added h.limited left;
          unended = each_append has_no_end_yet s.runs run h.unended refl;
          starts = record { usable = starts.usable; tries = starts.tries };
          preparing = preparing;
          resting = resting;
        }
