-- Tables stay sound when a start run is queued on a node.
use Rattle.std.proofs.Common.{◌≡◌, ℕ, ◌+◌, ◌<◌, Bool, true, false, not, ◌&&◌, ◌||◌, nat_eq, nat_lt, List, [], ◌∷◌, ◌++◌, filter, sum_by, refl, ap, arith, subst, ◌≤◌}
use Rattle.std.specs.List.{list_any}
use Rattle.bt_base.specs.Ids.{same}
use Rattle.bt_rows.specs.Keys.{same_run}
use Rattle.batch_model.specs.Finding.{Each}
use Rattle.batch_model.specs.Rows.{is_node, add_run_row}
use Rattle.batch_model.specs.Runs.{is_main, is_coordination, is_unended, is_present, is_busy_for, start_run}
use Rattle.batch_model.specs.Tasks.{is_placed}
use Rattle.batch_model.specs.Slots.{owns, holds_on, held_slots}
use Rattle.batch_model.specs.Sound.{IsConsistent, has_node_row, has_node_while_unended, belongs, can_be_settled, is_of_pool, fits_nodes, names_no_task}
use Rattle.batch_model.specs.Sound.{has_slots_for}
use Rattle.batch_model.specs.WellFormed.{has_named_job, has_named_task, are_one_attempt}
use Rattle.batch_model.specs.Variants.{State, StartTask, NodeRow, TaskRow, RunRow}
use Rattle.model_lists.proofs.Tests.{and_true, and_first, true_not}
use Rattle.model_lists.proofs.RowLists.{each_any, each_append, each_weaker, each_found, find_any, find_test, find_append_same, any_append_same, none_any}
use Rattle.model_lists.proofs.DistinctLists.{distinct_append}
use Rattle.model_lists.proofs.NextNumbers.{below_other, below_next, below_own_next, equal_below}
use Rattle.bt_rows.specs.Ranges.{is_from_to}
use Rattle.batch_model.specs.Finding.{last_number, has_number_left}
use Rattle.batch_model.specs.Limits.{seat_limit}
use Rattle.batch_model.specs.Sound.{IsWithinLimits}
use Rattle.batch_model.specs.WellFormed.{is_node_number, is_node_in_range, is_run_valid}
use Rattle.model_lists.proofs.NextNumbers.{is_not_after_itself, tested, ordered, equal}
use Rattle.batch_model.specs.Sound.{has_no_end_yet, UnendedRunsHaveNoEnd}

-- the node has a row, and each row with its number stands in its pool
pub record HasNode (s : State) (node : NodeRow) : Type 0 where
  pub there : has_node_row s node.number ≡ true
  pub in_pool : Each (λ (other : NodeRow). not (is_node node.number other) || same other.pool node.pool) s.nodes

-- what fails beside a test
and_none : (a : Bool) → (a && false) ≡ false
and_none true = refl
and_none false = refl

-- a number that some row has is below the next one
pub row_below : (s : State) (number : ℕ) → has_node_row s number ≡ true → Each (λ (node : NodeRow). nat_lt node.number s.next_node) s.nodes
    → nat_lt number s.next_node ≡ true
row_below s number there below =
    let row = find_any (is_node number) s.nodes there in
    equal_below row.0.number number s.next_node (find_test (is_node number) row.0 s.nodes row.1)
    (each_found (λ (node : NodeRow). nat_lt node.number s.next_node) (is_node number) row.0 s.nodes row.1 below)

-- a number that some row has is in its range
pub row_in_range : (s : State) (number : ℕ) → has_node_row s number ≡ true → Each is_node_in_range s.nodes → is_node_number number ≡ true
row_in_range s number there valid =
    let row = find_any (is_node number) s.nodes there in
    let in_range : is_node_in_range row.0 ≡ true = each_found is_node_in_range (is_node number) row.0 s.nodes row.1 valid in
    same_in_range row.0.number number (find_test (is_node number) row.0 s.nodes row.1)
    (and_first (is_node_number row.0.number) (is_from_to 1 seat_limit row.0.seat) in_range)
  where
    same_in_range : (a b : ℕ) → nat_eq a b ≡ true → is_node_number a ≡ true → is_node_number b ≡ true
    same_in_range a b e h =
        let is : a ≡ b = equal a b e in
        subst (λ n. is_node_number n ≡ true) is h

module _ (s : State) (node : NodeRow) (start : StartTask) where
  -- the new run, and the tables with it
  abbrev run : RunRow
  run = start_run s node start

  abbrev after : State
  after = add_run_row run s

  -- the run's number is no other run's
  number_is_new : Each (λ (each : RunRow). nat_lt each.number s.next_run) s.runs → list_any (λ (each : RunRow). same_run each run) s.runs ≡ false
  number_is_new below =
      none_any (λ (each : RunRow). same_run each run) s.runs
      (each_weaker (λ (each : RunRow). nat_lt each.number s.next_run) (λ (each : RunRow). not (same_run each run))
      (λ each l. true_not (below_other each.number s.next_run l)) s.runs below)

  -- it is no main run
  is_no_main_run : list_any (λ (each : RunRow). are_one_attempt each run) s.runs ≡ false
  is_no_main_run =
      none_any (λ (each : RunRow). are_one_attempt each run) s.runs
      (each_any (λ (each : RunRow). not (are_one_attempt each run)) (λ each. rw (and_none (is_main each.kind)) refl) s.runs)

  -- it is of no task, so that it holds no slots
  is_not_owned : list_any (owns run) s.tasks ≡ false
  is_not_owned =
      none_any (owns run) s.tasks
      (each_any (λ (task : TaskRow). not (owns run task)) (λ task. rw (and_none (is_placed task.stage)) refl) s.tasks)

  holds_none : (number : ℕ) → holds_on s number run ≡ false
  holds_none number = rw is_not_owned (and_none (nat_eq node.number number))

  -- nodes hold the same slots
  slots_after : (number : ℕ) → held_slots after number ≡ held_slots s number
  slots_after number = ap (sum_by (λ (each : RunRow). each.slots)) (filter_append_none (holds_on s number) s.runs run (holds_none number))
    where
      filter_append_none : (p : RunRow → Bool) (xs : List RunRow) (x : RunRow) → p x ≡ false → filter p (xs ++ x ∷ []) ≡ filter p xs
      filter_append_none p [] x e = rw e refl
      filter_append_none p (y ∷ ys) x e = rw (filter_append_none p ys x e) refl

  -- a node's slots suffice
  slots_still : (each : NodeRow) → has_slots_for s each ≡ true → has_slots_for after each ≡ true
  slots_still each h = rw (slots_after each.number) h

  -- the run fits the nodes
  run_fits : Each (λ (other : NodeRow). not (is_node node.number other) || same other.pool node.pool) s.nodes → fits_nodes s run ≡ true
  run_fits =
      each_weaker (λ (other : NodeRow). not (is_node node.number other) || same other.pool node.pool) (is_of_pool run)
      (λ other k. beside (is_node node.number other) (same other.pool node.pool) k) s.nodes
    where
      beside : (a b : Bool) → (not a || b) ≡ true → (not a || (b && true)) ≡ true
      beside true b k = and_true k refl
      beside false b k = refl

  -- it settles no task, and keeps none busy
  settled_still : (task : TaskRow) → can_be_settled s task ≡ true → can_be_settled after task ≡ true
  settled_still task h =
      rw (any_append_same (is_busy_for task) s.runs run refl, find_append_same (λ (each : RunRow). is_present task each && is_main each.kind) s.runs run refl) h

-- a start run on a node that is there keeps tables sound
pub consistent_start_added : (seats : ℕ) (s : State) (node : NodeRow) (start : StartTask) → IsConsistent seats s → HasNode s node
    → IsConsistent seats (add_run_row (start_run s node start) s)
consistent_start_added seats s node start h has = record {
  keys = record {
    pools = h.keys.pools;
    nodes = h.keys.nodes;
    jobs = h.keys.jobs;
    tasks = h.keys.tasks;
    runs = distinct_append same_run s.runs (start_run s node start) h.keys.runs (number_is_new s node start h.numbers.runs);
    preps = h.keys.preps;
    samples = h.keys.samples;
    scales = h.keys.scales;
  };
  numbers = record {
    begun = let b : 0 < s.next_run = h.numbers.begun in omega arith;
    runs =
        each_append (λ (each : RunRow). nat_lt each.number (s.next_run + 1)) s.runs (start_run s node start)
        (each_weaker (λ (each : RunRow). nat_lt each.number s.next_run) (λ (each : RunRow). nat_lt each.number (s.next_run + 1))
        (λ each. below_next each.number s.next_run) s.runs h.numbers.runs)
        (below_own_next s.next_run);
    nodes = h.numbers.nodes;
    nodes_of_runs =
        each_append (λ (each : RunRow). nat_lt each.node s.next_node) s.runs (start_run s node start) h.numbers.nodes_of_runs
        (row_below s node.number has.there h.numbers.nodes);
    order = h.numbers.order;
  };
  fitting = record {
    marks = h.fitting.marks;
    closing = h.fitting.closing;
    attempts =
        each_weaker (λ (task : TaskRow). nat_lt task.attempt s.next_run) (λ (task : TaskRow). nat_lt task.attempt (s.next_run + 1))
        (λ task. below_next task.attempt s.next_run) s.tasks h.fitting.attempts;
  };
  named = record {
    jobs_of_tasks = h.named.jobs_of_tasks;
    jobs_of_runs = each_append (has_named_job s) s.runs (start_run s node start) h.named.jobs_of_runs refl;
    tasks_of_runs = each_append (has_named_task s) s.runs (start_run s node start) h.named.tasks_of_runs refl;
    main_runs = distinct_append are_one_attempt s.runs (start_run s node start) h.named.main_runs (is_no_main_run s node start);
  };
  seated = record {
    distinct = h.seated.distinct;
    in_range = h.seated.in_range;
    few = h.seated.few;
    pools_of_nodes = h.seated.pools_of_nodes;
    nodes_of_runs = each_append (has_node_while_unended s) s.runs (start_run s node start) h.seated.nodes_of_runs has.there;
  };
  belonging = each_append (belongs s) s.runs (start_run s node start) h.belonging refl;
  ending =
      each_weaker (can_be_settled s) (can_be_settled (add_run_row (start_run s node start) s)) (settled_still s node start) s.tasks h.ending;
  naming = record {
    on_nodes = each_append (fits_nodes s) s.runs (start_run s node start) h.naming.on_nodes (run_fits s node start has.in_pool);
    of_jobs = each_append names_no_task s.runs (start_run s node start) h.naming.of_jobs refl;
  };
  slots = each_weaker (has_slots_for s) (has_slots_for (add_run_row (start_run s node start) s)) (slots_still s node start) s.nodes h.slots;
  built = record {
    runs =
        each_append (λ (each : RunRow). not (is_coordination each.kind && is_unended each.state)) s.runs
        (start_run s node start) h.built.runs refl;
  };
}

-- within the limits

-- the next number, where it is left, is in its range
pub left_in_range : (next more : ℕ) → 1 ≤ next → has_number_left next ≡ true → is_from_to 1 (last_number + more) next ≡ true
left_in_range next more first left =
    let most : next ≤ last_number = ordered next last_number left in
    and_true (tested 1 next first) (tested next (last_number + more) (omega (arith, most)))

-- a start run

-- the new run is valid
start_valid : (s : State) (node : NodeRow) (start : StartTask) → 1 ≤ s.next_run → has_number_left s.next_run ≡ true → is_node_number node.number ≡ true
    → is_run_valid s.moment (start_run s node start) ≡ true
start_valid s node start first left numbered =
    and_true
    (and_true
    (and_true (and_true (left_in_range s.next_run 63 first left) refl) numbered)
    (and_true (and_true (is_not_after_itself s.moment) refl) refl))
    refl

-- while run numbers last
pub limited_start_added : (s : State) (node : NodeRow) (start : StartTask) → IsWithinLimits s → has_number_left s.next_run ≡ true
    → is_node_number node.number ≡ true → IsWithinLimits (add_run_row (start_run s node start) s)
limited_start_added s node start h left numbered =
    let most : s.next_run ≤ last_number = ordered s.next_run last_number left in
    record {
      rows = record {
        moment = h.rows.moment;
        pools = h.rows.pools;
        nodes = h.rows.nodes;
        jobs = h.rows.jobs;
        tasks = h.rows.tasks;
        runs = each_append (is_run_valid s.moment) s.runs (start_run s node start) h.rows.runs (start_valid s node start h.counts.first_run left numbered);
        samples = h.rows.samples;
        scales = h.rows.scales;
      };
      counts = record {
        pools = h.counts.pools;
        jobs = h.counts.jobs;
        tasks = h.counts.tasks;
        first_node = h.counts.first_node;
        next_node = h.counts.next_node;
        first_run = omega arith;
        next_run = omega (arith, most);
      };
      quiet = h.quiet;
      pools = record {
        deleting = h.pools.deleting;
        pools_of_scales = h.pools.pools_of_scales;
        pools_of_samples = h.pools.pools_of_samples;
        labels = h.pools.labels;
        order = h.pools.order;
        covered = h.pools.covered;
        kept = h.pools.kept;
      };
    }

-- a new start run has no end
pub unended_start_added : (s : State) (node : NodeRow) (start : StartTask) → UnendedRunsHaveNoEnd s
    → UnendedRunsHaveNoEnd (add_run_row (start_run s node start) s)
unended_start_added s node start h = each_append has_no_end_yet s.runs (start_run s node start) h refl
