-- The rule that adds a node keeps sound tables, and lowers the rank.
use Rattle.std.proofs.Common.{◌≡◌, ℕ, zero, suc, ◌+◌, ◌≤◌, Bool, true, false, not, ◌&&◌, ◌||◌, nat_eq, nat_lt, nat_le, List, [], ◌∷◌, Option, Some, None, find}
use Rattle.std.proofs.Common.{filter, sum_by, cond, refl, ap, arith, ◌<◌, inl, inr, option_and_then, subst}
use Rattle.std.specs.List.{list_any, list_all, range_with_len, find}
use Rattle.std.proofs.lemmas.Bool.Decides.{nat_tests, Decides-ltb}
use Rattle.bt_base.specs.Ids.{same}
use Rattle.bt_base.proofs.SameIds.{same_equiv}
use Rattle.bt_base.proofs.Turns.{lex_lt, lex_first, lex_next}
use Rattle.bt_rows.specs.Keys.{same_node, same_pool, same_pool_equiv}
use Rattle.bt_rows.specs.Ranges.{is_from_to}
use Rattle.bt_rows.specs.Lists.{AreDistinct}
use Rattle.bt_rows.proofs.DistinctRows.{found_first, find-passes}
use Rattle.batch_model.specs.Finding.{Each, last_number, has_number_left}
use Rattle.batch_model.specs.Limits.{seat_limit}
use Rattle.batch_model.specs.Rows.{is_pool, is_node, add_node_row}
use Rattle.batch_model.specs.Nodes.{is_leaving, is_in_pool}
use Rattle.batch_model.specs.Runs.{is_unended, start_run, is_start}
use Rattle.batch_model.specs.Pools.{free_seat, waits_for_start, staying_count}
use Rattle.batch_model.specs.Slots.{holds_on, held_slots}
use Rattle.batch_model.specs.Dues.{lacks_node, new_node, begin_start, node_added}
use Rattle.batch_model.specs.Dues.{add_on, add_node}
use Rattle.batch_model.specs.Sound.{IsConsistent, are_out_of_order, has_node_row, share_seat, has_node_while_unended, is_of_pool, fits_nodes, has_slots_for}
use Rattle.batch_model.specs.Sound.{IsWithinLimits, UnendedRunsHaveNoEnd, StartsAreSound, IsSound, awaits_no_start, has_usable_start}
use Rattle.batch_model.specs.WellFormed.{has_pool_row, is_node_number, is_node_in_range, is_unended_start_on, has_few_tries}
use Rattle.batch_model.specs.Variants.{State, PoolRow, StartTask, NodeRow, Starting, Usable, RunRow}
use Rattle.batch_model.specs.Variants.{NodeStage}
use Rattle.batch_model.specs.Steps.{DueStep}
use Rattle.batch_model.specs.Measure.{leaving_count, steps_of_pool, pools_left, rank}
use Rattle.model_lists.proofs.Tests.{or_first, or_second, and_true, not_true, true_not, and_first, and_second, passes_or_not}
use Rattle.model_lists.proofs.RowLists.{each_append, each_any, each_weaker, each_of_two, each_found, find_test, any_append_old, any_append_new, any_found}
use Rattle.model_lists.proofs.RowLists.{none_any}
use Rattle.model_lists.proofs.DistinctLists.{distinct_append, each_with_key}
use Rattle.model_lists.proofs.NextNumbers.{below_other, below_other_back, below_not_above, below_next, below_own_next, is_itself, tested}
use Rattle.model_lists.proofs.NextNumbers.{ordered}
use Rattle.model_lists.proofs.RowSums.{count_none}
use Rattle.model_tables.proofs.StartAdded.{HasNode, consistent_start_added, limited_start_added, unended_start_added}
use Rattle.model_tables.proofs.StartsKept.{starts_on, starts_node_added, starts_run_added}
use Rattle.std.proofs.Common.{sym, ◌∙◌}
use Rattle.std.specs.Cmp.{nat_eq_equiv}
use Rattle.batch_model.specs.Runs.{is_open_preparation}
use Rattle.batch_model.specs.Variants.{JobRow}
use Rattle.model_lists.proofs.RowLists.{any_append_same}
use Rattle.batch_model.specs.Jobs.{is_job_completed}
use Rattle.batch_model.specs.JobRules.{is_unended_of}
use Rattle.batch_model.specs.Sound.{PreparationsAreSound, CompletedJobsRest, prepare_the_same}
use Rattle.model_tables.proofs.PrepsKept.{preps_with_nodes, preps_run_added, rest_run_added}
use Rattle.model_rules.proofs.Rules.{IsDueKept, from_map, from_then, from_only_if}
use Rattle.model_rules.proofs.NodeCounts.{one_if, counts_one, counts_nothing, staying_added, leaving_added, counts_staying, counts_no_leaving, in_pool_as, pools_fall}

-- consistent

-- each number of a range is in it
range_within : (low high a n : ℕ) → low ≤ a → a + n ≤ high + 1 → Each (is_from_to low high) (range_with_len a n)
range_within low high a zero h k = refl
range_within low high a (suc n) h k =
    and_true (and_true (reaches low a h) (reaches a high (omega arith))) (range_within low high (a + 1) n (omega arith) (omega arith))
  where
    reaches : (b c : ℕ) → b ≤ c → nat_le b c ≡ true
    reaches b c m = grind (arith, nat_tests)

-- where no row passes, none is kept
filter_none : {R : Type 0} (p : R → Bool) (xs : List R) → Each (λ x. not (p x)) xs → filter p xs ≡ []
filter_none p [] h = refl
filter_none p (x ∷ xs) h = kept (p x) h (filter_none p xs)
  where
    kept : (b : Bool) → (not b && list_all (λ y. not (p y)) xs) ≡ true → (Each (λ y. not (p y)) xs → filter p xs ≡ [])
        → cond b (x ∷ filter p xs) (filter p xs) ≡ []
    kept true k ih = cc
    kept false k ih = ih k

-- a seat that is found is one of the machine's, of which there are at most 32
seat_in_range : (seats : ℕ) (s : State) (seat : ℕ) → seats ≤ seat_limit → free_seat seats s ≡ Some seat → is_from_to 1 seat_limit seat ≡ true
seat_in_range seats s seat few free =
    each_found (is_from_to 1 seat_limit) (λ (place : ℕ). not (list_any (λ (node : NodeRow). nat_eq node.seat place) s.nodes)) seat (range_with_len 1 seats) free
    (range_within 1 seat_limit 1 seats (omega arith) (omega (arith, few)))

-- the tables with the new node, whose start task is not begun yet
abbrev with_row : State → PoolRow → ℕ → State
with_row s pool seat = add_node_row (new_node s pool seat) s

module _ (seats : ℕ) (s : State) (pool : PoolRow) (seat : ℕ) (h : IsConsistent seats s) where
  -- the new node's number is no other node's
  number_is_new : list_any (λ (node : NodeRow). nat_eq node.number s.next_node) s.nodes ≡ false
  number_is_new =
      none_any (λ (node : NodeRow). nat_eq node.number s.next_node) s.nodes
      (each_weaker (λ (node : NodeRow). nat_lt node.number s.next_node) (λ (node : NodeRow). not (nat_eq node.number s.next_node))
      (λ node l. true_not (below_other node.number s.next_node l)) s.nodes h.numbers.nodes)

  -- the new node has the highest number
  number_is_last : list_any (λ (node : NodeRow). are_out_of_order node (new_node s pool seat)) s.nodes ≡ false
  number_is_last =
      none_any (λ (node : NodeRow). are_out_of_order node (new_node s pool seat)) s.nodes
      (each_weaker (λ (node : NodeRow). nat_lt node.number s.next_node) (λ (node : NodeRow). not (are_out_of_order node (new_node s pool seat)))
      (λ node l. true_not (below_not_above node.number s.next_node l)) s.nodes h.numbers.nodes)

  -- no run is on the new node, so it holds no slots
  holds_none : held_slots s s.next_node ≡ 0
  holds_none =
      ap (sum_by (λ (run : RunRow). run.slots))
      (filter_none (holds_on s s.next_node) s.runs
      (each_weaker (λ (run : RunRow). nat_lt run.node s.next_node) (λ (run : RunRow). not (holds_on s s.next_node run))
      (λ run l. rw (below_other run.node s.next_node l) refl) s.runs h.numbers.nodes_of_runs))

  -- each run fits the nodes
  run_fits : (run : RunRow) → nat_lt run.node s.next_node ≡ true → fits_nodes s run ≡ true → fits_nodes (with_row s pool seat) run ≡ true
  run_fits run l k =
      each_append (is_of_pool run) s.nodes (new_node s pool seat) k (or_first _ (true_not (below_other_back run.node s.next_node l)))

  -- the slots of its pool suffice
  slots_suffice : has_slots_for (with_row s pool seat) (new_node s pool seat) ≡ true
  slots_suffice =
      each_any (λ (other : PoolRow). not (is_pool pool.id other) || nat_le (held_slots s s.next_node) other.slots)
      (λ other. or_second (not (is_pool pool.id other)) (none_is_enough (held_slots s s.next_node) other.slots holds_none)) s.pools
    where
      none_is_enough : (a b : ℕ) → a ≡ 0 → nat_le a b ≡ true
      none_is_enough a b e = grind (arith, nat_tests)

  -- a run that has not ended still has its node
  node_there : (run : RunRow) → has_node_while_unended s run ≡ true → has_node_while_unended (with_row s pool seat) run ≡ true
  node_there run k = either (not (is_unended run.state)) k
    where
      either : (b : Bool) → (b || has_node_row s run.node) ≡ true → (b || has_node_row (with_row s pool seat) run.node) ≡ true
      either true m = refl
      either false m = any_append_old (is_node run.node) s.nodes (new_node s pool seat) m

-- a node that is added keeps tables sound
consistent_row : (seats : ℕ) (s : State) (pool : PoolRow) (seat : ℕ) → IsConsistent seats s → free_seat seats s ≡ Some seat
    → find (lacks_node s) s.pools ≡ Some pool → IsConsistent seats (with_row s pool seat)
consistent_row seats s pool seat h free f = record {
  keys = record {
    pools = h.keys.pools;
    nodes = distinct_append same_node s.nodes (new_node s pool seat) h.keys.nodes (number_is_new seats s pool seat h);
    jobs = h.keys.jobs;
    tasks = h.keys.tasks;
    runs = h.keys.runs;
    preps = h.keys.preps;
    samples = h.keys.samples;
    scales = h.keys.scales;
  };
  numbers = record {
    begun = h.numbers.begun;
    runs = h.numbers.runs;
    nodes =
        each_append (λ (node : NodeRow). nat_lt node.number (s.next_node + 1)) s.nodes (new_node s pool seat)
        (each_weaker (λ (node : NodeRow). nat_lt node.number s.next_node) (λ (node : NodeRow). nat_lt node.number (s.next_node + 1))
        (λ node. below_next node.number s.next_node) s.nodes h.numbers.nodes)
        (below_own_next s.next_node);
    nodes_of_runs =
        each_weaker (λ (run : RunRow). nat_lt run.node s.next_node) (λ (run : RunRow). nat_lt run.node (s.next_node + 1))
        (λ run. below_next run.node s.next_node) s.runs h.numbers.nodes_of_runs;
    order = distinct_append are_out_of_order s.nodes (new_node s pool seat) h.numbers.order (number_is_last seats s pool seat h);
  };
  fitting = record { marks = h.fitting.marks; closing = h.fitting.closing; attempts = h.fitting.attempts };
  named = record {
    jobs_of_tasks = h.named.jobs_of_tasks;
    jobs_of_runs = h.named.jobs_of_runs;
    tasks_of_runs = h.named.tasks_of_runs;
    main_runs = h.named.main_runs;
  };
  seated = record {
    distinct =
        distinct_append share_seat s.nodes (new_node s pool seat) h.seated.distinct
        (not_true _ (find_test (λ (place : ℕ). not (list_any (λ (node : NodeRow). nat_eq node.seat place) s.nodes)) seat (range_with_len 1 seats) free));
    in_range =
        each_append (λ (node : NodeRow). is_from_to 1 seats node.seat) s.nodes (new_node s pool seat) h.seated.in_range
        (each_found (is_from_to 1 seats) (λ (place : ℕ). not (list_any (λ (node : NodeRow). nat_eq node.seat place) s.nodes)) seat (range_with_len 1 seats) free
        (range_within 1 seats 1 seats (omega arith) (omega arith)));
    few = h.seated.few;
    pools_of_nodes =
        each_append (λ (node : NodeRow). has_pool_row s node.pool) s.nodes (new_node s pool seat) h.seated.pools_of_nodes
        (any_found (is_pool pool.id) (lacks_node s) pool s.pools f (same_equiv.refl pool.id));
    nodes_of_runs =
        each_weaker (has_node_while_unended s) (has_node_while_unended (with_row s pool seat)) (node_there seats s pool seat h)
        s.runs h.seated.nodes_of_runs;
  };
  belonging = h.belonging;
  ending = h.ending;
  naming = record {
    on_nodes =
        each_of_two (λ (run : RunRow). nat_lt run.node s.next_node) (fits_nodes s) (fits_nodes (with_row s pool seat))
        (run_fits seats s pool seat h) s.runs h.numbers.nodes_of_runs h.naming.on_nodes;
    of_jobs = h.naming.of_jobs;
  };
  slots = each_append (has_slots_for s) s.nodes (new_node s pool seat) h.slots (slots_suffice seats s pool seat h);
  built = record { runs = h.built.runs };
}

-- the new node is there
has_row : (seats : ℕ) (s : State) (pool : PoolRow) (seat : ℕ) → IsConsistent seats s → HasNode (with_row s pool seat) (new_node s pool seat)
has_row seats s pool seat h = record {
  there = any_append_new (is_node s.next_node) s.nodes (new_node s pool seat) (is_itself s.next_node);
  in_pool =
      each_append (λ (other : NodeRow). not (is_node s.next_node other) || same other.pool pool.id) s.nodes (new_node s pool seat)
      (each_weaker (λ (other : NodeRow). nat_lt other.number s.next_node) (λ (other : NodeRow). not (is_node s.next_node other) || same other.pool pool.id)
      (λ other l. or_first _ (true_not (below_other other.number s.next_node l))) s.nodes h.numbers.nodes)
      (or_second _ (same_equiv.refl pool.id));
}

-- a start task that begins on a node that is there keeps tables sound
consistent_begun : (seats : ℕ) (s : State) (node : NodeRow) (start : Option StartTask) → IsConsistent seats s → HasNode s node
    → IsConsistent seats (begin_start start node s)
consistent_begun seats s node None h has = h
consistent_begun seats s node (Some start) h has = consistent_start_added seats s node start h has

-- a pool that gets a node, on which its start task begins, keeps tables sound
consistent_node_added : (seats : ℕ) (s : State) (pool : PoolRow) (seat : ℕ) → IsConsistent seats s → free_seat seats s ≡ Some seat
    → find (lacks_node s) s.pools ≡ Some pool → IsConsistent seats (node_added s seat pool).state
consistent_node_added seats s pool seat h free f =
    consistent_begun seats (with_row s pool seat) (new_node s pool seat) pool.start (consistent_row seats s pool seat h free f) (has_row seats s pool seat h)

-- within the limits

-- while node numbers last
limited_row : (s : State) (pool : PoolRow) (seat : ℕ) → IsWithinLimits s → has_number_left s.next_node ≡ true → is_from_to 1 seat_limit seat ≡ true
    → IsWithinLimits (add_node_row (new_node s pool seat) s)
limited_row s pool seat h left in_range =
    let most : s.next_node ≤ last_number = ordered s.next_node last_number left in
    record {
      rows = record {
        moment = h.rows.moment;
        pools = h.rows.pools;
        nodes =
            each_append is_node_in_range s.nodes (new_node s pool seat) h.rows.nodes
            (and_true (and_true (tested 1 s.next_node h.counts.first_node) left) in_range);
        jobs = h.rows.jobs;
        tasks = h.rows.tasks;
        runs = h.rows.runs;
        samples = h.rows.samples;
        scales = h.rows.scales;
      };
      counts = record {
        pools = h.counts.pools;
        jobs = h.counts.jobs;
        tasks = h.counts.tasks;
        first_node = omega arith;
        next_node = omega (arith, most);
        first_run = h.counts.first_run;
        next_run = h.counts.next_run;
      };
      quiet = h.quiet;
      pools = record {
        deleting = h.pools.deleting;
        pools_of_scales = h.pools.pools_of_scales;
        pools_of_samples = h.pools.pools_of_samples;
        labels = h.pools.labels;
        order = h.pools.order;
        covered = h.pools.covered;
        kept = h.pools.kept;
      };
    }

-- a start task that begins, while run numbers last
limited_begun : (s : State) (node : NodeRow) (start : Option StartTask) → IsWithinLimits s → has_number_left s.next_run ≡ true
    → is_node_number node.number ≡ true → IsWithinLimits (begin_start start node s)
limited_begun s node None h left numbered = h
limited_begun s node (Some start) h left numbered = limited_start_added s node start h left numbered

-- a pool gets a node, on which its start task begins, while numbers last
limited_node_added : (s : State) (pool : PoolRow) (seat : ℕ) → IsWithinLimits s → has_number_left s.next_node ≡ true → has_number_left s.next_run ≡ true
    → is_from_to 1 seat_limit seat ≡ true → IsWithinLimits (node_added s seat pool).state
limited_node_added s pool seat h nodes_left runs_left in_range =
    limited_begun (add_node_row (new_node s pool seat) s) (new_node s pool seat) pool.start (limited_row s pool seat h nodes_left in_range) runs_left
    (and_true (tested 1 s.next_node h.counts.first_node) nodes_left)

-- without ends

-- a start task that begins
unended_begun : (s : State) (node : NodeRow) (start : Option StartTask) → UnendedRunsHaveNoEnd s → UnendedRunsHaveNoEnd (begin_start start node s)
unended_begun s node None h = h
unended_begun s node (Some start) h = unended_start_added s node start h

-- a pool gets a node, on which its start task begins
unended_node_added : (s : State) (pool : PoolRow) (seat : ℕ) → UnendedRunsHaveNoEnd s → UnendedRunsHaveNoEnd (node_added s seat pool).state
unended_node_added s pool seat h = unended_begun (add_node_row (new_node s pool seat) s) (new_node s pool seat) pool.start h

-- preparations

-- a start task that begins
preps_begun : (s : State) (node : NodeRow) (start : Option StartTask) → PreparationsAreSound s → PreparationsAreSound (begin_start start node s)
preps_begun s node None h = h
preps_begun s node (Some start) h =
    preps_run_added s (start_run s node start) refl
    (none_any (λ other. prepare_the_same other (start_run s node start)) s.runs
    (each_any (λ other. not (prepare_the_same other (start_run s node start)))
    (λ other. true_not (off_last (is_open_preparation other && false && nat_eq other.node node.number))) s.runs))
    refl refl h
  where
    off_last : (a : Bool) → (a && false) ≡ false
    off_last true = refl
    off_last false = refl

-- a pool gets a node, which no run is on
preps_node_added : (s : State) (pool : PoolRow) (seat : ℕ) → Each (λ (run : RunRow). nat_lt run.node s.next_node) s.runs → PreparationsAreSound s
    → PreparationsAreSound (node_added s seat pool).state
preps_node_added s pool seat below h =
    preps_begun (add_node_row (new_node s pool seat) s) (new_node s pool seat) pool.start
    (numbered
    (preps_with_nodes s (add_node_row (new_node s pool seat) s).nodes (λ (run : RunRow). nat_lt run.node s.next_node)
    (λ number. any_append_old (is_node number) s.nodes (new_node s pool seat))
    (λ run l k. sym (any_append_same (is_node run.node) s.nodes (new_node s pool seat)
    (nat_eq_equiv.symm s.next_node run.node ∙ below_other run.node s.next_node l)) ∙ k)
    below h))
  where
    numbered : PreparationsAreSound (record s { nodes = (add_node_row (new_node s pool seat) s).nodes })
        → PreparationsAreSound (add_node_row (new_node s pool seat) s)
    numbered k = record {
      jobs_of_preps = k.jobs_of_preps;
      nodes_of_preps = k.nodes_of_preps;
      running = k.running;
      single = k.single;
      prepared = k.prepared;
      released = k.released;
      tries = k.tries;
    }

-- completed jobs rest
rest_node_added : (s : State) (pool : PoolRow) (seat : ℕ) → CompletedJobsRest s → CompletedJobsRest (node_added s seat pool).state
rest_node_added s pool seat h = begun pool.start
  where
    off : (a : Bool) → (a && false) ≡ false
    off true = refl
    off false = refl

    begun : (start : Option StartTask) → CompletedJobsRest (begin_start start (new_node s pool seat) (add_node_row (new_node s pool seat) s))
    begun None = h
    begun (Some start) =
        rest_run_added (add_node_row (new_node s pool seat) s) (start_run (add_node_row (new_node s pool seat) s) (new_node s pool seat) start)
        (each_any
        (λ (job : JobRow). not (is_job_completed job.state && is_unended_of job.id (start_run (add_node_row (new_node s pool seat) s) (new_node s pool seat) start)))
        (λ job. true_not (off (is_job_completed job.state))) s.jobs) h

-- start tasks

-- no failures and no runs are fewer than a number above 0
none_is_few : (count next : ℕ) → count ≡ 0 → 0 < next → nat_lt (0 + count) next ≡ true
none_is_few count next h k = grind (arith, nat_tests)

-- a test beside another that fails
not_and : (a b : Bool) → b ≡ false → not (a && b) ≡ true
not_and true b h = rw h refl
not_and false b h = refl

-- not one of two, where the other isn't so if the one is
not_both : (a b : Bool) → (not a || not b) ≡ true → not (a && b) ≡ true
not_both true b h = h
not_both false b h = refl

module _ (seats : ℕ) (s : State) (pool : PoolRow) (seat : ℕ) (c : IsConsistent seats s) (found : find (lacks_node s) s.pools ≡ Some pool) where
  -- a pool with the id of one without a start task that is waited for has none either
  awaits_none : waits_for_start pool ≡ false → awaits_no_start s pool.id ≡ true
  awaits_none none =
      each_weaker (λ (other : PoolRow). not (same_pool other pool) || not (waits_for_start other))
      (λ other. not (is_pool pool.id other && waits_for_start other))
      (λ other. not_both (is_pool pool.id other) (waits_for_start other)) s.pools
      (each_with_key same_pool same_pool_equiv (λ other. not (waits_for_start other)) pool pool s.pools c.keys.pools
      (found_first same_pool same_pool_equiv (lacks_node s) pool s.pools c.keys.pools found) (rw none refl))

  -- the new node is usable only where no start task is waited for
  new_usable : has_usable_start s (new_node s pool seat) ≡ true
  new_usable = elim (passes_or_not (waits_for_start pool)) [
    | inl waits ↦ rw waits refl
    | inr none ↦ rw (none, awaits_none none) refl
  ]

  -- no run is on it, and its start task has not failed
  new_few : has_few_tries s (new_node s pool seat) ≡ true
  new_few =
      none_is_few (starts_on s.runs s.next_node) s.next_run
      (count_none (is_unended_start_on s.next_node) s.runs
      (each_weaker (λ (run : RunRow). nat_lt run.node s.next_node) (λ run. not (is_unended_start_on s.next_node run))
      (λ run e. not_and (is_start run.kind && is_unended run.state) (nat_eq run.node s.next_node) (below_other run.node s.next_node e))
      s.runs c.numbers.nodes_of_runs))
      c.numbers.begun

  -- its start task is begun, if there is one
  begun : (begins : Option StartTask) (node : NodeRow) (t : State) → StartsAreSound t → StartsAreSound (begin_start begins node t)
  begun None node t h = h
  begun (Some begin) node t h = starts_run_added t (start_run t node begin) h

  starts_new_node : StartsAreSound s → StartsAreSound (node_added s seat pool).state
  starts_new_node h =
      begun pool.start (new_node s pool seat) (add_node_row (new_node s pool seat) s) (starts_node_added s (new_node s pool seat) new_usable new_few h)

-- the rank

-- a new node isn't leaving
new_stays : (s : State) (pool : PoolRow) (seat : ℕ) → is_leaving (new_node s pool seat).stage ≡ false
new_stays s pool seat = either (waits_for_start pool)
  where
    either : (waits : Bool) → is_leaving (cond {A = NodeStage} waits Starting Usable) ≡ false
    either true = refl
    either false = refl

-- fewer nodes stay than the pool's target
abbrev has_too_few : State → PoolRow → Bool
has_too_few s pool = nat_lt (staying_count s pool.id) pool.dedicated

module _ (s : State) (pool : PoolRow) (seat : ℕ) (other : PoolRow) where
  -- of the nodes that stay a pool has one more if the new node is one of its, and as many are leaving
  more_stay : staying_count (with_row s pool seat) other.id ≡ staying_count s other.id + one_if (same_pool other pool)
  more_stay =
      let counted = counts_staying (new_node s pool seat) other.id (new_stays s pool seat) in
      let its : one_if (is_in_pool other.id (new_node s pool seat)) ≡ one_if (same_pool other pool) =
      ap one_if (in_pool_as (new_node s pool seat) pool other (same_equiv.refl pool.id))
      in
      omega (arith, staying_added s (new_node s pool seat) other.id, counted, its)

  same_leave : leaving_count (with_row s pool seat) other.id ≡ leaving_count s other.id
  same_leave =
      let counted = counts_no_leaving (new_node s pool seat) other.id (new_stays s pool seat) in
      omega (arith, leaving_added s (new_node s pool seat) other.id, counted)

  -- another pool has as many steps
  other_steps : same_pool other pool ≡ false → steps_of_pool (with_row s pool seat) other ≤ steps_of_pool s other
  other_steps apart =
      let none : one_if (same_pool other pool) ≡ 0 = counts_nothing (same_pool other pool) apart in
      omega (arith, more_stay, same_leave, none)

  -- that pool has a node less to get
  fewer_steps : same_pool other pool ≡ true → has_too_few s other ≡ true → steps_of_pool (with_row s pool seat) other < steps_of_pool s other
  fewer_steps alike few =
      let one : one_if (same_pool other pool) ≡ 1 = counts_one (same_pool other pool) alike in
      let less : staying_count s other.id < other.dedicated = (Decides-ltb (staying_count s other.id) other.dedicated).0 few in
      omega (arith, more_stay, same_leave, one, less)

-- over all pools there are fewer steps
fewer_to_add : (s : State) (pool : PoolRow) (seat : ℕ) → AreDistinct same_pool s.pools → find (lacks_node s) s.pools ≡ Some pool
    → pools_left (with_row s pool seat) < pools_left s
fewer_to_add s pool seat keys f =
    pools_fall (steps_of_pool (with_row s pool seat)) (steps_of_pool s) (has_too_few s) (lacks_node s) pool s.pools keys f
    (and_second _ (has_too_few s pool) (find-passes (lacks_node s) pool s.pools f)) (other_steps s pool seat) (fewer_steps s pool seat)

-- so it is, too, where a start run is queued
node_falls : (s : State) (pool : PoolRow) (seat : ℕ) → AreDistinct same_pool s.pools → find (lacks_node s) s.pools ≡ Some pool
    → lex_lt (rank (node_added s seat pool).state) (rank s) ≡ true
node_falls s pool seat keys f = begun pool.start
  where
    begun : (start : Option StartTask) → lex_lt (rank (begin_start start (new_node s pool seat) (with_row s pool seat))) (rank s) ≡ true
    begun None = lex_next _ _ _ _ (omega arith) (lex_next _ _ _ _ (omega arith) (lex_first _ _ _ _ (fewer_to_add s pool seat keys f) refl))
    begun (Some start) = lex_next _ _ _ _ (omega arith) (lex_next _ _ _ _ (omega arith) (lex_first _ _ _ _ (fewer_to_add s pool seat keys f) refl))

-- the rule

module _ (seats : ℕ) (s : State) (h : IsSound seats s) where
  -- a pool gets a node
  node_added_kept : (seat : ℕ) (pool : PoolRow) → has_number_left s.next_run ≡ true → has_number_left s.next_node ≡ true → free_seat seats s ≡ Some seat
      → find (lacks_node s) s.pools ≡ Some pool → IsDueKept seats s (node_added s seat pool)
  node_added_kept seat pool runs_left nodes_left free found = record {
    sound = record {
      consistent = consistent_node_added seats s pool seat h.consistent free found;
      limited = limited_node_added s pool seat h.limited nodes_left runs_left (seat_in_range seats s seat h.consistent.seated.few free);
      unended = unended_node_added s pool seat h.unended;
      starts = starts_new_node seats s pool seat h.consistent found h.starts;
      preparing = preps_node_added s pool seat h.consistent.numbers.nodes_of_runs h.preparing;
      resting = rest_node_added s pool seat h.resting;
    };
    falls = node_falls s pool seat h.consistent.keys.pools found;
    places = tt;
    ends = tt;
    releases = tt;
  }

  -- U15
  pub add_node_kept : (step : DueStep) → add_node seats s ≡ Some step → IsDueKept seats s step
  add_node_kept step e =
      let left = from_only_if (has_number_left s.next_run && has_number_left s.next_node) (option_and_then (add_on s) (free_seat seats s)) step e in
      let seated = from_then (add_on s) (free_seat seats s) step left.1 in
      let found = from_map (node_added s seated.0) (find (lacks_node s) s.pools) step seated.1 in
      subst (IsDueKept seats s) found.1
      (node_added_kept seated.0 found.0 (and_first (has_number_left s.next_run) (has_number_left s.next_node) left.0)
      (and_second (has_number_left s.next_run) (has_number_left s.next_node) left.0) seated.2 found.2)
