-- A node that leaves and has nothing to wait for is dropped with the preparations on it: the tables stay sound, and the rank falls.
use Rattle.std.proofs.Common.{◌≡◌, ℕ, ◌+◌, ◌<◌, Bool, true, false, not, ◌&&◌, nat_eq, nat_lt, List, Some, find, refl, sym, ◌∙◌, ap, arith, subst}
use Rattle.std.specs.List.{find}
use Rattle.std.specs.Cmp.{nat_eq_equiv}
use Rattle.bt_base.proofs.SameIds.{same_equiv}
use Rattle.bt_base.proofs.Turns.{lex_first, lex_next}
use Rattle.bt_rows.specs.Keys.{same_node, same_node_equiv, same_prep}
use Rattle.bt_rows.specs.Lists.{AreDistinct}
use Rattle.bt_rows.specs.Ranges.{is_from_to}
use Rattle.bt_rows.proofs.DistinctRows.{found_first, sum_by-less}
use Rattle.batch_model.specs.Finding.{Each}
use Rattle.batch_model.specs.Rows.{is_pool, is_node}
use Rattle.batch_model.specs.Runs.{is_unended, is_waiting, is_preparation, is_release, is_work, is_open_preparation, is_at_prep}
use Rattle.batch_model.specs.Nodes.{is_leaving, is_in_pool}
use Rattle.batch_model.specs.Pools.{staying_count}
use Rattle.batch_model.specs.Dues.{is_unended_on, may_go, is_empty_node, drop_node, node_dropped, drop_first}
use Rattle.batch_model.specs.Measure.{leaving_count, steps_of_pool, pools_left}
use Rattle.batch_model.specs.Sound.{IsConsistent, IsWithinLimits, IsSound, StartsAreSound, PreparationsAreSound, are_out_of_order, has_node_row, share_seat}
use Rattle.batch_model.specs.Sound.{has_node_while_unended, is_of_pool, fits_nodes, has_slots_for, has_usable_start, has_prep_where, runs_yet, is_completed_prep}
use Rattle.batch_model.specs.Sound.{is_released, has_running_prep, waits_in, is_work_begun, is_prepared_run, has_known_release}
use Rattle.batch_model.specs.WellFormed.{is_node_in_range, has_few_tries, has_job_row, has_pool_row, has_few_preparations}
use Rattle.batch_model.specs.Steps.{DueStep}
use Rattle.batch_model.specs.Variants.{State, NodeRow, NodeStage, Starting, Usable, StartFailed, Leaving, RunRow, PrepRow}
use Rattle.model_lists.proofs.Tests.{and_first, and_second, and_true, not_true, asked, under}
use Rattle.model_lists.proofs.RowLists.{each_weaker, each_of_two, each_found, find_test, find_any, any_none}
use Rattle.model_lists.proofs.KeptRows.{kept_pass, each_kept, distinct_kept, any_kept, any_still}
use Rattle.model_rules.proofs.NodeCounts.{one_if, counts_one, staying_dropped, leaving_dropped, counts_leaving, counts_no_staying}
use Rattle.model_rules.proofs.Rules.{IsDueKept, from_map}

-- a node that may go is leaving
going_leaves : (s : State) (number : ℕ) (stage : NodeStage) → may_go s number stage ≡ true → is_leaving stage ≡ true
going_leaves s number (Leaving option) h = refl
going_leaves s number Starting h = cc
going_leaves s number Usable h = cc
going_leaves s number StartFailed h = cc

module _ (s : State) (node : NodeRow) (found : find (is_empty_node s) s.nodes ≡ Some node) where
  -- the tables after the step
  abbrev after : State
  after = drop_node node s

  -- what is kept
  abbrev keeps_node : NodeRow → Bool
  keeps_node row = not (is_node node.number row)

  abbrev keeps_prep : PrepRow → Bool
  keeps_prep prep = not (nat_eq prep.node node.number)

  -- the node has no unended runs and no held slots, and may go
  is_empty : is_empty_node s node ≡ true
  is_empty = find_test (is_empty_node s) node s.nodes found

  -- it is leaving
  is_going : is_leaving node.stage ≡ true
  is_going = going_leaves s node.number node.stage (and_first _ _ (and_first _ _ is_empty))

  -- a run that ended, or is on another node
  abbrev is_apart : RunRow → Bool
  is_apart run = not (is_unended_on node.number run)

  all_apart : Each is_apart s.runs
  all_apart = any_none (is_unended_on node.number) s.runs (not_true _ (and_second _ _ (and_first _ _ is_empty)))

  -- an unended run is on another node
  elsewhere : (run : RunRow) → is_apart run ≡ true → is_unended run.state ≡ true → not (nat_eq run.node node.number) ≡ true
  elsewhere run = on_other (nat_eq run.node node.number) (is_unended run.state)
    where
      on_other : (a b : Bool) → not (a && b) ≡ true → b ≡ true → not a ≡ true
      on_other true true h k = cc
      on_other true false h k = cc
      on_other false b h k = refl

  -- what has a number that is not the node's is another
  other_number : (one number : ℕ) → nat_eq one number ≡ true → not (nat_eq number node.number) ≡ true → not (nat_eq one node.number) ≡ true
  other_number one number e k = ap not (nat_eq_equiv.congr one number node.number e) ∙ k

  -- nodes with another number still have rows
  row_still : (number : ℕ) → not (nat_eq number node.number) ≡ true → has_node_row s number ≡ true → has_node_row after number ≡ true
  row_still number k h = any_still keeps_node (is_node number) (λ (row : NodeRow) e. other_number row.number number e k) s.nodes ∙ h

  -- a run that has not ended still has its node
  there_still : (run : RunRow) → is_apart run ≡ true → has_node_while_unended s run ≡ true → has_node_while_unended after run ≡ true
  there_still run apart h =
      under (is_unended run.state) (has_node_row after run.node)
      (λ e. row_still run.node (elsewhere run apart e) (asked (is_unended run.state) (has_node_row s run.node) h e))

  -- the rows fit each other
  consistent_dropped : (seats : ℕ) → IsConsistent seats s → IsConsistent seats after
  consistent_dropped seats h = record {
    keys = record {
      pools = h.keys.pools;
      nodes = distinct_kept keeps_node same_node s.nodes h.keys.nodes;
      jobs = h.keys.jobs;
      tasks = h.keys.tasks;
      runs = h.keys.runs;
      preps = distinct_kept keeps_prep same_prep s.preps h.keys.preps;
      samples = h.keys.samples;
      scales = h.keys.scales;
    };
    numbers = record {
      begun = h.numbers.begun;
      runs = h.numbers.runs;
      nodes = each_kept keeps_node (λ row. nat_lt row.number s.next_node) s.nodes h.numbers.nodes;
      nodes_of_runs = h.numbers.nodes_of_runs;
      order = distinct_kept keeps_node are_out_of_order s.nodes h.numbers.order;
    };
    fitting = record { marks = h.fitting.marks; closing = h.fitting.closing; attempts = h.fitting.attempts };
    named = record {
      jobs_of_tasks = h.named.jobs_of_tasks;
      jobs_of_runs = h.named.jobs_of_runs;
      tasks_of_runs = h.named.tasks_of_runs;
      main_runs = h.named.main_runs;
    };
    seated = record {
      distinct = distinct_kept keeps_node share_seat s.nodes h.seated.distinct;
      in_range = each_kept keeps_node (λ (row : NodeRow). is_from_to 1 seats row.seat) s.nodes h.seated.in_range;
      few = h.seated.few;
      pools_of_nodes = each_kept keeps_node (λ (row : NodeRow). has_pool_row s row.pool) s.nodes h.seated.pools_of_nodes;
      nodes_of_runs =
          each_of_two is_apart (has_node_while_unended s) (has_node_while_unended after) there_still s.runs all_apart h.seated.nodes_of_runs;
    };
    belonging = h.belonging;
    ending = h.ending;
    naming = record {
      on_nodes = each_weaker (fits_nodes s) (fits_nodes after) (λ run. each_kept keeps_node (is_of_pool run) s.nodes) s.runs h.naming.on_nodes;
      of_jobs = h.naming.of_jobs;
    };
    slots = each_kept keeps_node (has_slots_for s) s.nodes h.slots;
    built = record { runs = h.built.runs };
  }

  -- fewer rows of the same values
  limited_dropped : IsWithinLimits s → IsWithinLimits after
  limited_dropped h = record {
    rows = record {
      moment = h.rows.moment;
      pools = h.rows.pools;
      nodes = each_kept keeps_node is_node_in_range s.nodes h.rows.nodes;
      jobs = h.rows.jobs;
      tasks = h.rows.tasks;
      runs = h.rows.runs;
      samples = h.rows.samples;
      scales = h.rows.scales;
    };
    counts = record {
      pools = h.counts.pools;
      jobs = h.counts.jobs;
      tasks = h.counts.tasks;
      first_node = h.counts.first_node;
      next_node = h.counts.next_node;
      first_run = h.counts.first_run;
      next_run = h.counts.next_run;
    };
    quiet = h.quiet;
    pools = record {
      deleting = h.pools.deleting;
      pools_of_scales = h.pools.pools_of_scales;
      pools_of_samples = h.pools.pools_of_samples;
      labels = h.pools.labels;
      order = h.pools.order;
      covered = h.pools.covered;
      kept = h.pools.kept;
    };
  }

  -- start tasks
  starts_dropped : StartsAreSound s → StartsAreSound after
  starts_dropped h = record {
    usable = each_kept keeps_node (has_usable_start s) s.nodes h.usable;
    tries = each_kept keeps_node (has_few_tries s) s.nodes h.tries;
  }

  -- a preparation on another node is kept
  prep_still : (test : PrepRow → Bool) (run : RunRow) → not (nat_eq run.node node.number) ≡ true → has_prep_where test s run ≡ true
      → has_prep_where test after run ≡ true
  prep_still test run k h =
      any_still keeps_prep (λ prep. is_at_prep prep run && test prep)
      (λ (prep : PrepRow) e. ap not (sym (nat_eq_equiv.congr run.node prep.node node.number (and_second _ _ (and_first (is_at_prep prep run) (test prep) e)))) ∙ k)
      s.preps ∙ h

  -- a node that still has a row is another
  other_node : (number : ℕ) → has_node_row after number ≡ true → not (nat_eq number node.number) ≡ true
  other_node number h =
      let row = find_any (is_node number) after.nodes h in
      let has : nat_eq row.0.number number ≡ true = find_test (is_node number) row.0 after.nodes row.1 in
      ap not (sym (nat_eq_equiv.congr row.0.number number node.number has))
      ∙ each_found keeps_node (is_node number) row.0 after.nodes row.1 (kept_pass keeps_node s.nodes)

  -- preparations
  preps_dropped : PreparationsAreSound s → PreparationsAreSound after
  preps_dropped h = record {
    jobs_of_preps = each_kept keeps_prep (λ (prep : PrepRow). has_job_row s prep.job) s.preps h.jobs_of_preps;
    nodes_of_preps =
        each_of_two keeps_prep (λ (prep : PrepRow). has_node_row s prep.node) (λ (prep : PrepRow). has_node_row after prep.node)
        (λ prep. row_still prep.node) after.preps (kept_pass keeps_prep s.preps)
        (each_kept keeps_prep (λ (prep : PrepRow). has_node_row s prep.node) s.preps h.nodes_of_preps);
    running = each_of_two is_apart (has_running_prep s) (has_running_prep after) running_still s.runs all_apart h.running;
    single = h.single;
    prepared = each_of_two is_apart (is_prepared_run s) (is_prepared_run after) prepared_still s.runs all_apart h.prepared;
    released = each_weaker (has_known_release s) (has_known_release after) released_still s.runs h.released;
    tries = each_kept keeps_prep (has_few_preparations s) s.preps h.tries;
  }
    where
      running_still : (run : RunRow) → is_apart run ≡ true → has_running_prep s run ≡ true → has_running_prep after run ≡ true
      running_still run apart k =
          under (is_open_preparation run) (has_prep_where runs_yet after run)
          (λ e. prep_still runs_yet run (elsewhere run apart (and_second (is_preparation run.kind) (is_unended run.state) e))
          (asked (is_open_preparation run) (has_prep_where runs_yet s run) k e))

      prepared_still : (run : RunRow) → is_apart run ≡ true → is_prepared_run s run ≡ true → is_prepared_run after run ≡ true
      prepared_still run apart k =
          under (is_work_begun run && waits_in s run) (has_prep_where is_completed_prep after run)
          (λ e. prep_still is_completed_prep run
          (elsewhere run apart
          (and_second (is_work run.kind) (is_unended run.state)
          (and_first _ (not (is_waiting run.state)) (and_first (is_work_begun run) (waits_in s run) e))))
          (asked (is_work_begun run && waits_in s run) (has_prep_where is_completed_prep s run) k e))

      released_still : (run : RunRow) → has_known_release s run ≡ true → has_known_release after run ≡ true
      released_still run k =
          under (is_release run.kind && has_node_row after run.node) (has_prep_where is_released after run)
          (λ e. prep_still is_released run (other_node run.node (and_second (is_release run.kind) (has_node_row after run.node) e))
          (asked (is_release run.kind && has_node_row s run.node) (has_prep_where is_released s run) k
          (and_true (and_first (is_release run.kind) (has_node_row after run.node) e)
          (any_kept keeps_node (is_node run.node) s.nodes (and_second (is_release run.kind) (has_node_row after run.node) e)))))

  -- the rank

  module _ (keys : AreDistinct same_node s.nodes) where
    -- it is the one with its number
    first : find (λ other. same_node other node) s.nodes ≡ Some node
    first = found_first same_node same_node_equiv (is_empty_node s) node s.nodes keys found

    -- in each pool as many nodes stay
    same_stay : (id : List ℕ) → staying_count after id ≡ staying_count s id
    same_stay id = omega (arith, staying_dropped s node keys first id, counts_no_staying node id is_going)

    -- in its pool one is leaving less
    fewer_leave : (id : List ℕ) → leaving_count after id + one_if (is_in_pool id node) ≡ leaving_count s id
    fewer_leave id = omega (arith, leaving_dropped s node keys first id, counts_leaving node id is_going)

    -- its pool has a step less, and no pool has more
    fewer_steps : has_pool_row s node.pool ≡ true → pools_left after < pools_left s
    fewer_steps there =
        let pool = find_any (is_pool node.pool) s.pools there in
        let its : is_in_pool pool.0.id node ≡ true =
        same_equiv.symm node.pool pool.0.id ∙ find_test (is_pool node.pool) pool.0 s.pools pool.1
        in
        let one : one_if (is_in_pool pool.0.id node) ≡ 1 = counts_one (is_in_pool pool.0.id node) its in
        sum_by-less (steps_of_pool after) (steps_of_pool s) (is_pool node.pool) pool.0 s.pools pool.1
        (λ other. omega (arith, same_stay other.id, fewer_leave other.id))
        (omega (arith, same_stay pool.0.id, fewer_leave pool.0.id, one))

  -- the node is dropped
  dropped_kept : (seats : ℕ) → IsSound seats s → IsDueKept seats s (node_dropped s node)
  dropped_kept seats h = record {
    sound = record {
      consistent = consistent_dropped seats h.consistent;
      limited = limited_dropped h.limited;
      unended = h.unended;
      starts = starts_dropped h.starts;
      preparing = preps_dropped h.preparing;
      resting = h.resting;
    };
    falls =
        lex_next _ _ _ _ (omega arith) (lex_next _ _ _ _ (omega arith)
        (lex_first _ _ _ _
        (fewer_steps h.consistent.keys.nodes
        (each_found (λ (row : NodeRow). has_pool_row s row.pool) (is_empty_node s) node s.nodes found h.consistent.seated.pools_of_nodes)) refl));
    places = tt;
    ends = tt;
    releases = tt;
  }

-- U14
pub drop_first_kept : (seats : ℕ) (s : State) → IsSound seats s → (step : DueStep) → drop_first s ≡ Some step → IsDueKept seats s step
drop_first_kept seats s h step e =
    let found = from_map (node_dropped s) (find (is_empty_node s) s.nodes) step e in
    subst (IsDueKept seats s) found.1 (dropped_kept s found.0 found.2 seats h)
