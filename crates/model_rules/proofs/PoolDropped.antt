-- A pool that is being deleted and has no nodes is dropped with its samples and its start runs: the tables stay sound, and the rank falls.
use Rattle.std.proofs.Common.{◌≡◌, ℕ, ◌≤◌, ◌<◌, Bool, true, false, not, ◌&&◌, ◌||◌, nat_eq, nat_lt, nat_le, List, [], ◌∷◌, Some, is_some, cond, length, count_by, sum_by}
use Rattle.std.proofs.Common.{filter, find, refl, sym, ◌∙◌, ap, arith}
use Rattle.std.specs.List.{list_all, find, filter}
use Rattle.std.specs.Option.{option_map_or, option_and_then}
use Rattle.std.specs.Cmp.{nat_eq_equiv}
use Rattle.bt_base.specs.Ids.{same}
use Rattle.bt_base.proofs.SameIds.{same_equiv}
use Rattle.bt_base.proofs.Turns.{lex_lt, lex_first, lex_next}
use Rattle.bt_rows.specs.Keys.{same_pool, same_run, same_sample}
use Rattle.bt_rows.specs.Metrics.{same_metric}
use Rattle.batch_model.specs.Finding.{Each}
use Rattle.batch_model.specs.Rows.{is_pool, is_node}
use Rattle.batch_model.specs.Runs.{is_unended, is_start, is_main, is_present, is_busy_for, ending_of}
use Rattle.batch_model.specs.Tasks.{is_placed, is_undisturbed, is_busy, main_ending}
use Rattle.batch_model.specs.Nodes.{is_usable, is_in_pool}
use Rattle.batch_model.specs.Pools.{is_resizing, is_steady, has_node, waits_for_start}
use Rattle.batch_model.specs.Jobs.{is_job_completed}
use Rattle.batch_model.specs.JobRules.{is_unended_of, has_unended_run}
use Rattle.batch_model.specs.Samples.{label_of, is_sample_of, samples_of, last_label, sample_limit}
use Rattle.batch_model.specs.Slots.{held_slots, holds_on}
use Rattle.batch_model.specs.Dues.{is_gone, is_start_run_of, drop_pool, pool_dropped}
use Rattle.batch_model.specs.Scaling.{is_to_sample, is_to_scale}
use Rattle.batch_model.specs.Measure.{scaling_left, one_unless, steps_of_pool, pools_left, rank}
use Rattle.batch_model.specs.Sound.{IsConsistent, IsWithinLimits, IsSound, StartsAreSound, PreparationsAreSound, CompletedJobsRest, has_node_row, has_node_while_unended}
use Rattle.batch_model.specs.Sound.{belongs, can_be_settled, fits_nodes, is_of_pool, names_no_task, has_slots_for, has_no_end_yet, has_usable_start, awaits_no_start}
use Rattle.batch_model.specs.Sound.{has_started, has_running_prep, prepare_the_same, is_prepared_run, has_known_release, is_at_rest}
use Rattle.batch_model.specs.WellFormed.{is_pool_valid, is_run_valid, is_sample_valid, has_named_job, has_named_task, are_one_attempt, has_pool_row, is_deleting_whole}
use Rattle.batch_model.specs.WellFormed.{scales, are_labels_out_of_order, is_covered, has_label, has_kept, has_few_tries, is_unended_start_on, is_preparing}
use Rattle.batch_model.specs.WellFormed.{has_few_preparations}
use Rattle.batch_model.specs.Variants.{State, PoolRow, Alloc, Steady, Resizing, Stopping, NodeRow, TaskRow, RunRow, RunKind, StartRun, PrepRun, TaskRun, CoordinationRun}
use Rattle.batch_model.specs.Variants.{ReleaseRun, PrepRow, Metric, ActiveTasks, CpuPercent, SampleRow, ScaleRow}
use Rattle.model_lists.proofs.Tests.{and_first, and_second, not_true, asked, under, or_second}
use Rattle.model_lists.proofs.RowLists.{each_weaker, each_of_two, each_of_three, each_found, find_test, find_any, any_none}
use Rattle.model_lists.proofs.KeptRows.{kept_pass, each_kept, any_kept, distinct_kept, any_still, any_still_where, find_still, sum_kept, sum_passing_kept}
use Rattle.model_lists.proofs.KeptRows.{length_kept, each_swap, sum_dropped}
use Rattle.model_lists.proofs.RowSums.{sum_agree_where}
use Rattle.model_tables.proofs.NotBuilt.{is_built}
use Rattle.model_tables.proofs.RunsMove.{slots_suffice}
use Rattle.model_tables.proofs.StartsKept.{is_good_start, starts_on, few_still}
use Rattle.model_tables.proofs.TasksStopped.{settled_alike}
use Rattle.model_rules.proofs.JobDropped.{not_same}
use Rattle.model_rules.proofs.NodeCounts.{one_if}
use Rattle.model_rules.proofs.Rules.{IsDueKept}

-- rows that pass, of which none is dropped
filter_still : {R : Type 0} (keep p : R → Bool) → ((row : R) → p row ≡ true → keep row ≡ true) → (rows : List R) → filter p (filter keep rows) ≡ filter p rows
filter_still keep p give [] = refl
filter_still keep p give (row ∷ rows) = first (keep row) (p row) refl refl (give row) (filter_still keep p give rows)
  where
    first : (b c : Bool) → keep row ≡ b → p row ≡ c → (p row ≡ true → keep row ≡ true) → filter p (filter keep rows) ≡ filter p rows
        → filter p (cond b (row ∷ filter keep rows) (filter keep rows)) ≡ cond (p row) (row ∷ filter p rows) (filter p rows)
    first true c e f g k = ap (λ others. cond (p row) (row ∷ others) others) k
    first false true e f g k = let n : keep row ≡ true = g f in cc
    first false false e f g k = rw f k

-- a main run is no start run
main_is_no_start : (kind : RunKind) (b : Bool) → is_main kind ≡ true → not (is_start kind && b) ≡ true
main_is_no_start TaskRun b h = refl
main_is_no_start StartRun b h = cc
main_is_no_start PrepRun b h = cc
main_is_no_start CoordinationRun b h = cc
main_is_no_start ReleaseRun b h = cc

-- two of three tests, each of which another follows from
or_later : (a b b' c c' : Bool) → (b ≡ true → b' ≡ true) → (c ≡ true → c' ≡ true) → (a || b || c) ≡ true → (a || b' || c') ≡ true
or_later true b b' c c' give more h = refl
or_later false true b' c c' give more h = rw (give refl) refl
or_later false false b' c c' give more h = or_second b' (more h)

-- a resizing pool counts, since it is not steady
pub resizing_counts : (alloc : Alloc) → is_resizing alloc ≡ true → one_unless (is_steady alloc) ≡ 1
resizing_counts Steady h = cc
resizing_counts Resizing h = refl
resizing_counts Stopping h = cc

module _ (s : State) (pool : PoolRow) (test : PoolRow → Bool) (found : find test s.pools ≡ Some pool) (gone : is_gone s pool ≡ true) where
  -- the tables after the step
  abbrev after : State
  after = drop_pool pool s

  -- what is kept
  abbrev keeps_pool : PoolRow → Bool
  keeps_pool row = not (is_pool pool.id row)

  abbrev keeps_sample : SampleRow → Bool
  keeps_sample sample = not (same sample.pool pool.id)

  abbrev keeps_run : RunRow → Bool
  keeps_run run = not (is_start_run_of pool.id run)

  -- a node of another pool
  abbrev is_elsewhere : NodeRow → Bool
  is_elsewhere node = not (is_in_pool pool.id node)

  -- no node is the pool's
  no_node : Each is_elsewhere s.nodes
  no_node = any_none (is_in_pool pool.id) s.nodes (not_true (has_node s pool.id) (and_second pool.deleting (not (has_node s pool.id)) gone))

  -- a run on a node that is there is kept
  kept_on : (node : NodeRow) (run : RunRow) → is_elsewhere node ≡ true → is_of_pool run node ≡ true → nat_eq node.number run.node ≡ true → keeps_run run ≡ true
  kept_on node run elsewhere fits on =
      other (is_start run.kind) (same run.pool pool.id)
      (ap not (sym (same_equiv.congr node.pool run.pool pool.id (and_first _ _ (asked (nat_eq node.number run.node) _ fits on)))) ∙ elsewhere)
    where
      other : (a b : Bool) → not b ≡ true → not (a && b) ≡ true
      other a true h = cc
      other true false h = refl
      other false false h = refl

  -- so is one that has not ended
  abbrev keeps_unended : RunRow → Bool
  keeps_unended run = not (is_unended run.state) || keeps_run run

  unended_kept : (run : RunRow) → has_node_while_unended s run ≡ true → fits_nodes s run ≡ true → keeps_unended run ≡ true
  unended_kept run there fits = under (is_unended run.state) (keeps_run run) (λ e. on_node (asked (is_unended run.state) (has_node_row s run.node) there e))
    where
      on_node : has_node_row s run.node ≡ true → keeps_run run ≡ true
      on_node here =
          let node = find_any (is_node run.node) s.nodes here in
          kept_on node.0 run (each_found is_elsewhere (is_node run.node) node.0 s.nodes node.1 no_node)
          (each_found (is_of_pool run) (is_node run.node) node.0 s.nodes node.1 fits)
          (find_test (is_node run.node) node.0 s.nodes node.1)

  -- pools with another id still have rows
  row_still : (id : List ℕ) → not (same id pool.id) ≡ true → has_pool_row s id ≡ true → has_pool_row after id ≡ true
  row_still id k h = any_still keeps_pool (is_pool id) (λ (row : PoolRow) e. not_same row.id id pool.id e k) s.pools ∙ h

  -- nodes hold no more slots
  slots_after : (node : ℕ) → held_slots after node ≤ held_slots s node
  slots_after node = sum_passing_kept keeps_run (λ (run : RunRow). run.slots) (holds_on after node) (holds_on s node) (λ run e. e) s.runs

  -- a task is as busy, and its main run has ended as before
  settled_still : Each keeps_unended s.runs → (task : TaskRow) → can_be_settled s task ≡ true → can_be_settled after task ≡ true
  settled_still kept task h =
      settled_alike (is_placed task.stage) (is_busy s task) (is_busy after task) (not (is_undisturbed task)) (is_some (main_ending s task))
      (is_some (main_ending after task))
      (any_still_where keeps_run keeps_unended (is_busy_for task)
      (λ run k e. asked (is_unended run.state) (keeps_run run) k (and_second (is_present task run) (is_unended run.state) e)) s.runs kept)
      (ap (λ o. is_some (option_and_then (λ (run : RunRow). ending_of run.state) o))
      (find_still keeps_run (λ run. is_present task run && is_main run.kind)
      (λ run e. main_is_no_start run.kind (same run.pool pool.id) (and_second (is_present task run) (is_main run.kind) e)) s.runs))
      h

  -- the rows fit each other
  consistent_dropped : (seats : ℕ) → IsConsistent seats s → IsConsistent seats after
  consistent_dropped seats h = record {
    keys = record {
      pools = distinct_kept keeps_pool same_pool s.pools h.keys.pools;
      nodes = h.keys.nodes;
      jobs = h.keys.jobs;
      tasks = h.keys.tasks;
      runs = distinct_kept keeps_run same_run s.runs h.keys.runs;
      preps = h.keys.preps;
      samples = distinct_kept keeps_sample same_sample s.samples h.keys.samples;
      scales = h.keys.scales;
    };
    numbers = record {
      begun = h.numbers.begun;
      runs = each_kept keeps_run (λ run. nat_lt run.number s.next_run) s.runs h.numbers.runs;
      nodes = h.numbers.nodes;
      nodes_of_runs = each_kept keeps_run (λ run. nat_lt run.node s.next_node) s.runs h.numbers.nodes_of_runs;
      order = h.numbers.order;
    };
    fitting = record { marks = h.fitting.marks; closing = h.fitting.closing; attempts = h.fitting.attempts };
    named = record {
      jobs_of_tasks = h.named.jobs_of_tasks;
      jobs_of_runs = each_kept keeps_run (has_named_job s) s.runs h.named.jobs_of_runs;
      tasks_of_runs = each_kept keeps_run (has_named_task s) s.runs h.named.tasks_of_runs;
      main_runs = distinct_kept keeps_run are_one_attempt s.runs h.named.main_runs;
    };
    seated = record {
      distinct = h.seated.distinct;
      in_range = h.seated.in_range;
      few = h.seated.few;
      pools_of_nodes =
          each_of_two is_elsewhere (λ (node : NodeRow). has_pool_row s node.pool) (λ (node : NodeRow). has_pool_row after node.pool)
          (λ node. row_still node.pool) s.nodes no_node h.seated.pools_of_nodes;
      nodes_of_runs = each_kept keeps_run (has_node_while_unended s) s.runs h.seated.nodes_of_runs;
    };
    belonging = each_kept keeps_run (belongs s) s.runs h.belonging;
    ending =
        each_weaker (can_be_settled s) (can_be_settled after)
        (settled_still (each_of_two (has_node_while_unended s) (fits_nodes s) keeps_unended unended_kept s.runs h.seated.nodes_of_runs h.naming.on_nodes))
        s.tasks h.ending;
    naming = record {
      on_nodes = each_kept keeps_run (fits_nodes s) s.runs h.naming.on_nodes;
      of_jobs = each_kept keeps_run names_no_task s.runs h.naming.of_jobs;
    };
    slots =
        each_weaker (λ (node : NodeRow). list_all (λ other. not (is_pool node.pool other) || nat_le (held_slots after node.number) other.slots) s.pools)
        (has_slots_for after)
        (λ node. each_kept keeps_pool (λ other. not (is_pool node.pool other) || nat_le (held_slots after node.number) other.slots) s.pools) s.nodes
        (slots_suffice (held_slots after) (held_slots s) s.pools slots_after s.nodes h.slots);
    built = record { runs = each_kept keeps_run is_built s.runs h.built.runs };
  }

  -- another pool has the same samples
  samples_still : (id : List ℕ) (metric : Metric) → not (same id pool.id) ≡ true → samples_of after id metric ≡ samples_of s id metric
  samples_still id metric k =
      filter_still keeps_sample (is_sample_of id metric)
      (λ (other : SampleRow) e. not_same other.pool id pool.id (and_first (same other.pool id) (same_metric other.metric metric) e) k) s.samples

  -- the pool is being deleted, so that it does not scale
  no_scale : IsWithinLimits s → Each (λ (scale : ScaleRow). not (same scale.pool pool.id)) s.scales
  no_scale h =
      any_none (λ (scale : ScaleRow). same scale.pool pool.id) s.scales
      (not_true (scales s pool.id)
      (and_second _ (not (scales s pool.id))
      (asked pool.deleting _ (each_found (is_deleting_whole s) test pool s.pools found h.pools.deleting)
      (and_first pool.deleting (not (has_node s pool.id)) gone))))

  -- fewer rows of the same values
  limited_dropped : IsWithinLimits s → IsWithinLimits after
  limited_dropped h = record {
    rows = record {
      moment = h.rows.moment;
      pools = each_kept keeps_pool (is_pool_valid s.moment) s.pools h.rows.pools;
      nodes = h.rows.nodes;
      jobs = h.rows.jobs;
      tasks = h.rows.tasks;
      runs = each_kept keeps_run (is_run_valid s.moment) s.runs h.rows.runs;
      samples = each_kept keeps_sample (is_sample_valid s.moment) s.samples h.rows.samples;
      scales = h.rows.scales;
    };
    counts = record {
      pools = shorter (length after.pools) (length s.pools) _ (length_kept keeps_pool s.pools) h.counts.pools;
      jobs = h.counts.jobs;
      tasks = h.counts.tasks;
      first_node = h.counts.first_node;
      next_node = h.counts.next_node;
      first_run = h.counts.first_run;
      next_run = h.counts.next_run;
    };
    quiet = h.quiet;
    pools = record {
      deleting = each_kept keeps_pool (is_deleting_whole s) s.pools h.pools.deleting;
      pools_of_scales =
          each_of_two (λ (scale : ScaleRow). not (same scale.pool pool.id)) (λ (scale : ScaleRow). has_pool_row s scale.pool)
          (λ (scale : ScaleRow). has_pool_row after scale.pool) (λ scale. row_still scale.pool) s.scales (no_scale h) h.pools.pools_of_scales;
      pools_of_samples =
          each_of_two keeps_sample (λ (sample : SampleRow). has_pool_row s sample.pool) (λ (sample : SampleRow). has_pool_row after sample.pool)
          (λ sample. row_still sample.pool) after.samples (kept_pass keeps_sample s.samples)
          (each_kept keeps_sample (λ (sample : SampleRow). has_pool_row s sample.pool) s.samples h.pools.pools_of_samples);
      labels = each_kept keeps_sample has_label s.samples h.pools.labels;
      order = distinct_kept keeps_sample are_labels_out_of_order s.samples h.pools.order;
      covered =
          each_of_two keeps_sample (is_covered s) (is_covered after) covered_still after.samples (kept_pass keeps_sample s.samples)
          (each_kept keeps_sample (is_covered s) s.samples h.pools.covered);
      kept =
          each_of_two keeps_sample (has_kept s) (has_kept after) few_still_kept after.samples (kept_pass keeps_sample s.samples)
          (each_kept keeps_sample (has_kept s) s.samples h.pools.kept);
    };
  }
    where
      shorter : (a b limit : ℕ) → a ≤ b → b ≤ limit → a ≤ limit
      shorter a b limit h k = omega (arith, h, k)

      covered_still : (sample : SampleRow) → keeps_sample sample ≡ true → is_covered s sample ≡ true → is_covered after sample ≡ true
      covered_still sample k h =
          ap (λ samples. same_metric sample.metric CpuPercent || option_map_or (nat_le sample.label) (last_label samples) false)
          (samples_still sample.pool ActiveTasks k) ∙ h

      few_still_kept : (sample : SampleRow) → keeps_sample sample ≡ true → has_kept s sample ≡ true → has_kept after sample ≡ true
      few_still_kept sample k h = ap (λ samples. nat_le (length samples) sample_limit) (samples_still sample.pool sample.metric k) ∙ h

  -- start tasks
  starts_dropped : Each (fits_nodes s) s.runs → StartsAreSound s → StartsAreSound after
  starts_dropped fits h = record {
    usable =
        each_of_three is_elsewhere (λ (node : NodeRow). list_all (λ run. is_of_pool run node) s.runs) (has_usable_start s) (has_usable_start after)
        (λ node elsewhere all. or_later (not (is_usable node.stage)) (awaits_no_start s node.pool) (awaits_no_start after node.pool)
        (has_started s node.number) (has_started after node.number)
        (each_kept keeps_pool (λ row. not (is_pool node.pool row && waits_for_start row)) s.pools)
        (λ e. any_still_where keeps_run (λ run. is_of_pool run node) (is_good_start node.number) (start_kept node elsewhere) s.runs all ∙ e))
        s.nodes no_node (each_swap is_of_pool s.runs s.nodes fits) h.usable;
    tries =
        each_weaker (has_few_tries s) (has_few_tries after)
        (λ (node : NodeRow). few_still node.tries (starts_on s.runs node.number) (starts_on after.runs node.number) s.next_run
        (sum_kept keeps_run (λ run. cond {A = ℕ} (is_unended_start_on node.number run) 1 0) s.runs))
        s.nodes h.tries;
  }
    where
      start_kept : (node : NodeRow) → is_elsewhere node ≡ true → (run : RunRow) → is_of_pool run node ≡ true → is_good_start node.number run ≡ true
          → keeps_run run ≡ true
      start_kept node elsewhere run fitting good =
          kept_on node run elsewhere fitting
          (nat_eq_equiv.symm node.number run.node ∙ and_first (nat_eq run.node node.number) (is_start run.kind) (and_first _ _ good))

  -- preparations
  preps_dropped : PreparationsAreSound s → PreparationsAreSound after
  preps_dropped h = record {
    jobs_of_preps = h.jobs_of_preps;
    nodes_of_preps = h.nodes_of_preps;
    running = each_kept keeps_run (has_running_prep s) s.runs h.running;
    single = distinct_kept keeps_run prepare_the_same s.runs h.single;
    prepared = each_kept keeps_run (is_prepared_run s) s.runs h.prepared;
    released = each_kept keeps_run (has_known_release s) s.runs h.released;
    tries =
        each_weaker (has_few_preparations s) (has_few_preparations after)
        (λ (prep : PrepRow). few_still prep.tries (count_by (is_preparing prep) s.runs) (count_by (is_preparing prep) after.runs) s.next_run
        (sum_kept keeps_run (λ run. cond {A = ℕ} (is_preparing prep run) 1 0) s.runs))
        s.preps h.tries;
  }

  -- completed jobs rest
  rest_dropped : CompletedJobsRest s → CompletedJobsRest after
  rest_dropped h =
      each_weaker (is_at_rest s) (is_at_rest after)
      (λ job. not_both (is_job_completed job.state) (has_unended_run s job.id) (has_unended_run after job.id) (any_kept keeps_run (is_unended_of job.id) s.runs))
      s.jobs h
    where
      not_both : (a b c : Bool) → (c ≡ true → b ≡ true) → not (a && b) ≡ true → not (a && c) ≡ true
      not_both true b true e k = rw (e refl) at k
      not_both true b false e k = refl
      not_both false b c e k = refl

  -- no more pools are to be sampled or scaled
  no_more_scaling : scaling_left after ≤ scaling_left s
  no_more_scaling =
      let same_part : sum_by (λ row. one_if (is_to_sample after row)) after.pools ≡ sum_by (λ row. one_if (is_to_sample s row)) after.pools =
      sum_agree_where keeps_pool (λ row. one_if (is_to_sample after row)) (λ row. one_if (is_to_sample s row)) sampled_still after.pools (kept_pass keeps_pool s.pools)
      in
      let sampled : sum_by (λ row. one_if (is_to_sample s row)) after.pools ≤ count_by (is_to_sample s) s.pools =
      sum_kept keeps_pool (λ row. one_if (is_to_sample s row)) s.pools
      in
      let scaled : count_by (is_to_scale s) after.pools ≤ count_by (is_to_scale s) s.pools = sum_kept keeps_pool (λ row. one_if (is_to_scale s row)) s.pools in
      omega (arith, same_part, sampled, scaled)
    where
      sampled_still : (row : PoolRow) → keeps_pool row ≡ true → one_if (is_to_sample after row) ≡ one_if (is_to_sample s row)
      sampled_still row k =
          ap (λ samples. one_if (not row.deleting && (scales s row.id && not (option_map_or (nat_le (label_of s.moment)) (last_label samples) false))))
          (samples_still row.id ActiveTasks k)

  -- a pool less is to become steady
  drop_falls : IsWithinLimits s → lex_lt (rank after) (rank s) ≡ true
  drop_falls h =
      let whole : (is_resizing pool.alloc && nat_eq pool.dedicated 0 && nat_eq pool.low 0 && not (scales s pool.id)) ≡ true =
      asked pool.deleting _ (each_found (is_deleting_whole s) test pool s.pools found h.pools.deleting)
      (and_first pool.deleting (not (has_node s pool.id)) gone)
      in
      let one : one_unless (is_steady pool.alloc) ≡ 1 = resizing_counts pool.alloc (and_first _ _ (and_first _ _ (and_first _ _ whole))) in
      let fewer : pools_left after < pools_left s =
      sum_dropped keeps_pool (steps_of_pool s) test pool s.pools found (rw (same_equiv.refl pool.id) refl) (omega (arith, one))
      in
      lex_next _ _ _ _ no_more_scaling (lex_next _ _ _ _ (omega arith) (lex_first _ _ _ _ fewer refl))

  -- the pool is dropped
  pub pool_dropped_kept : (seats : ℕ) → IsSound seats s → IsDueKept seats s (pool_dropped s pool)
  pool_dropped_kept seats h = record {
    sound = record {
      consistent = consistent_dropped seats h.consistent;
      limited = limited_dropped h.limited;
      unended = each_kept keeps_run has_no_end_yet s.runs h.unended;
      starts = starts_dropped h.consistent.naming.on_nodes h.starts;
      preparing = preps_dropped h.preparing;
      resting = rest_dropped h.resting;
    };
    falls = drop_falls h.limited;
    places = tt;
    ends = tt;
    releases = tt;
  }
