-- The opening makes well-formed tables sound.
use Rattle.std.proofs.Common.{◌≡◌, ℕ, Bool, true, false, not, ◌&&◌, ◌||◌, nat_eq, nat_lt, nat_le, List, Option, Some, None, is_some, is_none, refl, ◌∙◌, ap}
use Rattle.std.proofs.Common.{arith, ◌≤◌}
use Rattle.std.specs.List.{list_any, find}
use Rattle.std.specs.Option.{option_map, option_and_then}
use Rattle.std.proofs.lemmas.Bool.Decides.{nat_tests}
use Rattle.std.proofs.lemmas.List.{length-map}
use Rattle.bt_rows.specs.Keys.{same_pool, same_task, same_run}
use Rattle.bt_rows.specs.Ranges.{passes_if_some, is_slot_count, is_target, is_resize_timeout, is_start_in_range}
use Rattle.batch_model.specs.Finding.{Each, change_where}
use Rattle.batch_model.specs.Rows.{is_pool}
use Rattle.batch_model.specs.Runs.{is_unended, is_main, is_work, is_preparation, is_release, is_present, ending_of}
use Rattle.batch_model.specs.Tasks.{is_placed, is_placed_in, is_undisturbed, is_busy, main_ending}
use Rattle.batch_model.specs.Jobs.{is_quiet}
use Rattle.batch_model.specs.Pools.{is_stopping, is_resizing}
use Rattle.batch_model.specs.Slots.{owns}
use Rattle.batch_model.specs.Opening.{opening, is_refilled, refilled, is_emptied, emptied, is_cut_short, requeued, withdrawn}
use Rattle.batch_model.specs.Sound.{IsConsistent, IsWithinLimits, IsSound, has_node_row, has_node_while_unended, belongs, can_be_settled, fits_nodes}
use Rattle.batch_model.specs.Sound.{names_no_task, has_no_end_yet}
use Rattle.batch_model.specs.WellFormed.{KeysAreDistinct, RowsAreValid, CountsAreInRange, TasksAreFitting, NamedRowsAreThere, PoolsAreFitting, IsWellFormed}
use Rattle.batch_model.specs.WellFormed.{is_pool_valid, is_task_valid, is_run_valid, is_run_in_range, is_past_if_some, is_ended_in_order, has_fitting_marks}
use Rattle.batch_model.specs.WellFormed.{is_closed_if_completed, has_pool_row, has_job_row, has_named_job, has_named_task, is_task_of_attempt, are_one_attempt}
use Rattle.batch_model.specs.WellFormed.{has_no_placed_if_quiet, is_deleting_whole, scales}
use Rattle.batch_model.specs.Variants.{State, PoolRow, Alloc, Steady, Resizing, Stopping, JobRow, TaskRow, RunRow, RunState, Waiting, Queued, Taken, Ended}
use Rattle.batch_model.specs.Variants.{Withdrawn, SampleRow, ScaleRow}
use Rattle.batch_model.specs.Runs.{is_waiting, is_open_preparation, is_coordination}
use Rattle.std.proofs.Common.{[], ◌∷◌}
use Rattle.std.specs.Option.{option_map_or}
use Rattle.batch_model.specs.Finding.{names}
use Rattle.batch_model.specs.Limits.{seat_limit}
use Rattle.batch_model.specs.Jobs.{is_job_completed}
use Rattle.batch_model.specs.JobRules.{is_unended_of, has_unended_run}
use Rattle.batch_model.specs.Sound.{has_running_prep, prepare_the_same, is_prepared_run, waits_in, has_known_release, is_at_rest}
use Rattle.bt_rows.specs.Lists.{AreDistinct}
use Rattle.model_lists.proofs.Tests.{and_first, or_first, or_second, true_not}
use Rattle.model_lists.proofs.RowLists.{each_any, each_weaker, each_head, each_tail, none_any}
use Rattle.model_lists.proofs.ChangedRows.{changed, passes_changed, each_change, each_change_same, any_change_same, find_change}
use Rattle.model_lists.proofs.DistinctLists.{distinct_change}

-- a moment is not after itself
past_itself : (now : ℕ) → nat_le now now ≡ true
past_itself now = grind (arith, nat_tests)

-- runs

-- the run has not ended
abbrev is_going : RunRow → Bool
is_going run = is_unended run.state

-- it has ended
abbrev is_over : RunRow → Bool
is_over run = not (is_unended run.state)

-- no run is unended afterwards
runs_over : (now : ℕ) (runs : List RunRow) → Each is_over (change_where is_going (withdrawn now) runs)
runs_over now runs =
    each_change is_going (withdrawn now) (λ run. true) is_over (λ run t e. refl) (λ run t e. true_not t) runs
    (each_any (λ run. true) (λ run. refl) runs)

-- a test that is asked for of an unended run of some kind
not_both : (a b c : Bool) → not b ≡ true → (not (a && b) || c) ≡ true
not_both a true c h = cc
not_both true false c h = refl
not_both false false c h = refl

-- tests of which the second fails
neither : (a b : Bool) → not b ≡ true → not (a && b) ≡ true
neither a true h = cc
neither true false h = refl
neither false false h = refl

not_begun : (a b c d e : Bool) → not b ≡ true → (not (((a && b) && c) && d) || e) ≡ true
not_begun a true c d e h = cc
not_begun true false c d e h = refl
not_begun false false c d e h = refl

unasked : (a c : Bool) → (not (a && false) || c) ≡ true
unasked true c = refl
unasked false c = refl

-- no two runs prepare the same where none is unended
none_prepare : (runs : List RunRow) → Each is_over runs → AreDistinct prepare_the_same runs
none_prepare [] h = tt
none_prepare (run ∷ runs) h = (
  none_any (prepare_the_same run) runs
      (each_any (λ other. not (prepare_the_same run other))
      (λ other. alone (is_preparation run.kind) (is_unended run.state) (is_open_preparation other) (nat_eq run.node other.node)
      (option_map_or (names run.job) other.job false) (each_head is_over run runs h)) runs),
  none_prepare runs (each_tail is_over run runs h),
)
  where
    alone : (a b c d e : Bool) → not b ≡ true → not ((((a && b) && c) && d) && e) ≡ true
    alone a true c d e k = cc
    alone true false c d e k = refl
    alone false false c d e k = refl

-- tests of a run's values, moments and order, once it has ended at the last moment
run_ends : (value made taken ended to last now : Bool) → now ≡ true → (value && (made && taken && ended) && (to && last)) ≡ true
    → (value && (made && taken && now) && (to && (made && taken))) ≡ true
run_ends true true true true true last now n h = rw n refl
run_ends true true true true false last now n h = cc
run_ends true true true false to last now n h = cc
run_ends true true false ended to last now n h = cc
run_ends true false taken ended to last now n h = cc
run_ends false made taken ended to last now n h = cc

-- values and moments of the withdrawn run
run_valid : (now : ℕ) (run : RunRow) → is_run_valid now run ≡ true → is_run_valid now (withdrawn now run) ≡ true
run_valid now run h =
    run_ends (is_run_in_range run) (nat_le run.made now) (is_past_if_some now run.taken) (is_past_if_some now run.ended)
    (passes_if_some (nat_le run.made) run.taken) (passes_if_some (is_ended_in_order run) run.ended) (nat_le now now) (past_itself now) h

-- pools

-- tests of a pool's values: its own timeout again
timeout_again : (before usual timeout start : Bool) → (before && usual && timeout && start) ≡ true → (before && usual && usual && start) ≡ true
timeout_again true true true start h = h
timeout_again true true false start h = cc
timeout_again true false timeout start h = cc
timeout_again false usual timeout start h = cc

-- beside them, its moments
pool_begins : (before usual timeout start began enabled now : Bool) → now ≡ true → ((before && usual && timeout && start) && (began && enabled)) ≡ true
    → ((before && usual && usual && start) && (now && enabled)) ≡ true
pool_begins true true true true true enabled now n h = rw n h
pool_begins true true true true false enabled now n h = cc
pool_begins true true true false began enabled now n h = cc
pool_begins true true false start began enabled now n h = cc
pool_begins true false timeout start began enabled now n h = cc
pool_begins false usual timeout start began enabled now n h = cc

-- values and moments of a pool that resizes again
pool_valid : (now : ℕ) (pool : PoolRow) → is_pool_valid now pool ≡ true → is_pool_valid now (refilled now pool) ≡ true
pool_valid now pool h =
    pool_begins (is_slot_count pool.slots && is_target pool.dedicated && nat_eq pool.low 0) (is_resize_timeout pool.usual_timeout)
    (is_resize_timeout pool.timeout)
    (passes_if_some is_start_in_range pool.start) (nat_le pool.began now) (is_past_if_some now pool.enabled) (nat_le now now) (past_itself now) h

-- a stopping pool doesn't resize
stopping_not_resizing : (alloc : Alloc) → is_stopping alloc ≡ true → is_resizing alloc ≡ false
stopping_not_resizing Steady h = refl
stopping_not_resizing Resizing h = cc
stopping_not_resizing Stopping h = refl

-- a pool that is being deleted resizes
not_deleting : (deleting resizing dedicated low scaling : Bool) → resizing ≡ false → (not deleting || (resizing && dedicated && low && scaling)) ≡ true
    → not deleting ≡ true
not_deleting false resizing dedicated low scaling r h = refl
not_deleting true true dedicated low scaling r h = cc
not_deleting true false dedicated low scaling r h = cc

-- what is said of a pool that is being deleted
deleting_emptied : (s : State) (pool : PoolRow) → is_emptied pool ≡ true → is_deleting_whole s pool ≡ true → is_deleting_whole s (emptied pool) ≡ true
deleting_emptied s pool t h =
    or_first (is_resizing (emptied pool).alloc && nat_eq pool.dedicated 0 && nat_eq pool.low 0 && not (scales s pool.id))
    (not_deleting pool.deleting (is_resizing pool.alloc) (nat_eq pool.dedicated 0) (nat_eq pool.low 0) (not (scales s pool.id))
    (stopping_not_resizing pool.alloc (and_first (is_stopping pool.alloc) (nat_eq pool.dedicated 0) t)) h)

deleting_refilled : (s : State) (pool : PoolRow) → is_refilled pool ≡ true → is_deleting_whole s (refilled s.moment pool) ≡ true
deleting_refilled s pool t =
    or_first (is_resizing (refilled s.moment pool).alloc && nat_eq pool.dedicated 0 && nat_eq pool.low 0 && not (scales s pool.id))
    (and_first (not pool.deleting) (not (nat_eq pool.dedicated 0)) t)

-- tasks

-- the marks of a task that is cut short
marks_requeued : (s : State) (task : TaskRow) → is_cut_short s task ≡ true → has_fitting_marks (requeued task) ≡ true
marks_requeued s task t =
    or_first (is_undisturbed (requeued task) && is_none task.started)
    (and_first (is_placed task.stage) (is_undisturbed task) (and_first (is_placed task.stage && is_undisturbed task) (not (is_some (main_ending s task))) t))

-- the run has ended by itself
abbrev has_ending : RunRow → Bool
has_ending run = is_some (ending_of run.state)

-- a state with an ending is not unended
ending_is_over : (state : RunState) → is_some (ending_of state) ≡ true → is_unended state ≡ false
ending_is_over Waiting h = cc
ending_is_over Queued h = cc
ending_is_over Taken h = cc
ending_is_over (Ended ending) h = refl
ending_is_over Withdrawn h = cc

-- a run that has ended by itself stays so
ending_kept : (now : ℕ) (run : RunRow) → has_ending run ≡ true → has_ending (changed is_going (withdrawn now) run) ≡ true
ending_kept now run h =
    let over : is_unended run.state ≡ false = ending_is_over run.state h in
    passes_changed is_going (withdrawn now) has_ending run (λ t. cc) (λ t. h)

-- the same of a run that a search finds
found_ending_kept : (now : ℕ) (found : Option RunRow) → is_some (option_and_then (λ (run : RunRow). ending_of run.state) found) ≡ true
    → is_some (option_and_then (λ (run : RunRow). ending_of run.state) (option_map (changed is_going (withdrawn now)) found)) ≡ true
found_ending_kept now None h = h
found_ending_kept now (Some run) h = ending_kept now run h

-- a main run that has ended by itself stays so
main_ending_kept : (s : State) (task : TaskRow) → is_some (main_ending s task) ≡ true → is_some (main_ending (opening s) task) ≡ true
main_ending_kept s task h =
    rw (find_change is_going (withdrawn s.moment) (λ run. is_present task run && is_main run.kind) (λ run t. refl) s.runs)
    (found_ending_kept s.moment (find (λ run. is_present task run && is_main run.kind) s.runs) h)

-- tests of a task that is not cut short: whether it is placed, busy, undisturbed, and its main run ended, before and after
not_cut_short : (placed busy undisturbed ends after : Bool) → (placed && undisturbed && not ends) ≡ false → (ends ≡ true → after ≡ true)
    → (not placed || busy || not undisturbed || after) ≡ true
not_cut_short true true u e a h k = refl
not_cut_short true false false e a h k = refl
not_cut_short true false true true a h k = k refl
not_cut_short true false true false a h k = cc
not_cut_short false b u e a h k = refl

-- tables

module _ (s : State) (h : IsWellFormed s) where
  -- pools that have rows still have them
  pool_row_kept : (id : List ℕ) → has_pool_row s id ≡ true → has_pool_row (opening s) id ≡ true
  pool_row_kept id e =
      any_change_same is_emptied emptied (is_pool id) (λ pool t. refl) (change_where is_refilled (refilled s.moment) s.pools)
      ∙ any_change_same is_refilled (refilled s.moment) (is_pool id) (λ pool t. refl) s.pools
      ∙ e

  -- runs name the same tasks
  named_kept : (run : RunRow) → has_named_task s run ≡ true → has_named_task (opening s) run ≡ true
  named_kept run e =
      ap (λ b. is_none run.task || b) (any_change_same (is_cut_short s) requeued (is_task_of_attempt run) (λ task t. refl) s.tasks) ∙ e

  -- no placed task is added to a job
  quiet_kept : (job : JobRow) → has_no_placed_if_quiet s job ≡ true → has_no_placed_if_quiet (opening s) job ≡ true
  quiet_kept job e =
      ap (λ b. not (is_quiet job.state && b)) (any_change_same (is_cut_short s) requeued (is_placed_in job.id) (λ task t. refl) s.tasks) ∙ e

  -- keys
  opening_keys : KeysAreDistinct (opening s)
  opening_keys = record {
    pools = distinct_change is_emptied emptied same_pool (λ x y t. refl) (λ x y t. refl) (change_where is_refilled (refilled s.moment) s.pools)
        (distinct_change is_refilled (refilled s.moment) same_pool (λ x y t. refl) (λ x y t. refl) s.pools h.keys.pools);
    nodes = tt;
    jobs = h.keys.jobs;
    tasks = distinct_change (is_cut_short s) requeued same_task (λ x y t. refl) (λ x y t. refl) s.tasks h.keys.tasks;
    runs = distinct_change is_going (withdrawn s.moment) same_run (λ x y t. refl) (λ x y t. refl) s.runs h.keys.runs;
    preps = tt;
    samples = h.keys.samples;
    scales = h.keys.scales;
  }

  -- marks and closing
  opening_fitting : TasksAreFitting (opening s)
  opening_fitting = record {
    marks =
        each_change (is_cut_short s) requeued has_fitting_marks has_fitting_marks (λ task t e. marks_requeued s task t) (λ task t e. e) s.tasks h.fitting.marks;
    closing = each_change_same (is_cut_short s) requeued is_closed_if_completed (λ task t e. e) s.tasks h.fitting.closing;
    attempts = each_change_same (is_cut_short s) requeued (λ task. nat_lt task.attempt s.next_run) (λ task t e. e) s.tasks h.fitting.attempts;
  }

  -- rows that others name
  opening_named : NamedRowsAreThere (opening s)
  opening_named = record {
    jobs_of_tasks = each_change_same (is_cut_short s) requeued (λ task. has_job_row s task.job) (λ task t e. e) s.tasks h.named.jobs_of_tasks;
    jobs_of_runs = each_change_same is_going (withdrawn s.moment) (has_named_job s) (λ run t e. e) s.runs h.named.jobs_of_runs;
    tasks_of_runs =
        each_change is_going (withdrawn s.moment) (has_named_task s) (has_named_task (opening s)) (λ run t. named_kept run)
        (λ run t. named_kept run) s.runs h.named.tasks_of_runs;
    main_runs = distinct_change is_going (withdrawn s.moment) are_one_attempt (λ x y t. refl) (λ x y t. refl) s.runs h.named.main_runs;
  }

  -- the rows fit each other
  opening_consistent : (seats : ℕ) → seats ≤ seat_limit → IsConsistent seats (opening s)
  opening_consistent seats few = record {
    keys = opening_keys;
    numbers = record {
      begun = omega (arith, h.counts.first_run);
      runs = each_change_same is_going (withdrawn s.moment) (λ run. nat_lt run.number s.next_run) (λ run t e. e) s.runs h.counters.runs;
      nodes = refl;
      nodes_of_runs = each_change_same is_going (withdrawn s.moment) (λ run. nat_lt run.node s.next_node) (λ run t e. e) s.runs h.counters.nodes_of_runs;
      order = tt;
    };
    fitting = opening_fitting;
    named = opening_named;
    seated = record {
      distinct = tt;
      in_range = refl;
      few = few;
      pools_of_nodes = refl;
      nodes_of_runs = each_weaker is_over (has_node_while_unended (opening s)) (λ run. or_first (has_node_row (opening s) run.node)) (opening s).runs over;
    };
    belonging =
        each_weaker is_over (belongs (opening s)) (λ run. not_both (is_work run.kind) (is_unended run.state) (list_any (owns run) (opening s).tasks))
        (opening s).runs over;
    ending = each_change (is_cut_short s) requeued (λ task. true) (can_be_settled (opening s))
        (λ task t e. or_first (is_some (main_ending (opening s) (requeued task)))
        (or_second (not (is_placed task.stage) || is_busy (opening s) (requeued task)) refl))
        (λ task t e. not_cut_short (is_placed task.stage) (is_busy (opening s) task) (is_undisturbed task) (is_some (main_ending s task))
        (is_some (main_ending (opening s) task)) t (main_ending_kept s task))
        s.tasks (each_any (λ task. true) (λ task. refl) s.tasks);
    naming = record {
      on_nodes = each_any (fits_nodes (opening s)) (λ run. refl) (opening s).runs;
      of_jobs =
          each_weaker is_over names_no_task (λ run. not_both (is_preparation run.kind || is_release run.kind) (is_unended run.state) (is_none run.task))
          (opening s).runs over;
    };
    slots = refl;
    built = record {
      runs =
          each_weaker is_over (λ run. not (is_coordination run.kind && is_unended run.state))
          (λ run. neither (is_coordination run.kind) (is_unended run.state)) (opening s).runs over;
    };
  }
    where
      over : Each is_over (opening s).runs
      over = runs_over s.moment s.runs

  -- values and moments
  opening_rows : RowsAreValid (opening s)
  opening_rows = record {
    moment = h.rows.moment;
    pools = each_change_same is_emptied emptied (is_pool_valid s.moment) (λ pool t e. e) (change_where is_refilled (refilled s.moment) s.pools)
        (each_change_same is_refilled (refilled s.moment) (is_pool_valid s.moment) (λ pool t e. pool_valid s.moment pool e) s.pools h.rows.pools);
    nodes = refl;
    jobs = h.rows.jobs;
    tasks = each_change_same (is_cut_short s) requeued (is_task_valid s.moment) (λ task t e. e) s.tasks h.rows.tasks;
    runs = each_change_same is_going (withdrawn s.moment) (is_run_valid s.moment) (λ run t e. run_valid s.moment run e) s.runs h.rows.runs;
    samples = h.rows.samples;
    scales = h.rows.scales;
  }

  -- the same number of rows as before
  opening_counts : CountsAreInRange (opening s)
  opening_counts = record {
    pools = simp length-map h.counts.pools;
    jobs = h.counts.jobs;
    tasks = simp length-map h.counts.tasks;
    first_node = h.counts.first_node;
    next_node = h.counts.next_node;
    first_run = h.counts.first_run;
    next_run = h.counts.next_run;
  }

  -- pools, formulas and samples
  opening_pools : PoolsAreFitting (opening s)
  opening_pools = record {
    deleting =
        each_change_same is_emptied emptied (is_deleting_whole s) (λ pool. deleting_emptied s pool) (change_where is_refilled (refilled s.moment) s.pools)
        (each_change_same is_refilled (refilled s.moment) (is_deleting_whole s) (λ pool t e. deleting_refilled s pool t) s.pools h.pools.deleting);
    pools_of_scales =
        each_weaker (λ (scale : ScaleRow). has_pool_row s scale.pool) (λ (scale : ScaleRow). has_pool_row (opening s) scale.pool)
        (λ scale. pool_row_kept scale.pool) s.scales h.pools.pools_of_scales;
    pools_of_samples =
        each_weaker (λ (sample : SampleRow). has_pool_row s sample.pool) (λ (sample : SampleRow). has_pool_row (opening s) sample.pool)
        (λ sample. pool_row_kept sample.pool) s.samples h.pools.pools_of_samples;
    labels = h.pools.labels;
    order = h.pools.order;
    covered = h.pools.covered;
    kept = h.pools.kept;
  }

  -- the values of the rows are such as the service makes
  opening_limited : IsWithinLimits (opening s)
  opening_limited = record {
    rows = opening_rows;
    counts = opening_counts;
    quiet = each_weaker (has_no_placed_if_quiet s) (has_no_placed_if_quiet (opening s)) quiet_kept s.jobs h.quiet;
    pools = opening_pools;
  }

-- the opening of well-formed tables is sound, for at most 32 seats
pub sound_by_opening : (seats : ℕ) (s : State) → seats ≤ seat_limit → IsWellFormed s → IsSound seats (opening s)
sound_by_opening seats s few h = record {
  consistent = opening_consistent s h seats few;
  limited = opening_limited s h;
  unended = each_weaker is_over has_no_end_yet (λ run. or_first (is_none run.ended)) (opening s).runs (runs_over s.moment s.runs);
  starts = record { usable = refl; tries = refl };
  preparing = record {
    jobs_of_preps = refl;
    nodes_of_preps = refl;
    running =
        each_weaker is_over (has_running_prep (opening s)) (λ run. not_both (is_preparation run.kind) (is_unended run.state) false) (opening s).runs
        (runs_over s.moment s.runs);
    single = none_prepare (opening s).runs (runs_over s.moment s.runs);
    prepared =
        each_weaker is_over (is_prepared_run (opening s))
        (λ run. not_begun (is_work run.kind) (is_unended run.state) (not (is_waiting run.state)) (waits_in (opening s) run) false) (opening s).runs
        (runs_over s.moment s.runs);
    released = each_any (has_known_release (opening s)) (λ run. unasked (is_release run.kind) false) (opening s).runs;
    tries = refl;
  };
  resting =
      each_any (is_at_rest (opening s))
      (λ job. rests (is_job_completed job.state) (has_unended_run (opening s) job.id)
      (none_any (is_unended_of job.id) (opening s).runs
      (each_weaker is_over (λ run. not (is_unended_of job.id run)) (λ run. neither (names run.job job.id) (is_unended run.state)) (opening s).runs
      (runs_over s.moment s.runs)))) s.jobs;
}
  where
    rests : (a b : Bool) → b ≡ false → not (a && b) ≡ true
    rests true b e = rw e refl
    rests false b e = refl
