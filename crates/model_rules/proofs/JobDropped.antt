-- A job that is removed with its tasks and runs, of which none is placed or unended: the tables stay sound.
use Rattle.std.proofs.Common.{◌≡◌, ℕ, ◌≤◌, Bool, true, false, not, ◌&&◌, ◌||◌, nat_eq, nat_lt, nat_le, List, Option, Some, None, is_none, is_some, refl, sym, ◌∙◌}
use Rattle.std.proofs.Common.{ap, arith, length, cond}
use Rattle.std.specs.List.{list_any, list_all}
use Rattle.std.specs.Option.{option_map_or, option_and_then}
use Rattle.std.specs.Cmp.{nat_eq_equiv}
use Rattle.bt_base.specs.Ids.{same}
use Rattle.bt_base.proofs.SameIds.{same_equiv}
use Rattle.bt_rows.specs.Keys.{same_job, same_task, same_run, same_prep}
use Rattle.batch_model.specs.Finding.{Each, names}
use Rattle.batch_model.specs.Rows.{is_job}
use Rattle.batch_model.specs.Runs.{is_unended, is_start, is_main, is_work, is_present, is_busy_for, is_run_of_task, ending_of}
use Rattle.batch_model.specs.Tasks.{is_placed, is_in_job, is_placed_in, is_undisturbed, is_busy, main_ending}
use Rattle.batch_model.specs.Jobs.{is_quiet}
use Rattle.batch_model.specs.JobRules.{drop_job}
use Rattle.batch_model.specs.Nodes.{is_usable}
use Rattle.batch_model.specs.Slots.{owns, held_slots, holds_on}
use Rattle.batch_model.specs.Sound.{IsConsistent, IsWithinLimits, IsSound, StartsAreSound, has_node_while_unended, belongs, can_be_settled, fits_nodes, is_of_pool}
use Rattle.batch_model.specs.Sound.{names_no_task, has_no_end_yet, has_usable_start, awaits_no_start, has_started, has_ended_well}
use Rattle.batch_model.specs.WellFormed.{is_job_valid, is_task_valid, is_run_valid, has_fitting_marks, is_closed_if_completed, has_job_row, has_named_job}
use Rattle.batch_model.specs.WellFormed.{has_named_task, is_task_of_attempt, are_one_attempt, has_no_placed_if_quiet, has_few_tries, is_unended_start_on}
use Rattle.batch_model.specs.Variants.{State, NodeRow, JobRow, TaskRow, RunRow, PrepRow}
use Rattle.std.proofs.Common.{count_by}
use Rattle.batch_model.specs.Runs.{is_open_preparation, is_at_prep, is_release}
use Rattle.batch_model.specs.Jobs.{is_job_completed}
use Rattle.model_lists.proofs.Tests.{and_true}
use Rattle.batch_model.specs.JobRules.{is_unended_of, has_unended_run}
use Rattle.batch_model.specs.Preps.{waits_for_preparation}
use Rattle.batch_model.specs.Sound.{PreparationsAreSound, CompletedJobsRest, has_node_row, has_prep_where, runs_yet, is_completed_prep, is_released, has_running_prep}
use Rattle.batch_model.specs.Sound.{prepare_the_same, waits_in, is_work_begun, is_prepared_run, has_known_release, is_at_rest}
use Rattle.batch_model.specs.WellFormed.{is_preparing, has_few_preparations}
use Rattle.model_lists.proofs.Tests.{and_first, and_second}
use Rattle.model_lists.proofs.RowLists.{each_weaker, each_of_two}
use Rattle.model_lists.proofs.KeptRows.{kept_pass, each_kept, none_kept, any_kept, distinct_kept, any_still, any_still_where, find_still, sum_kept, sum_passing_kept}
use Rattle.model_lists.proofs.KeptRows.{length_kept, each_swap}
use Rattle.model_tables.proofs.NotBuilt.{is_built}
use Rattle.model_tables.proofs.RunsMove.{slots_suffice}
use Rattle.model_tables.proofs.StartsKept.{is_good_start, starts_on, few_still}
use Rattle.model_tables.proofs.TasksStopped.{settled_alike}
use Rattle.model_tables.proofs.TaskMoved.{less_placed}

-- ids

-- what is the same as an id that is not this one is not this one
pub not_same : (one other id : List ℕ) → same one other ≡ true → not (same other id) ≡ true → not (same one id) ≡ true
not_same one other id h k = ap not (same_equiv.congr one other id h) ∙ k

-- what is named by a name that does not name this id
other_job : (name : Option (List ℕ)) (one id : List ℕ) → names name one ≡ true → not (names name id) ≡ true → not (same one id) ≡ true
other_job None one id h k = cc
other_job (Some own) one id h k = ap not (sym (same_equiv.congr own one id h)) ∙ k

-- a name of an id that is not this one does not name this one
other_name : (name : Option (List ℕ)) (one id : List ℕ) → names name one ≡ true → not (same one id) ≡ true → not (names name id) ≡ true
other_name None one id h k = cc
other_name (Some own) one id h k = ap not (same_equiv.congr own one id h) ∙ k

-- an absent name names nothing
none_names : (name : Option (List ℕ)) (id : List ℕ) → is_none name ≡ true → not (names name id) ≡ true
none_names None id h = refl
none_names (Some own) id h = cc

-- a test beside others from which another follows
or_later : (a b c : Bool) → (b ≡ true → c ≡ true) → (a || b) ≡ true → (a || c) ≡ true
or_later true b c give h = refl
or_later false b c give h = give h

module _ (id : List ℕ) (s : State) where
  -- the tables after the step
  abbrev after : State
  after = drop_job id s

  -- what is kept
  abbrev keeps_job : JobRow → Bool
  keeps_job job = not (is_job id job)

  abbrev keeps_task : TaskRow → Bool
  keeps_task task = not (is_in_job id task)

  abbrev keeps_run : RunRow → Bool
  keeps_run run = not (names run.job id)

  abbrev keeps_prep : PrepRow → Bool
  keeps_prep prep = not (same prep.job id)

  -- the job of a run of a task
  job_of_run : (task : TaskRow) (run : RunRow) → is_present task run ≡ true → names run.job task.job ≡ true
  job_of_run task run h = and_first _ (names run.task task.id) (and_first (is_run_of_task task.job task.id run) (nat_eq run.attempt task.attempt) h)

  -- jobs with another id still have rows
  row_still : (job : List ℕ) → has_job_row s job ≡ true → not (same job id) ≡ true → has_job_row after job ≡ true
  row_still job h k = any_still keeps_job (is_job job) (λ (row : JobRow) e. not_same row.id job id e k) s.jobs ∙ h

  -- and those that kept runs name
  named_still : (name : Option (List ℕ)) → option_map_or (has_job_row s) name true ≡ true → not (names name id) ≡ true
      → option_map_or (has_job_row after) name true ≡ true
  named_still None h k = refl
  named_still (Some job) h k = row_still job h k

  -- a kept run names the same task
  task_still : (run : RunRow) → has_named_task s run ≡ true → keeps_run run ≡ true → has_named_task after run ≡ true
  task_still run h k =
      or_later (is_none run.task) (list_any (is_task_of_attempt run) s.tasks) (list_any (is_task_of_attempt run) after.tasks)
      (λ e. any_still keeps_task (is_task_of_attempt run)
      (λ (task : TaskRow) t. other_job run.job task.job id
      (and_first _ (names run.task task.id) (and_first (is_run_of_task task.job task.id run) (nat_le run.attempt task.attempt) t)) k)
      s.tasks ∙ e) h

  -- it belongs to the same task
  belongs_still : (run : RunRow) → belongs s run ≡ true → keeps_run run ≡ true → belongs after run ≡ true
  belongs_still run h k =
      or_later (not (is_work run.kind && is_unended run.state)) (list_any (owns run) s.tasks) (list_any (owns run) after.tasks)
      (λ e. any_still keeps_task (owns run)
      (λ (task : TaskRow) t. other_job run.job task.job id (job_of_run task run (and_second (is_placed task.stage) (is_present task run) t)) k) s.tasks ∙ e) h

  -- a kept task is as busy, and its main run has ended as before
  settled_still : (task : TaskRow) → can_be_settled s task ≡ true → keeps_task task ≡ true → can_be_settled after task ≡ true
  settled_still task h k =
      settled_alike (is_placed task.stage) (is_busy s task) (is_busy after task) (not (is_undisturbed task)) (is_some (main_ending s task))
      (is_some (main_ending after task))
      (any_still keeps_run (is_busy_for task)
      (λ run e. other_name run.job task.job id (job_of_run task run (and_first (is_present task run) (is_unended run.state) e)) k) s.runs)
      (ap (λ o. is_some (option_and_then (λ (run : RunRow). ending_of run.state) o))
      (find_still keeps_run (λ run. is_present task run && is_main run.kind)
      (λ run e. other_name run.job task.job id (job_of_run task run (and_first (is_present task run) (is_main run.kind) e)) k) s.runs))
      h

  -- nodes hold no more slots
  slots_after : (node : ℕ) → held_slots after node ≤ held_slots s node
  slots_after node =
      sum_passing_kept keeps_run (λ (run : RunRow). run.slots) (holds_on after node) (holds_on s node)
      (λ run. held_before (nat_eq run.node node) (list_any (owns run) after.tasks) (list_any (owns run) s.tasks) (any_kept keeps_task (owns run) s.tasks))
      s.runs
    where
      held_before : (a b c : Bool) → (b ≡ true → c ≡ true) → (a && b) ≡ true → (a && c) ≡ true
      held_before true b c give h = give h
      held_before false b c give h = h

  -- the rows fit each other
  consistent_dropped : (seats : ℕ) → IsConsistent seats s → IsConsistent seats after
  consistent_dropped seats h = record {
    keys = record {
      pools = h.keys.pools;
      nodes = h.keys.nodes;
      jobs = distinct_kept keeps_job same_job s.jobs h.keys.jobs;
      tasks = distinct_kept keeps_task same_task s.tasks h.keys.tasks;
      runs = distinct_kept keeps_run same_run s.runs h.keys.runs;
      preps = distinct_kept keeps_prep same_prep s.preps h.keys.preps;
      samples = h.keys.samples;
      scales = h.keys.scales;
    };
    numbers = record {
      begun = h.numbers.begun;
      runs = each_kept keeps_run (λ run. nat_lt run.number s.next_run) s.runs h.numbers.runs;
      nodes = h.numbers.nodes;
      nodes_of_runs = each_kept keeps_run (λ run. nat_lt run.node s.next_node) s.runs h.numbers.nodes_of_runs;
      order = h.numbers.order;
    };
    fitting = record {
      marks = each_kept keeps_task has_fitting_marks s.tasks h.fitting.marks;
      closing = each_kept keeps_task is_closed_if_completed s.tasks h.fitting.closing;
      attempts = each_kept keeps_task (λ task. nat_lt task.attempt s.next_run) s.tasks h.fitting.attempts;
    };
    named = record {
      jobs_of_tasks =
          each_of_two (λ (task : TaskRow). has_job_row s task.job) keeps_task (λ (task : TaskRow). has_job_row after task.job)
          (λ task. row_still task.job) after.tasks
          (each_kept keeps_task (λ (task : TaskRow). has_job_row s task.job) s.tasks h.named.jobs_of_tasks) (kept_pass keeps_task s.tasks);
      jobs_of_runs =
          each_of_two (has_named_job s) keeps_run (has_named_job after) (λ run. named_still run.job) after.runs
          (each_kept keeps_run (has_named_job s) s.runs h.named.jobs_of_runs) (kept_pass keeps_run s.runs);
      tasks_of_runs =
          each_of_two (has_named_task s) keeps_run (has_named_task after) task_still after.runs
          (each_kept keeps_run (has_named_task s) s.runs h.named.tasks_of_runs) (kept_pass keeps_run s.runs);
      main_runs = distinct_kept keeps_run are_one_attempt s.runs h.named.main_runs;
    };
    seated = record {
      distinct = h.seated.distinct;
      in_range = h.seated.in_range;
      few = h.seated.few;
      pools_of_nodes = h.seated.pools_of_nodes;
      nodes_of_runs = each_kept keeps_run (has_node_while_unended s) s.runs h.seated.nodes_of_runs;
    };
    belonging =
        each_of_two (belongs s) keeps_run (belongs after) belongs_still after.runs (each_kept keeps_run (belongs s) s.runs h.belonging)
        (kept_pass keeps_run s.runs);
    ending =
        each_of_two (can_be_settled s) keeps_task (can_be_settled after) settled_still after.tasks (each_kept keeps_task (can_be_settled s) s.tasks h.ending)
        (kept_pass keeps_task s.tasks);
    naming = record {
      on_nodes = each_kept keeps_run (fits_nodes s) s.runs h.naming.on_nodes;
      of_jobs = each_kept keeps_run names_no_task s.runs h.naming.of_jobs;
    };
    slots = slots_suffice (held_slots after) (held_slots s) s.pools slots_after s.nodes h.slots;
    built = record { runs = each_kept keeps_run is_built s.runs h.built.runs };
  }

  -- fewer rows of the same values
  limited_dropped : IsWithinLimits s → IsWithinLimits after
  limited_dropped h = record {
    rows = record {
      moment = h.rows.moment;
      pools = h.rows.pools;
      nodes = h.rows.nodes;
      jobs = each_kept keeps_job (is_job_valid s.moment) s.jobs h.rows.jobs;
      tasks = each_kept keeps_task (is_task_valid s.moment) s.tasks h.rows.tasks;
      runs = each_kept keeps_run (is_run_valid s.moment) s.runs h.rows.runs;
      samples = h.rows.samples;
      scales = h.rows.scales;
    };
    counts = record {
      pools = h.counts.pools;
      jobs = shorter (length after.jobs) (length s.jobs) _ (length_kept keeps_job s.jobs) h.counts.jobs;
      tasks = shorter (length after.tasks) (length s.tasks) _ (length_kept keeps_task s.tasks) h.counts.tasks;
      first_node = h.counts.first_node;
      next_node = h.counts.next_node;
      first_run = h.counts.first_run;
      next_run = h.counts.next_run;
    };
    quiet =
        each_weaker (has_no_placed_if_quiet s) (has_no_placed_if_quiet after)
        (λ job. less_placed (is_quiet job.state) (list_any (is_placed_in job.id) s.tasks) (list_any (is_placed_in job.id) after.tasks)
        (none_kept keeps_task (is_placed_in job.id) s.tasks))
        after.jobs (each_kept keeps_job (has_no_placed_if_quiet s) s.jobs h.quiet);
    pools = record {
      deleting = h.pools.deleting;
      pools_of_scales = h.pools.pools_of_scales;
      pools_of_samples = h.pools.pools_of_samples;
      labels = h.pools.labels;
      order = h.pools.order;
      covered = h.pools.covered;
      kept = h.pools.kept;
    };
  }
    where
      shorter : (a b limit : ℕ) → a ≤ b → b ≤ limit → a ≤ limit
      shorter a b limit h k = omega (arith, h, k)

  -- a start run on a node that is there is kept
  start_kept : (node : NodeRow) (run : RunRow) → is_of_pool run node ≡ true → is_good_start node.number run ≡ true → keeps_run run ≡ true
  start_kept node run fits good =
      none_names run.job id
      (no_job (nat_eq node.number run.node) (same node.pool run.pool) (is_start run.kind) (is_none run.job) (is_none run.task)
      (same_number run.node node.number (and_first _ (is_start run.kind) (and_first _ (has_ended_well run.state) good)))
      (and_second (nat_eq run.node node.number) (is_start run.kind) (and_first _ (has_ended_well run.state) good)) fits)
    where
      same_number : (a b : ℕ) → nat_eq a b ≡ true → nat_eq b a ≡ true
      same_number a b e = nat_eq_equiv.symm b a ∙ e

      no_job : (on pool start none_job none_task : Bool) → on ≡ true → start ≡ true
          → (not on || (pool && not (start && not (none_job && none_task)))) ≡ true → none_job ≡ true
      no_job true true true true none_task h k m = refl
      no_job true true true false none_task h k m = cc
      no_job true true false none_job none_task h k m = cc
      no_job true false start none_job none_task h k m = cc
      no_job false pool start none_job none_task h k m = cc

  -- start tasks
  starts_dropped : Each (fits_nodes s) s.runs → StartsAreSound s → StartsAreSound after
  starts_dropped fits h = record {
    usable =
        each_of_two (λ (node : NodeRow). list_all (λ run. is_of_pool run node) s.runs) (has_usable_start s) (has_usable_start after)
        (λ node all. or_later (not (is_usable node.stage) || awaits_no_start s node.pool) (has_started s node.number) (has_started after node.number)
        (λ e. any_still_where keeps_run (λ run. is_of_pool run node) (is_good_start node.number) (start_kept node) s.runs all ∙ e))
        s.nodes (each_swap is_of_pool s.runs s.nodes fits) h.usable;
    tries =
        each_weaker (has_few_tries s) (has_few_tries after)
        (λ (node : NodeRow). few_still node.tries (starts_on s.runs node.number) (starts_on after.runs node.number) s.next_run
        (sum_kept keeps_run (λ run. cond {A = ℕ} (is_unended_start_on node.number run) 1 0) s.runs))
        s.nodes h.tries;
  }

  -- a preparation of a kept run is kept
  prep_still : (test : PrepRow → Bool) (run : RunRow) → keeps_run run ≡ true → has_prep_where test after run ≡ has_prep_where test s run
  prep_still test run k =
      any_still keeps_prep (λ prep. is_at_prep prep run && test prep)
      (λ (prep : PrepRow) e. other_job run.job prep.job id (and_first (names run.job prep.job) _ (and_first (is_at_prep prep run) (test prep) e)) k) s.preps

  -- what a kept run is asked for, it still has
  still_asked : (a b c d : Bool) → (a ≡ true → b ≡ true) → d ≡ c → (not b || c) ≡ true → (not a || d) ≡ true
  still_asked true true c d e k h = rw k h
  still_asked true false c d e k h = let n : false ≡ true = e refl in cc
  still_asked false b c d e k h = refl

  -- preparations
  preps_dropped : PreparationsAreSound s → PreparationsAreSound after
  preps_dropped h = record {
    jobs_of_preps =
        each_of_two keeps_prep (λ (prep : PrepRow). has_job_row s prep.job) (λ (prep : PrepRow). has_job_row after prep.job)
        (λ prep k e. row_still prep.job e k) after.preps (kept_pass keeps_prep s.preps)
        (each_kept keeps_prep (λ (prep : PrepRow). has_job_row s prep.job) s.preps h.jobs_of_preps);
    nodes_of_preps = each_kept keeps_prep (λ (prep : PrepRow). has_node_row s prep.node) s.preps h.nodes_of_preps;
    running =
        each_of_two keeps_run (has_running_prep s) (has_running_prep after)
        (λ run k. still_asked (is_open_preparation run) (is_open_preparation run) (has_prep_where runs_yet s run) (has_prep_where runs_yet after run) (λ e. e)
        (prep_still runs_yet run k))
        after.runs (kept_pass keeps_run s.runs) (each_kept keeps_run (has_running_prep s) s.runs h.running);
    single = distinct_kept keeps_run prepare_the_same s.runs h.single;
    prepared =
        each_of_two keeps_run (is_prepared_run s) (is_prepared_run after)
        (λ run k. still_asked (is_work_begun run && waits_in after run) (is_work_begun run && waits_in s run) (has_prep_where is_completed_prep s run)
        (has_prep_where is_completed_prep after run)
        (λ e. and_true (and_first (is_work_begun run) (waits_in after run) e)
        (any_kept keeps_job (λ job. names run.job job.id && waits_for_preparation job) s.jobs (and_second (is_work_begun run) (waits_in after run) e)))
        (prep_still is_completed_prep run k))
        after.runs (kept_pass keeps_run s.runs) (each_kept keeps_run (is_prepared_run s) s.runs h.prepared);
    released =
        each_of_two keeps_run (has_known_release s) (has_known_release after)
        (λ run k. still_asked (is_release run.kind && has_node_row s run.node) (is_release run.kind && has_node_row s run.node)
        (has_prep_where is_released s run) (has_prep_where is_released after run) (λ e. e) (prep_still is_released run k))
        after.runs (kept_pass keeps_run s.runs) (each_kept keeps_run (has_known_release s) s.runs h.released);
    tries =
        each_weaker (has_few_preparations s) (has_few_preparations after)
        (λ (prep : PrepRow). few_still prep.tries (count_by (is_preparing prep) s.runs) (count_by (is_preparing prep) after.runs) s.next_run
        (sum_kept keeps_run (λ run. cond {A = ℕ} (is_preparing prep run) 1 0) s.runs))
        after.preps (each_kept keeps_prep (has_few_preparations s) s.preps h.tries);
  }

  -- completed jobs rest
  rest_dropped : CompletedJobsRest s → CompletedJobsRest after
  rest_dropped h =
      each_weaker (is_at_rest s) (is_at_rest after)
      (λ job. not_both (is_job_completed job.state) (has_unended_run s job.id) (has_unended_run after job.id) (any_kept keeps_run (is_unended_of job.id) s.runs))
      after.jobs (each_kept keeps_job (is_at_rest s) s.jobs h)
    where
      not_both : (a b c : Bool) → (c ≡ true → b ≡ true) → not (a && b) ≡ true → not (a && c) ≡ true
      not_both true b true e k = rw (e refl) at k
      not_both true b false e k = refl
      not_both false b c e k = refl

  -- the job is removed
  pub sound_dropped : (seats : ℕ) → IsSound seats s → IsSound seats (drop_job id s)
  sound_dropped seats h = record {
    consistent = consistent_dropped seats h.consistent;
    limited = limited_dropped h.limited;
    unended = each_kept keeps_run has_no_end_yet s.runs h.unended;
    starts = starts_dropped h.consistent.naming.on_nodes h.starts;
    preparing = preps_dropped h.preparing;
    resting = rest_dropped h.resting;
  }
