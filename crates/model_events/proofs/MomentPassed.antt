-- Tables stay sound when the last moment rises.
use Rattle.std.proofs.Common.{ℕ, refl, arith, ◌≡◌, ◌≤◌, true, nat_le, max, Option, Some, None}
use Rattle.std.proofs.lemmas.Bool.Decides.{nat_tests}
use Rattle.bt_base.specs.Moments.{last_moment}
use Rattle.bt_rows.specs.Ranges.{passes_if_some}
use Rattle.batch_model.specs.Events.{at_moment}
use Rattle.batch_model.specs.Limits.{seat_limit}
use Rattle.batch_model.specs.Sound.{IsConsistent, IsWithinLimits, IsSound}
use Rattle.batch_model.specs.Variants.{State, empty_state, PoolRow, JobRow, TaskRow, Closed, RunRow, SampleRow}
use Rattle.batch_model.specs.WellFormed.{is_past_if_some, is_closed_past, is_pool_valid, is_job_valid, is_task_valid, is_run_valid, is_sample_valid}
use Rattle.model_lists.proofs.Tests.{and_true, and_first, and_second}
use Rattle.model_lists.proofs.RowLists.{each_weaker}
use Rattle.model_tables.proofs.PrepsKept.{preps_with_others}

-- empty tables are sound
consistent_empty : (seats : ℕ) → seats ≤ seat_limit → IsConsistent seats empty_state
consistent_empty seats few = record {
  keys = record { pools = tt; nodes = tt; jobs = tt; tasks = tt; runs = tt; preps = tt; samples = tt; scales = tt };
  numbers = record { begun = omega arith; runs = refl; nodes = refl; nodes_of_runs = refl; order = tt };
  fitting = record { marks = refl; closing = refl; attempts = refl };
  named = record { jobs_of_tasks = refl; jobs_of_runs = refl; tasks_of_runs = refl; main_runs = tt };
  seated = record { few = few; distinct = tt; in_range = refl; pools_of_nodes = refl; nodes_of_runs = refl };
  belonging = refl;
  ending = refl;
  naming = record { on_nodes = refl; of_jobs = refl };
  slots = refl;
  built = record { runs = refl };
}

-- sound tables are sound at a later moment
consistent_moment : (seats now : ℕ) (s : State) → IsConsistent seats s → IsConsistent seats (at_moment now s)
consistent_moment seats now s h = record {
  keys = record {
    pools = h.keys.pools;
    nodes = h.keys.nodes;
    jobs = h.keys.jobs;
    tasks = h.keys.tasks;
    runs = h.keys.runs;
    preps = h.keys.preps;
    samples = h.keys.samples;
    scales = h.keys.scales;
  };
  numbers = record {
    begun = h.numbers.begun;
    runs = h.numbers.runs;
    nodes = h.numbers.nodes;
    nodes_of_runs = h.numbers.nodes_of_runs;
    order = h.numbers.order;
  };
  fitting = record { marks = h.fitting.marks; closing = h.fitting.closing; attempts = h.fitting.attempts };
  named = record {
    jobs_of_tasks = h.named.jobs_of_tasks;
    jobs_of_runs = h.named.jobs_of_runs;
    tasks_of_runs = h.named.tasks_of_runs;
    main_runs = h.named.main_runs;
  };
  seated = record {
    distinct = h.seated.distinct;
    in_range = h.seated.in_range;
    few = h.seated.few;
    pools_of_nodes = h.seated.pools_of_nodes;
    nodes_of_runs = h.seated.nodes_of_runs;
  };
  belonging = h.belonging;
  ending = h.ending;
  naming = record { on_nodes = h.naming.on_nodes; of_jobs = h.naming.of_jobs };
  slots = h.slots;
  built = record { runs = h.built.runs };
}

-- empty tables are within the limits
limited_empty : IsWithinLimits empty_state
limited_empty = record {
  rows = record { moment = omega arith; pools = refl; nodes = refl; jobs = refl; tasks = refl; runs = refl; samples = refl; scales = refl };
  counts = record {
    pools = omega arith;
    jobs = omega arith;
    tasks = omega arith;
    first_node = omega arith;
    next_node = omega arith;
    first_run = omega arith;
    next_run = omega arith;
  };
  quiet = refl;
  pools = record { deleting = refl; pools_of_scales = refl; pools_of_samples = refl; labels = refl; order = tt; covered = refl; kept = refl };
}

module _ (now later : ℕ) (h : now ≤ later) where
  -- what is not after a moment is not after a later one
  past_later : (at : ℕ) → nat_le at now ≡ true → nat_le at later ≡ true
  past_later at k = grind (arith, nat_tests)

  -- where there is a moment
  option_later : (at : Option ℕ) → is_past_if_some now at ≡ true → is_past_if_some later at ≡ true
  option_later None k = refl
  option_later (Some at) k = past_later at k

  -- where a task is closed
  closed_later : (closed : Option Closed) → passes_if_some (is_closed_past now) closed ≡ true → passes_if_some (is_closed_past later) closed ≡ true
  closed_later None k = refl
  closed_later (Some closed) k = past_later closed.at k

  -- a row that is valid at a moment is valid at a later one

  pool_later : (pool : PoolRow) → is_pool_valid now pool ≡ true → is_pool_valid later pool ≡ true
  pool_later pool k =
      and_true (and_first _ _ k)
      (and_true (past_later pool.began (and_first _ _ (and_second _ _ k))) (option_later pool.enabled (and_second _ _ (and_second _ _ k))))

  job_later : (job : JobRow) → is_job_valid now job ≡ true → is_job_valid later job ≡ true
  job_later job k = and_true (and_first _ _ k) (past_later job.created (and_second _ _ k))

  task_later : (task : TaskRow) → is_task_valid now task ≡ true → is_task_valid later task ≡ true
  task_later task k =
      and_true
      (and_true (and_first _ _ (and_first _ _ k))
      (and_true (option_later task.started (and_first _ _ (and_second _ _ (and_first _ _ k))))
      (closed_later task.closed (and_second _ _ (and_second _ _ (and_first _ _ k))))))
      (and_second _ _ k)

  run_later : (run : RunRow) → is_run_valid now run ≡ true → is_run_valid later run ≡ true
  run_later run k =
      and_true
      (and_true (and_first _ _ (and_first _ _ k))
      (and_true
      (and_true (past_later run.made (and_first _ _ (and_first _ _ (and_second _ _ (and_first _ _ k)))))
      (option_later run.taken (and_second _ _ (and_first _ _ (and_second _ _ (and_first _ _ k))))))
      (option_later run.ended (and_second _ _ (and_second _ _ (and_first _ _ k))))))
      (and_second _ _ k)

  sample_later : (sample : SampleRow) → is_sample_valid now sample ≡ true → is_sample_valid later sample ≡ true
  sample_later sample k = and_true (and_first _ _ k) (past_later sample.label (and_second _ _ k))

-- tables within the limits are so at a later moment
limited_moment : (now : ℕ) (s : State) → now ≤ last_moment → IsWithinLimits s → IsWithinLimits (at_moment now s)
limited_moment now s last h =
    let before : s.moment ≤ last_moment = h.rows.moment in
    let passes : s.moment ≤ max s.moment now = omega arith in
    record {
      rows = record {
        moment = omega arith;
        pools = each_weaker (is_pool_valid s.moment) (is_pool_valid (max s.moment now)) (pool_later s.moment (max s.moment now) passes) s.pools h.rows.pools;
        nodes = h.rows.nodes;
        jobs = each_weaker (is_job_valid s.moment) (is_job_valid (max s.moment now)) (job_later s.moment (max s.moment now) passes) s.jobs h.rows.jobs;
        tasks = each_weaker (is_task_valid s.moment) (is_task_valid (max s.moment now)) (task_later s.moment (max s.moment now) passes) s.tasks h.rows.tasks;
        runs = each_weaker (is_run_valid s.moment) (is_run_valid (max s.moment now)) (run_later s.moment (max s.moment now) passes) s.runs h.rows.runs;
        samples =
            each_weaker (is_sample_valid s.moment) (is_sample_valid (max s.moment now))
            (sample_later s.moment (max s.moment now) passes) s.samples h.rows.samples;
        scales = h.rows.scales;
      };
      counts = record {
        pools = h.counts.pools;
        jobs = h.counts.jobs;
        tasks = h.counts.tasks;
        first_node = h.counts.first_node;
        next_node = h.counts.next_node;
        first_run = h.counts.first_run;
        next_run = h.counts.next_run;
      };
      quiet = h.quiet;
      pools = record {
        deleting = h.pools.deleting;
        pools_of_scales = h.pools.pools_of_scales;
        pools_of_samples = h.pools.pools_of_samples;
        labels = h.pools.labels;
        order = h.pools.order;
        covered = h.pools.covered;
        kept = h.pools.kept;
      };
    }

-- sound tables are sound at a later moment
pub sound_at_moment : (seats now : ℕ) (s : State) → now ≤ last_moment → IsSound seats s → IsSound seats (at_moment now s)
sound_at_moment seats now s last h = record {
  consistent = consistent_moment seats now s h.consistent;
  limited = limited_moment now s last h.limited;
  unended = h.unended;
  starts = record { usable = h.starts.usable; tries = h.starts.tries };
  preparing = preps_with_others s s.pools s.tasks (max s.moment now) h.preparing;
  resting = h.resting;
}
