-- A row in the place of the job with its id: tables with it are sound, as far as its values and its placed tasks allow.
use Rattle.std.proofs.Common.{◌≡◌, ℕ, Bool, true, false, not, ◌&&◌, List, Option, Some, None, refl, sym, ◌∙◌}
use Rattle.std.specs.List.{list_any, find}
use Rattle.std.specs.Option.{option_map_or}
use Rattle.bt_base.proofs.SameIds.{same_equiv}
use Rattle.bt_rows.specs.Keys.{same_job}
use Rattle.bt_rows.specs.Lists.{AreDistinct}
use Rattle.batch_model.specs.Finding.{names}
use Rattle.batch_model.specs.Rows.{is_job, put_job}
use Rattle.batch_model.specs.Preps.{waits_for_preparation}
use Rattle.batch_model.specs.Sound.{IsConsistent, IsWithinLimits, IsSound, is_at_rest, waits_in}
use Rattle.batch_model.specs.WellFormed.{has_job_row, has_named_job, is_job_valid, has_no_placed_if_quiet}
use Rattle.batch_model.specs.Variants.{State, JobRow, TaskRow, RunRow}
use Rattle.batch_model.specs.Limits.{job_limit}
use Rattle.model_lists.proofs.Tests.{and_true, and_first, and_second}
use Rattle.model_lists.proofs.RowLists.{each_any, each_weaker, any_weaker, any_none, none_any, any_found}
use Rattle.model_lists.proofs.ChangedRows.{each_change, each_change_same, any_change_same}
use Rattle.model_lists.proofs.DistinctLists.{distinct_change}
use Rattle.model_lists.proofs.Lengths.{change_keeps_length}
use Rattle.model_tables.proofs.PrepsKept.{preps_with_jobs}

-- a job that was found waits for its preparation as its row says
pub found_waits : (s : State) (test : JobRow → Bool) (job : JobRow) → find test s.jobs ≡ Some job → waits_for_preparation job ≡ true
    → list_any (λ other. is_job job.id other && waits_for_preparation other) s.jobs ≡ true
found_waits s test job found waits =
    any_found (λ other. is_job job.id other && waits_for_preparation other) test job s.jobs found (and_true (same_equiv.refl job.id) waits)

module _ (s : State) (row : JobRow) where
  -- the row has the key of the job that it takes the place of
  has_key_left : (x y : JobRow) → is_job row.id x ≡ true → same_job row y ≡ same_job x y
  has_key_left x y t = sym (same_equiv.congr x.id row.id y.id t)

  -- the same, on the right
  has_key_right : (x y : JobRow) → is_job row.id y ≡ true → same_job x row ≡ same_job x y
  has_key_right x y t = same_equiv.symm x.id row.id ∙ sym (same_equiv.congr y.id row.id x.id t) ∙ same_equiv.symm y.id x.id

  -- ids of jobs stay distinct
  jobs_distinct : AreDistinct same_job s.jobs → AreDistinct same_job (put_job row s).jobs
  jobs_distinct d = distinct_change (is_job row.id) (λ (old : JobRow). row) same_job has_key_left has_key_right s.jobs d

  -- jobs that have rows still have them
  job_row_kept : (id : List ℕ) → has_job_row s id ≡ true → has_job_row (put_job row s) id ≡ true
  job_row_kept id h =
      any_change_same (is_job row.id) (λ (old : JobRow). row) (is_job id) (λ x t. has_key_left x (record row { id = id }) t) s.jobs ∙ h

  -- a job that is named still has a row
  named_job_kept : (name : Option (List ℕ)) → option_map_or (has_job_row s) name true ≡ true → option_map_or (has_job_row (put_job row s)) name true ≡ true
  named_job_kept None h = refl
  named_job_kept (Some id) h = job_row_kept id h

  -- the rows fit each other
  pub consistent_job_put : (seats : ℕ) → IsConsistent seats s → IsConsistent seats (put_job row s)
  consistent_job_put seats h = record {
    keys = record {
      pools = h.keys.pools;
      nodes = h.keys.nodes;
      jobs = jobs_distinct h.keys.jobs;
      tasks = h.keys.tasks;
      runs = h.keys.runs;
      preps = h.keys.preps;
      samples = h.keys.samples;
      scales = h.keys.scales;
    };
    numbers = record {
      begun = h.numbers.begun;
      runs = h.numbers.runs;
      nodes = h.numbers.nodes;
      nodes_of_runs = h.numbers.nodes_of_runs;
      order = h.numbers.order;
    };
    fitting = record { marks = h.fitting.marks; closing = h.fitting.closing; attempts = h.fitting.attempts };
    named = record {
      jobs_of_tasks =
          each_weaker (λ (task : TaskRow). has_job_row s task.job) (λ (task : TaskRow). has_job_row (put_job row s) task.job)
          (λ task. job_row_kept task.job) s.tasks h.named.jobs_of_tasks;
      jobs_of_runs = each_weaker (has_named_job s) (has_named_job (put_job row s)) (λ run. named_job_kept run.job) s.runs h.named.jobs_of_runs;
      tasks_of_runs = h.named.tasks_of_runs;
      main_runs = h.named.main_runs;
    };
    seated = record {
      distinct = h.seated.distinct;
      in_range = h.seated.in_range;
      few = h.seated.few;
      pools_of_nodes = h.seated.pools_of_nodes;
      nodes_of_runs = h.seated.nodes_of_runs;
    };
    belonging = h.belonging;
    ending = h.ending;
    naming = record { on_nodes = h.naming.on_nodes; of_jobs = h.naming.of_jobs };
    slots = h.slots;
    built = record { runs = h.built.runs };
  }

  -- its values are valid, and it has no placed task if it is quiet
  pub limited_job_put : IsWithinLimits s → is_job_valid s.moment row ≡ true → has_no_placed_if_quiet s row ≡ true → IsWithinLimits (put_job row s)
  limited_job_put h valid quiet = record {
    rows = record {
      moment = h.rows.moment;
      pools = h.rows.pools;
      nodes = h.rows.nodes;
      jobs = each_change_same (is_job row.id) (λ (old : JobRow). row) (is_job_valid s.moment) (λ x t p. valid) s.jobs h.rows.jobs;
      tasks = h.rows.tasks;
      runs = h.rows.runs;
      samples = h.rows.samples;
      scales = h.rows.scales;
    };
    counts = record {
      pools = h.counts.pools;
      jobs = change_keeps_length (is_job row.id) (λ (old : JobRow). row) job_limit s.jobs h.counts.jobs;
      tasks = h.counts.tasks;
      first_node = h.counts.first_node;
      next_node = h.counts.next_node;
      first_run = h.counts.first_run;
      next_run = h.counts.next_run;
    };
    quiet = each_change_same (is_job row.id) (λ (old : JobRow). row) (has_no_placed_if_quiet s) (λ x t p. quiet) s.jobs h.quiet;
    pools = record {
      deleting = h.pools.deleting;
      pools_of_scales = h.pools.pools_of_scales;
      pools_of_samples = h.pools.pools_of_samples;
      labels = h.pools.labels;
      order = h.pools.order;
      covered = h.pools.covered;
      kept = h.pools.kept;
    };
  }

  -- runs of the job wait for its preparation as they did
  waits_before : (waits_for_preparation row ≡ true → list_any (λ job. is_job row.id job && waits_for_preparation job) s.jobs ≡ true) → (run : RunRow)
      → waits_in (put_job row s) run ≡ true → waits_in s run ≡ true
  waits_before waited run h = either (waits_in s run) refl
    where
      in_row : (name : Option (List ℕ)) → names name row.id ≡ true → (job : JobRow) → (is_job row.id job && waits_for_preparation job) ≡ true
          → (names name job.id && waits_for_preparation job) ≡ true
      in_row None n job k = cc
      in_row (Some id) n job k =
          and_true (same_equiv.congr id row.id job.id n ∙ (same_equiv.symm row.id job.id ∙ and_first (is_job row.id job) _ k)) (and_second (is_job row.id job) _ k)

      not_row : (n w : Bool) → (n ≡ true → w ≡ true → waits_in s run ≡ true) → waits_in s run ≡ false → not (n && w) ≡ true
      not_row true true give k = let e : waits_in s run ≡ true = give refl refl in cc
      not_row true false give k = refl
      not_row false w give k = refl

      either : (b : Bool) → waits_in s run ≡ b → b ≡ true
      either true e = refl
      either false e =
          let none : list_any (λ job. names run.job job.id && waits_for_preparation job) (put_job row s).jobs ≡ false =
          none_any (λ job. names run.job job.id && waits_for_preparation job) (put_job row s).jobs
          (each_change (is_job row.id) (λ (old : JobRow). row) (λ job. not (names run.job job.id && waits_for_preparation job))
          (λ job. not (names run.job job.id && waits_for_preparation job))
          (λ job t k. not_row (names run.job row.id) (waits_for_preparation row) (λ n w. any_weaker (λ job. is_job row.id job && waits_for_preparation job)
          (λ job. names run.job job.id && waits_for_preparation job) (in_row run.job n) s.jobs (waited w)) e)
          (λ job t k. k) s.jobs (any_none (λ job. names run.job job.id && waits_for_preparation job) s.jobs e))
          in
          cc

  -- all of these, and its preparation is waited for as it was, and no run of it is unended if it is completed
  pub sound_job_put : (seats : ℕ) → IsSound seats s → is_job_valid s.moment row ≡ true → has_no_placed_if_quiet s row ≡ true
      → (waits_for_preparation row ≡ true → list_any (λ job. is_job row.id job && waits_for_preparation job) s.jobs ≡ true) → is_at_rest s row ≡ true
      → IsSound seats (put_job row s)
  sound_job_put seats h valid quiet waited rests = record {
    consistent = consistent_job_put seats h.consistent;
    limited = limited_job_put h.limited valid quiet;
    unended = h.unended;
    starts = record { usable = h.starts.usable; tries = h.starts.tries };
    preparing =
        preps_with_jobs s (put_job row s).jobs (λ run. true) job_row_kept (λ run a. waits_before waited run) (each_any (λ run. true) (λ run. refl) s.runs)
        h.preparing;
    resting = each_change_same (is_job row.id) (λ (old : JobRow). row) (is_at_rest s) (λ job t k. rests) s.jobs h.resting;
  }
