-- The event `add-job` keeps sound tables.
use Rattle.std.proofs.Common.{◌≡◌, ℕ, Bool, true, false, ◌&&◌, ◌||◌, List, Option, Some, None, refl, sym, ◌∙◌, nat_le}
use Rattle.std.proofs.Common.{length, is_some, inl, inr}
use Rattle.std.specs.Option.{option_map_or}
use Rattle.bt_rows.specs.Keys.{same_job}
use Rattle.bt_rows.specs.declared.event.JobSpec.{JobSpec}
use Rattle.bt_rows.specs.Ranges.{is_job_spec_in_range}
use Rattle.bt_rows.specs.declared.refusal.Refusal.TheVariants.{PoolNotFound}
use Rattle.bt_rows.specs.declared.refusal.Refusal.TheVariants.{TableFull}
use Rattle.bt_rows.specs.declared.refusal.Table.TheVariants.{Jobs}
use Rattle.batch_model.specs.Rows.{is_job, add_job_row, pool_of, job_of}
use Rattle.bt_base.proofs.SameIds.{same_equiv}
use Rattle.batch_model.specs.Finding.{names}
use Rattle.batch_model.specs.Preps.{waits_for_preparation}
use Rattle.batch_model.specs.Sound.{IsConsistent, IsWithinLimits, IsSound, is_at_rest, waits_in}
use Rattle.batch_model.specs.WellFormed.{has_job_row, has_named_job, is_job_valid}
use Rattle.batch_model.specs.WellFormed.{has_no_placed_if_quiet}
use Rattle.batch_model.specs.Variants.{State, JobRow, TaskRow, PoolRow, RunRow}
use Rattle.batch_model.specs.Jobs.{new_job}
use Rattle.batch_model.specs.Limits.{job_limit}
use Rattle.batch_model.specs.Events.{add_job, add_job_in}
use Rattle.batch_model.specs.Events.{add_job_refusals}
use Rattle.model_lists.proofs.RowLists.{each_weaker, any_append, any_agree, any_append_old, each_append, none_found}
use Rattle.model_lists.proofs.DistinctLists.{distinct_append}
use Rattle.model_lists.proofs.Tests.{and_true, passes_or_not}
use Rattle.model_lists.proofs.NextNumbers.{is_not_after_itself}
use Rattle.model_lists.proofs.Lengths.{takes_one}
use Rattle.model_tables.proofs.PrepsKept.{preps_with_jobs}
use Rattle.model_events.proofs.Keeping.{passed, answer_keeps, for_row_keeps}

-- a job that is named still has a row
named_job : (s : State) (job : JobRow) (name : Option (List ℕ)) → option_map_or (has_job_row s) name true ≡ true
    → option_map_or (has_job_row (add_job_row job s)) name true ≡ true
named_job s job None h = refl
named_job s job (Some id) h = any_append_old (is_job id) s.jobs job h

-- a job with a new id
consistent_job_added : (seats : ℕ) (s : State) (job : JobRow) → IsConsistent seats s → has_job_row s job.id ≡ false → IsConsistent seats (add_job_row job s)
consistent_job_added seats s job h new = record {
  keys = record {
    pools = h.keys.pools;
    nodes = h.keys.nodes;
    jobs = distinct_append same_job s.jobs job h.keys.jobs new;
    tasks = h.keys.tasks;
    runs = h.keys.runs;
    preps = h.keys.preps;
    samples = h.keys.samples;
    scales = h.keys.scales;
  };
  numbers = record {
    begun = h.numbers.begun;
    runs = h.numbers.runs;
    nodes = h.numbers.nodes;
    nodes_of_runs = h.numbers.nodes_of_runs;
    order = h.numbers.order;
  };
  fitting = record { marks = h.fitting.marks; closing = h.fitting.closing; attempts = h.fitting.attempts };
  named = record {
    jobs_of_tasks =
        each_weaker (λ (task : TaskRow). has_job_row s task.job) (λ (task : TaskRow). has_job_row (add_job_row job s) task.job)
        (λ task. any_append_old (is_job task.job) s.jobs job) s.tasks h.named.jobs_of_tasks;
    jobs_of_runs =
        each_weaker (has_named_job s) (has_named_job (add_job_row job s)) (λ run. named_job s job run.job) s.runs h.named.jobs_of_runs;
    tasks_of_runs = h.named.tasks_of_runs;
    main_runs = h.named.main_runs;
  };
  seated = record {
    distinct = h.seated.distinct;
    in_range = h.seated.in_range;
    few = h.seated.few;
    pools_of_nodes = h.seated.pools_of_nodes;
    nodes_of_runs = h.seated.nodes_of_runs;
  };
  belonging = h.belonging;
  ending = h.ending;
  naming = record { on_nodes = h.naming.on_nodes; of_jobs = h.naming.of_jobs };
  slots = h.slots;
  built = record { runs = h.built.runs };
}

-- a job whose values are in their ranges; it is active
limited_job_added : (s : State) (id in_pool : List ℕ) (spec : JobSpec) → IsWithinLimits s → is_job_spec_in_range spec ≡ true
    → nat_le job_limit (length s.jobs) ≡ false → IsWithinLimits (add_job_row (new_job s.moment id in_pool spec) s)
limited_job_added s id in_pool spec h in_range room = record {
  rows = record {
    moment = h.rows.moment;
    pools = h.rows.pools;
    nodes = h.rows.nodes;
    jobs =
        each_append (is_job_valid s.moment) s.jobs (new_job s.moment id in_pool spec) h.rows.jobs
        (and_true (and_true in_range refl) (is_not_after_itself s.moment));
    tasks = h.rows.tasks;
    runs = h.rows.runs;
    samples = h.rows.samples;
    scales = h.rows.scales;
  };
  counts = record {
    pools = h.counts.pools;
    jobs = takes_one job_limit s.jobs (new_job s.moment id in_pool spec) room;
    tasks = h.counts.tasks;
    first_node = h.counts.first_node;
    next_node = h.counts.next_node;
    first_run = h.counts.first_run;
    next_run = h.counts.next_run;
  };
  quiet = each_append (has_no_placed_if_quiet s) s.jobs (new_job s.moment id in_pool spec) h.quiet refl;
  pools = record {
    deleting = h.pools.deleting;
    pools_of_scales = h.pools.pools_of_scales;
    pools_of_samples = h.pools.pools_of_samples;
    labels = h.pools.labels;
    order = h.pools.order;
    covered = h.pools.covered;
    kept = h.pools.kept;
  };
}

-- no run waits for the preparation of a new job
waits_before : (s : State) (job : JobRow) (run : RunRow) → has_job_row s job.id ≡ false → has_named_job s run ≡ true → waits_in (add_job_row job s) run ≡ true
    → waits_in s run ≡ true
waits_before s job run new named h =
    of_both (waits_in s run) (names run.job job.id) refl (sym (any_append (λ other. names run.job other.id && waits_for_preparation other) s.jobs job) ∙ h)
  where
    not_named : (name : Option (List ℕ)) → names name job.id ≡ true → option_map_or (has_job_row s) name true ≡ false
    not_named None k = cc
    not_named (Some id) k = any_agree (is_job id) (is_job job.id) (λ other. same_equiv.symm other.id id ∙ same_equiv.congr id job.id other.id k ∙ same_equiv.symm job.id other.id) s.jobs ∙ new

    of_both : (a b : Bool) → names run.job job.id ≡ b → (a || (b && waits_for_preparation job)) ≡ true → a ≡ true
    of_both true b e k = refl
    of_both false false e k = cc
    of_both false true e k = let n : has_named_job s run ≡ false = not_named run.job e in cc

-- a job with a new id, whose values are in their ranges
sound_job_added : (seats : ℕ) (s : State) (id in_pool : List ℕ) (spec : JobSpec) → IsSound seats s → is_job_spec_in_range spec ≡ true → has_job_row s id ≡ false
    → nat_le job_limit (length s.jobs) ≡ false → IsSound seats (add_job_row (new_job s.moment id in_pool spec) s)
sound_job_added seats s id in_pool spec h in_range new room = record {
  consistent = consistent_job_added seats s (new_job s.moment id in_pool spec) h.consistent new;
  limited = limited_job_added s id in_pool spec h.limited in_range room;
  unended = h.unended;
  starts = record { usable = h.starts.usable; tries = h.starts.tries };
  preparing =
      preps_with_jobs s (add_job_row (new_job s.moment id in_pool spec) s).jobs (has_named_job s)
      (λ name. any_append_old (is_job name) s.jobs (new_job s.moment id in_pool spec))
      (λ run. waits_before s (new_job s.moment id in_pool spec) run new) h.consistent.named.jobs_of_runs h.preparing;
  resting = each_append (is_at_rest s) s.jobs (new_job s.moment id in_pool spec) h.resting refl;
}

-- in the pool that was found
add_job_in_kept : (seats : ℕ) (s : State) (id : List ℕ) (spec : JobSpec) (pool : PoolRow) → is_job_spec_in_range spec ≡ true → is_some (job_of s id) ≡ false
    → IsSound seats s → IsSound seats (add_job_in s id spec pool).state
add_job_in_kept seats s id spec pool in_range new h =
    answer_keeps (IsSound seats) s h (add_job_refusals s pool) 201 (add_job_row (new_job s.moment id pool.id spec) s)
    (λ absent.
    sound_job_added seats s id pool.id spec h in_range
    (none_found (is_job id) s.jobs new)
    (passed (nat_le job_limit (length s.jobs)) (TableFull Jobs job_limit) absent.1.0))

-- `add-job`
pub add_job_kept : (seats : ℕ) (s : State) (id : List ℕ) (spec : JobSpec) → is_job_spec_in_range spec ≡ true → IsSound seats s
    → IsSound seats (add_job s id spec).state
add_job_kept seats s id spec in_range h = elim (passes_or_not (is_some (job_of s id))) [
  | inl e ↦ rw e h
  | inr new ↦
      rw new (for_row_keeps (IsSound seats) s h PoolNotFound (add_job_in s id spec) (pool_of s spec.pool)
      (λ pool found. add_job_in_kept seats s id spec pool in_range new h))
]
