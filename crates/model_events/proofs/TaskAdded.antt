-- The events `add-task` and `add-tasks` keep sound tables.
use Rattle.std.proofs.Common.{◌≡◌, ℕ, ◌<◌, Bool, true, false, not, ◌&&◌, ◌||◌, nat_eq, nat_lt, nat_le, List, sum_by, is_none, refl, sym, ap, subst}
use Rattle.std.proofs.Common.{[], ◌∷◌, length, ◌∙◌, Some, is_some}
use Rattle.std.specs.List.{list_any, list_all}
use Rattle.std.proofs.lemmas.Bool.Decides.{Decides-ltb}
use Rattle.bt_base.proofs.SameIds.{same_equiv}
use Rattle.bt_rows.specs.declared.event.TaskSpec.{TaskSpec}
use Rattle.bt_rows.specs.Keys.{same_task}
use Rattle.bt_rows.specs.Ranges.{is_task_spec_in_range}
use Rattle.bt_rows.specs.declared.refusal.Refusal.TheVariants.{JobStateRefuses}
use Rattle.bt_rows.specs.declared.refusal.Refusal.TheVariants.{TaskExists, DependencyListTooLong, TableFull}
use Rattle.bt_rows.specs.declared.refusal.Table.TheVariants.{Tasks}
use Rattle.batch_model.specs.Rows.{is_pool, is_task, add_task_row, job_of, task_of, is_job}
use Rattle.batch_model.specs.Runs.{is_work, is_unended}
use Rattle.batch_model.specs.Tasks.{new_task, is_placed_in}
use Rattle.batch_model.specs.Slots.{owns, holds_on, held_slots}
use Rattle.batch_model.specs.Sound.{IsConsistent, belongs, can_be_settled, has_slots_for, IsWithinLimits, IsSound}
use Rattle.batch_model.specs.WellFormed.{has_job_row, has_named_task, is_task_of_attempt, has_fitting_marks, is_closed_if_completed}
use Rattle.batch_model.specs.WellFormed.{is_task_valid, has_no_placed_if_quiet}
use Rattle.batch_model.specs.Variants.{State, PoolRow, NodeRow, TaskRow, RunRow, JobRow}
use Rattle.batch_model.specs.Jobs.{is_quiet, is_past}
use Rattle.batch_model.specs.Limits.{task_limit}
use Rattle.batch_model.specs.Events.{has_long_needs, task_refusals, task_added, add_task}
use Rattle.batch_model.specs.Events.{after_element, add_each, accept_all, add_tasks}
use Rattle.batch_model.specs.Events.{add_tasks_refusals}
use Rattle.batch_model.specs.Finding.{Each, first_of}
use Rattle.batch_model.specs.Steps.{refuse_if}
use Rattle.model_lists.proofs.Tests.{asked, under, and_true, and_first, and_second, not_false}
use Rattle.model_lists.proofs.RowLists.{each_append, each_weaker, any_append_old, any_append_same, filter_agree, each_head, each_tail}
use Rattle.model_lists.proofs.RowLists.{none_found, any_found}
use Rattle.model_lists.proofs.DistinctLists.{distinct_append}
use Rattle.model_lists.proofs.Lengths.{takes_one}
use Rattle.model_tables.proofs.PrepsKept.{preps_with_tasks}
use Rattle.model_events.proofs.Keeping.{AreAbsent, passed, through, given_keeps, answer_keeps}

module _ (s : State) (in_job : List ℕ) (spec : TaskSpec) where
  -- the tables with the task
  abbrev with_task : State
  with_task = add_task_row (new_task in_job spec) s

  -- the new task has no runs, so no node holds more slots
  held_same : (number : ℕ) → held_slots with_task number ≡ held_slots s number
  held_same number =
      ap (sum_by (λ (run : RunRow). run.slots))
      (filter_agree (holds_on with_task number) (holds_on s number)
      (λ run. ap (λ b. nat_eq run.node number && b) (any_append_same (owns run) s.tasks (new_task in_job spec) refl)) s.runs)

  slots_for : (node : NodeRow) → has_slots_for s node ≡ true → has_slots_for with_task node ≡ true
  slots_for node h =
      subst (λ n. list_all (λ (pool : PoolRow). not (is_pool node.pool pool) || nat_le n pool.slots) s.pools ≡ true)
      (sym (held_same node.number)) h

  -- a run that names a task still does
  named_task : (run : RunRow) → has_named_task s run ≡ true → has_named_task with_task run ≡ true
  named_task run h = either (is_none run.task) h
    where
      either : (b : Bool) → (b || list_any (is_task_of_attempt run) s.tasks) ≡ true → (b || list_any (is_task_of_attempt run) with_task.tasks) ≡ true
      either true k = refl
      either false k = any_append_old (is_task_of_attempt run) s.tasks (new_task in_job spec) k

  -- an unended run still belongs to its task
  still_belongs : (run : RunRow) → belongs s run ≡ true → belongs with_task run ≡ true
  still_belongs run h =
      under (is_work run.kind && is_unended run.state) (list_any (owns run) with_task.tasks)
      (λ e. any_append_old (owns run) s.tasks (new_task in_job spec) (asked (is_work run.kind && is_unended run.state) (list_any (owns run) s.tasks) h e))

  -- the new task has attempt 0
  first_attempt : 0 < s.next_run → nat_lt 0 s.next_run ≡ true
  first_attempt h = (Decides-ltb 0 s.next_run).1 h

  -- a task with a new key
  consistent_task_added : (seats : ℕ) → IsConsistent seats s → has_job_row s in_job ≡ true → list_any (is_task in_job spec.id) s.tasks ≡ false
      → IsConsistent seats with_task
  consistent_task_added seats h there new = record {
    keys = record {
      pools = h.keys.pools;
      nodes = h.keys.nodes;
      jobs = h.keys.jobs;
      tasks = distinct_append same_task s.tasks (new_task in_job spec) h.keys.tasks new;
      runs = h.keys.runs;
      preps = h.keys.preps;
      samples = h.keys.samples;
      scales = h.keys.scales;
    };
    numbers = record {
      begun = h.numbers.begun;
      runs = h.numbers.runs;
      nodes = h.numbers.nodes;
      nodes_of_runs = h.numbers.nodes_of_runs;
      order = h.numbers.order;
    };
    fitting = record {
      marks = each_append has_fitting_marks s.tasks (new_task in_job spec) h.fitting.marks refl;
      closing = each_append is_closed_if_completed s.tasks (new_task in_job spec) h.fitting.closing refl;
      attempts =
          each_append (λ (task : TaskRow). nat_lt task.attempt s.next_run) s.tasks (new_task in_job spec) h.fitting.attempts (first_attempt h.numbers.begun);
    };
    named = record {
      jobs_of_tasks = each_append (λ (task : TaskRow). has_job_row s task.job) s.tasks (new_task in_job spec) h.named.jobs_of_tasks there;
      jobs_of_runs = h.named.jobs_of_runs;
      tasks_of_runs = each_weaker (has_named_task s) (has_named_task with_task) named_task s.runs h.named.tasks_of_runs;
      main_runs = h.named.main_runs;
    };
    seated = record {
      distinct = h.seated.distinct;
      in_range = h.seated.in_range;
      few = h.seated.few;
      pools_of_nodes = h.seated.pools_of_nodes;
      nodes_of_runs = h.seated.nodes_of_runs;
    };
    belonging = each_weaker (belongs s) (belongs with_task) still_belongs s.runs h.belonging;
    ending = each_append (can_be_settled s) s.tasks (new_task in_job spec) h.ending refl;
    naming = record { on_nodes = h.naming.on_nodes; of_jobs = h.naming.of_jobs };
    slots = each_weaker (has_slots_for s) (has_slots_for with_task) slots_for s.nodes h.slots;
    built = record { runs = h.built.runs };
  }

-- its values are those of its event, and what it depends on is short enough
new_task_valid : (now : ℕ) (in_job : List ℕ) (spec : TaskSpec) → is_task_spec_in_range spec ≡ true → has_long_needs spec ≡ false
    → is_task_valid now (new_task in_job spec) ≡ true
new_task_valid now in_job spec h short =
    and_true
    (and_true
    (and_true (and_true (and_true (and_first _ _ (and_first _ _ h)) (not_false _ short)) (and_second _ _ (and_first _ _ h))) (and_second _ _ h))
    refl)
    refl

-- a task whose values are in their ranges; it is not placed
limited_task_added : (s : State) (in_job : List ℕ) (spec : TaskSpec) → IsWithinLimits s → is_task_spec_in_range spec ≡ true → has_long_needs spec ≡ false
    → nat_le task_limit (length s.tasks) ≡ false → IsWithinLimits (add_task_row (new_task in_job spec) s)
limited_task_added s in_job spec h in_range short room = record {
  rows = record {
    moment = h.rows.moment;
    pools = h.rows.pools;
    nodes = h.rows.nodes;
    jobs = h.rows.jobs;
    tasks = each_append (is_task_valid s.moment) s.tasks (new_task in_job spec) h.rows.tasks (new_task_valid s.moment in_job spec in_range short);
    runs = h.rows.runs;
    samples = h.rows.samples;
    scales = h.rows.scales;
  };
  counts = record {
    pools = h.counts.pools;
    jobs = h.counts.jobs;
    tasks = takes_one task_limit s.tasks (new_task in_job spec) room;
    first_node = h.counts.first_node;
    next_node = h.counts.next_node;
    first_run = h.counts.first_run;
    next_run = h.counts.next_run;
  };
  quiet =
      each_weaker (has_no_placed_if_quiet s) (has_no_placed_if_quiet (add_task_row (new_task in_job spec) s))
      (λ job k. ap (λ b. not (is_quiet job.state && b)) (any_append_same (is_placed_in job.id) s.tasks (new_task in_job spec) refl) ∙ k)
      s.jobs h.quiet;
  pools = record {
    deleting = h.pools.deleting;
    pools_of_scales = h.pools.pools_of_scales;
    pools_of_samples = h.pools.pools_of_samples;
    labels = h.pools.labels;
    order = h.pools.order;
    covered = h.pools.covered;
    kept = h.pools.kept;
  };
}

-- sound tables in which a job has a row
record HasJob (seats : ℕ) (id : List ℕ) (s : State) : Type 0 where
  sound : IsSound seats s
  there : has_job_row s id ≡ true

-- a task of such a job, with a new key and values in their ranges
has_with_task : (seats : ℕ) (s : State) (job : JobRow) (spec : TaskSpec) → HasJob seats job.id s → is_task_spec_in_range spec ≡ true
    → AreAbsent (task_refusals s job spec) → HasJob seats job.id (task_added s job spec)
has_with_task seats s job spec h in_range absent = record {
  sound = record {
    consistent =
        consistent_task_added s job.id spec seats h.sound.consistent h.there
        (none_found (is_task job.id spec.id) s.tasks (passed (is_some (task_of s job.id spec.id)) TaskExists absent.1.0));
    limited =
        limited_task_added s job.id spec h.sound.limited in_range
        (passed (has_long_needs spec) DependencyListTooLong absent.1.1.1.0)
        (passed (nat_le task_limit (length s.tasks)) (TableFull Tasks task_limit) absent.1.1.1.1.1.0);
    unended = h.sound.unended;
    starts = record { usable = h.sound.starts.usable; tries = h.sound.starts.tries };
    preparing = preps_with_tasks s (task_added s job spec).tasks h.sound.preparing;
    resting = h.sound.resting;
  };
  there = h.there;
}

-- a job that is found has a row
has_found_job : (seats : ℕ) (s : State) (id : List ℕ) (job : JobRow) → IsSound seats s → job_of s id ≡ Some job → HasJob seats job.id s
has_found_job seats s id job h found = record { sound = h; there = any_found (is_job job.id) (is_job id) job s.jobs found (same_equiv.refl job.id) }

-- `add-task`
pub add_task_kept : (seats : ℕ) (s : State) (id : List ℕ) (spec : TaskSpec) (job : JobRow) → is_task_spec_in_range spec ≡ true → IsSound seats s
    → job_of s id ≡ Some job → IsSound seats (add_task s spec job).state
add_task_kept seats s id spec job in_range h found =
    answer_keeps (IsSound seats) s h (refuse_if (is_past job.state) (JobStateRefuses job.state) ∷ task_refusals s job spec) 201 (task_added s job spec)
    (λ absent.
    let has : HasJob seats job.id (task_added s job spec) = has_with_task seats s job spec (has_found_job seats s id job h found) in_range absent.1 in
    has.sound)

-- the elements of a collection, each in the tables that those before it leave
has_with_each : (seats : ℕ) (job : JobRow) (specs : List TaskSpec) (s : State) → Each is_task_spec_in_range specs → HasJob seats job.id s
    → HasJob seats job.id (add_each s job specs).state
has_with_each seats job [] s in_range h = h
has_with_each seats job (spec ∷ specs) s in_range h =
    has_with_each seats job specs (after_element s job spec (first_of (task_refusals s job spec))) (each_tail is_task_spec_in_range spec specs in_range)
    (through (λ first. HasJob seats job.id (after_element s job spec first)) (λ refusal. h) (task_refusals s job spec)
    (has_with_task seats s job spec h (each_head is_task_spec_in_range spec specs in_range)))

-- `add-tasks`
pub add_tasks_kept : (seats : ℕ) (s : State) (id : List ℕ) (specs : List TaskSpec) (job : JobRow) → Each is_task_spec_in_range specs → IsSound seats s
    → job_of s id ≡ Some job → IsSound seats (add_tasks s specs job).state
add_tasks_kept seats s id specs job in_range h found =
    let has : HasJob seats job.id (add_each s job specs).state = has_with_each seats job specs s in_range (has_found_job seats s id job h found) in
    given_keeps (IsSound seats) s h (accept_all (add_each s job specs)) (add_tasks_refusals job specs) (λ absent. has.sound)
