-- The counts of the tasks that were looked at and of those that are left.
use Rattle.std.proofs.Common.{◌≡◌, ℕ, ◌+◌, ◌*◌, ◌<◌, ◌≤◌, ◌^◌, Bool, true, false, ◌&&◌, cond, List, [], ◌∷◌, Option, Some, None, length, sum_by, count_by, refl, sym, ◌∙◌, ap, subst, arith}
use Rattle.std.specs.Prelude.{nat_le}
use Rattle.std.specs.Option.{option_map_or}
use Rattle.std.specs.List.{list_all}
use Rattle.std.proofs.lemmas.Bool.Decides.{nat_tests}
use Rattle.std.proofs.lemmas.List.Sums.{sum_by-cons, count_by-le-length}
use Rattle.bt_rows.specs.declared.limits.TheConstants.{DEPENDENCY_RANGE_LIMIT}
use Rattle.bt_rows.specs.Ranges.{is_duration, is_multi_in_range, is_retry_limit, is_slot_count, is_span_in_range, passes_if_some}
use Rattle.batch_model.specs.Finding.{Each}
use Rattle.batch_model.specs.Limits.{needs_limit, task_limit}
use Rattle.batch_model.specs.Metrics.{instances, is_awaited}
use Rattle.batch_model.specs.WellFormed.{has_fitting_failures, is_task_in_range, is_task_past, is_task_valid, needs_length}
use Rattle.batch_model.specs.Variants.{State, TaskRow, Multi}
use Rattle.model_lists.proofs.Tests.{and_first, and_second}
use Rattle.model_lists.proofs.RowLists.{each_head, each_tail}
use Rattle.model_lists.proofs.RowSums.{sum_filter}
use Rattle.pool_samples.specs.declared.counts.TaskCounts.{TaskCounts}
use Rattle.pool_samples.specs.Conditions.{CanSample}
use Rattle.pool_samples.specs.Counts.{counts_of, is_failed, is_running, is_succeeded, plus, task_counts, waiting_part}

-- the counts of these tasks
abbrev pub counts_in : State → List ℕ → List TaskRow → TaskCounts
counts_in s pool tasks = record {
  active = sum_by (waiting_part s pool) tasks;
  running = count_by (is_running s pool) tasks;
  succeeded = count_by (is_succeeded s pool) tasks;
  failed = count_by (is_failed s pool) tasks;
}

-- they fit their type
pub record AreFew (counts : TaskCounts) : Type 0 where
  pub active : counts.active < 2 ^ 32
  pub running : counts.running < 2 ^ 32
  pub succeeded : counts.succeeded < 2 ^ 32
  pub failed : counts.failed < 2 ^ 32

-- the instances of a valid task are in their range
multi_in_range : (now : ℕ) (task : TaskRow) → is_task_valid now task ≡ true → passes_if_some is_multi_in_range task.multi ≡ true
multi_in_range now task h =
    fifth (is_slot_count task.slots) (passes_if_some is_retry_limit task.retries) (passes_if_some is_duration task.wall)
    (passes_if_some is_duration task.retention) (passes_if_some is_multi_in_range task.multi) (nat_le (needs_length task.needs) needs_limit)
    (nat_le (length task.spans) DEPENDENCY_RANGE_LIMIT) (list_all is_span_in_range task.spans)
    (and_first (is_task_in_range task) (is_task_past now task) (and_first (is_task_in_range task && is_task_past now task) (has_fitting_failures task) h))
  where
    fifth : (a b c d e f g i : Bool) → (a && b && c && d && e && f && g && i) ≡ true → e ≡ true
    fifth a b c d e f g i k =
        and_second (a && b && c && d) e
        (and_first (a && b && c && d && e) f
        (and_first (a && b && c && d && e && f) g (and_first (a && b && c && d && e && f && g) i k)))

module _ (s : State) (pool : List ℕ) where
  -- before the first task
  pub none_counted : (all : TaskCounts) → plus (record { active = 0; running = 0; succeeded = 0; failed = 0 }) all ≡ all
  none_counted all =
      let active : 0 + all.active ≡ all.active = omega arith in
      let running : 0 + all.running ≡ all.running = omega arith in
      let succeeded : 0 + all.succeeded ≡ all.succeeded = omega arith in
      let failed : 0 + all.failed ≡ all.failed = omega arith in
      rw (active, running, succeeded, failed) refl

  -- after the last one
  pub all_counted : (counts : TaskCounts) → plus counts (counts_in s pool []) ≡ counts_in s pool s.tasks → counts ≡ counts_of s pool
  all_counted counts h =
      let active : counts.active + 0 ≡ counts.active = omega arith in
      let running : counts.running + 0 ≡ counts.running = omega arith in
      let succeeded : counts.succeeded + 0 ≡ counts.succeeded = omega arith in
      let failed : counts.failed + 0 ≡ counts.failed = omega arith in
      let same : plus counts (counts_in s pool []) ≡ counts = rw (active, running, succeeded, failed) refl in
      sym same ∙ h ∙ ap (λ n. record (counts_in s pool s.tasks) { active = n }) (sym (sum_filter (is_awaited s pool) instances s.tasks))

  -- one more
  pub one_counted : (counts : TaskCounts) (task : TaskRow) (tasks : List TaskRow)
      → plus counts (counts_in s pool (task ∷ tasks)) ≡ plus (plus counts (task_counts s pool task)) (counts_in s pool tasks)
  one_counted counts task tasks =
      rw (
        sum_by-cons (waiting_part s pool) task tasks,
        sum_by-cons (λ x. cond {A = ℕ} (is_running s pool x) 1 0) task tasks,
        sum_by-cons (λ x. cond {A = ℕ} (is_succeeded s pool x) 1 0) task tasks,
        sum_by-cons (λ x. cond {A = ℕ} (is_failed s pool x) 1 0) task tasks,
        grouped counts.active (waiting_part s pool task) (sum_by (waiting_part s pool) tasks),
        grouped counts.running (cond (is_running s pool task) 1 0) (count_by (is_running s pool) tasks),
        grouped counts.succeeded (cond (is_succeeded s pool task) 1 0) (count_by (is_succeeded s pool) tasks),
        grouped counts.failed (cond (is_failed s pool task) 1 0) (count_by (is_failed s pool) tasks),
      )
      refl
    where
      grouped : (a b c : ℕ) → a + (b + c) ≡ (a + b) + c
      grouped a b c = omega arith

  -- a task has few instances
  few_instances : (task : TaskRow) → passes_if_some is_multi_in_range task.multi ≡ true → instances task ≤ 32
  few_instances task h = either task.multi h
    where
      either : (multi : Option Multi) → passes_if_some is_multi_in_range multi ≡ true
          → option_map_or (λ (given : Multi). given.count) multi 1 ≤ 32
      either None k = omega arith
      either (Some multi) k = within multi.count k
        where
          within : (count : ℕ) → (nat_le 1 count && nat_le count 32) ≡ true → count ≤ 32
          within count m = grind (arith, nat_tests)

  few_waiting : (task : TaskRow) → is_task_valid s.moment task ≡ true → waiting_part s pool task ≤ 32
  few_waiting task h = either (is_awaited s pool task)
    where
      either : (b : Bool) → cond b (instances task) 0 ≤ 32
      either true = few_instances task (multi_in_range s.moment task h)
      either false = omega arith

  few_parts : (tasks : List TaskRow) → Each (is_task_valid s.moment) tasks → sum_by (waiting_part s pool) tasks ≤ 32 * length tasks
  few_parts [] h = omega arith
  few_parts (task ∷ tasks) h =
      let one : waiting_part s pool task ≤ 32 = few_waiting task (each_head (is_task_valid s.moment) task tasks h) in
      let rest : sum_by (waiting_part s pool) tasks ≤ 32 * length tasks = few_parts tasks (each_tail (is_task_valid s.moment) task tasks h) in
      rw (sum_by-cons (waiting_part s pool) task tasks) (omega (arith, one, rest))

  -- all tasks are few
  pub few_in_all : CanSample s → AreFew (counts_in s pool s.tasks)
  few_in_all able =
      let few : length s.tasks ≤ task_limit = able.counts.tasks in
      record {
        active = omega (arith, few, few_parts s.tasks able.rows.tasks);
        running = omega (arith, few, count_by-le-length (is_running s pool) s.tasks);
        succeeded = omega (arith, few, count_by-le-length (is_succeeded s pool) s.tasks);
        failed = omega (arith, few, count_by-le-length (is_failed s pool) s.tasks);
      }

  -- and so are those up to one of them
  pub few_so_far : (counts : TaskCounts) (task : TaskRow) (tasks : List TaskRow) → CanSample s
      → plus counts (counts_in s pool (task ∷ tasks)) ≡ counts_in s pool s.tasks → AreFew (plus counts (task_counts s pool task))
  few_so_far counts task tasks able h =
      let all : AreFew (plus (plus counts (task_counts s pool task)) (counts_in s pool tasks)) =
      subst AreFew (sym (sym (one_counted counts task tasks) ∙ h)) (few_in_all able)
      in
      record {
        active = part (counts.active + waiting_part s pool task) (sum_by (waiting_part s pool) tasks) all.active;
        running = part (counts.running + cond (is_running s pool task) 1 0) (count_by (is_running s pool) tasks) all.running;
        succeeded = part (counts.succeeded + cond (is_succeeded s pool task) 1 0) (count_by (is_succeeded s pool) tasks) all.succeeded;
        failed = part (counts.failed + cond (is_failed s pool task) 1 0) (count_by (is_failed s pool) tasks) all.failed;
      }
    where
      part : (a b : ℕ) → a + b < 2 ^ 32 → a < 2 ^ 32
      part a b k = omega (arith, k)
