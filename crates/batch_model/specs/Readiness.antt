-- Dependencies: which ids and numbers are satisfied, and which tasks are ready (Azure: dependsOn).
-- Source: Azure Batch documentation of task dependencies; the form is this project's own.
use Rattle.std.specs.Prelude.{ℕ, ◌+◌, ◌-◌, Bool, false, not, ◌&&◌, nat_eq, List, sum_by, count_by}
use Rattle.std.specs.Option.{option_map_or}
use Rattle.std.specs.List.{list_any, list_all, range_with_len}
use Rattle.bt_base.specs.Ids.{id_number}
use Rattle.batch_model.specs.Rows.{is_task}
use Rattle.batch_model.specs.Tasks.{is_active, is_completed, is_in_job}
use Rattle.batch_model.specs.Variants.{State, TaskRow, Closed}

-- a completed task that lets the tasks that depend on it go on
abbrev pub satisfies_others : TaskRow → Bool
satisfies_others task = is_completed task.stage && option_map_or (λ (closed : Closed). closed.satisfies) task.closed false

-- a task of the job with this id satisfies those that name it
abbrev pub is_id_satisfied : State → List ℕ → List ℕ → Bool
is_id_satisfied s job id = list_any (λ task. is_task job id task && satisfies_others task) s.tasks

-- the task's id is this number
abbrev pub has_number : ℕ → TaskRow → Bool
has_number number task = option_map_or (nat_eq number) (id_number task.id) false

-- a task of the job whose id is this number satisfies those that name it
abbrev pub is_number_satisfied : State → List ℕ → ℕ → Bool
is_number_satisfied s job number = list_any (λ task. (is_in_job job task && has_number number task) && satisfies_others task) s.tasks

-- the numbers from the first to the last of a range
abbrev pub numbers_of : ℕ × ℕ → List ℕ
numbers_of span = range_with_len span.0 (span.1 + 1 - span.0)

-- each number of the range is satisfied, also by tasks that are added later
abbrev pub is_span_satisfied : State → List ℕ → ℕ × ℕ → Bool
is_span_satisfied s job span = list_all (is_number_satisfied s job) (numbers_of span)

-- each id and each range that the task names is satisfied
abbrev pub is_unblocked : State → TaskRow → Bool
is_unblocked s task = list_all (is_id_satisfied s task.job) task.needs && list_all (is_span_satisfied s task.job) task.spans

-- an active task all of whose dependencies are satisfied
abbrev pub is_ready : State → TaskRow → Bool
is_ready s task = is_active task.stage && is_unblocked s task

-- how many of the ids, and of the numbers of the ranges, that a task names are not satisfied
abbrev pub waiting_count : State → TaskRow → ℕ
waiting_count s task =
    count_by (λ id. not (is_id_satisfied s task.job id)) task.needs
    + sum_by (λ span. count_by (λ number. not (is_number_satisfied s task.job number)) (numbers_of span)) task.spans
