-- The task that a job and an id find is the one with its own job and id.
use Rattle.std.proofs.Common.{◌≡◌, ℕ, List, Some}
use Rattle.bt_rows.specs.Keys.{same_task, same_task_equiv}
use Rattle.bt_rows.proofs.DistinctRows.{found_first}
use Rattle.batch_model.specs.Rows.{is_task, task_of}
use Rattle.batch_model.specs.WellFormed.{KeysAreDistinct}
use Rattle.batch_model.specs.Variants.{State, TaskRow}

pub own_ids : (job id : List ℕ) (task : TaskRow) (s : State) → KeysAreDistinct s → task_of s job id ≡ Some task → task_of s task.job task.id ≡ Some task
own_ids job id task s keys found = found_first same_task same_task_equiv (is_task job id) task s.tasks keys.tasks found
