-- The task that a run names.
use Rattle.std.specs.Prelude.{ℕ, List, Option, Some, None}
use Rattle.kept_table.specs.Slots.{place_of}
use Rattle.bt_rows.specs.Keys.{task_has_ids}
use Rattle.batch_model.specs.Variants.{TaskRow, RunRow}

-- the place of the task that a job and an id name
abbrev pub place_named : List (Option TaskRow) → Option (List ℕ) → Option (List ℕ) → Option ℕ
place_named slots None id = None
place_named slots (Some job) None = None
place_named slots (Some job) (Some id) = place_of (task_has_ids job id) slots

-- the place of the task that the run names
abbrev pub place_of_run : List (Option TaskRow) → Option RunRow → Option ℕ
place_of_run slots None = None
place_of_run slots (Some run) = place_named slots run.job run.task
