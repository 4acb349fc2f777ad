-- The order of placing: all tasks in one list, of which the first that may be placed and fits is the next one to be placed.
use Rattle.std.specs.Prelude.{◌≡◌, Bool, false, not, ◌&&◌, List, [], ◌∷◌, map, filter, find, flat_map, count_by, Option, Some, is_none, if◌then◌else◌}
use Rattle.std.specs.List.{list_any}
use Rattle.std.specs.Option.{option_map, option_and_then, option_map_or}
use Rattle.batch_model.specs.Finding.{only_if, has_number_left}
use Rattle.batch_model.specs.Jobs.{is_job_active}
use Rattle.batch_model.specs.Placing.{has_turn, fits, choice, place, is_above, place_first}
use Rattle.batch_model.specs.Readiness.{is_ready}
use Rattle.batch_model.specs.Rows.{pool_of, job_of, task_of}
use Rattle.batch_model.specs.Steps.{DueStep}
use Rattle.batch_model.specs.Tasks.{is_in_job}
use Rattle.batch_model.specs.Variants.{State, PoolRow, JobRow, TaskRow}

-- a list in order

module _ {R : Type 0} (before : R → R → Bool) where
  -- a row is put behind those that come before it, and in front of all others
  abbrev pub put_in : R → List R → List R
  put_in row [] = row ∷ []
  put_in row (other ∷ others) = if before other row then other ∷ put_in row others else row ∷ other ∷ others

  -- the rows in order; where neither of two comes before the other, the earlier one is first
  abbrev pub in_order : List R → List R
  in_order [] = []
  in_order (row ∷ rows) = put_in row (in_order rows)

-- a task with its job
pub record JobTask : Type 0 where
  pub job : JobRow
  pub task : TaskRow

-- all tasks in order

-- the tasks of the job, in list order
abbrev pub tasks_of : State → JobRow → List JobTask
tasks_of s of_job = map (λ row. record { job = of_job; task = row }) (filter (is_in_job of_job.id) s.tasks)

-- all tasks: those of a job of higher priority first, then those of the earlier job, then the earlier task
abbrev pub tasks_in_order : State → List JobTask
tasks_in_order s = flat_map (tasks_of s) (in_order is_above s.jobs)

-- which of them can be placed

-- the job is active and may have one more placed task, its pool is not being deleted, and the task is ready, and without instances
abbrev pub may_be_placed : State → JobTask → PoolRow → Bool
may_be_placed s one pool =
    is_job_active one.job.state && not pool.deleting && has_turn s one.job && is_ready s one.task && is_none one.task.multi

-- it fits on a node of the pool
abbrev pub fits_somewhere : State → JobTask → PoolRow → Bool
fits_somewhere s one pool = list_any (fits s one.job pool one.task.slots) s.nodes

-- it may be placed, and it fits
abbrev pub can_be_placed : State → JobTask → Bool
can_be_placed s one = option_map_or (λ pool. may_be_placed s one pool && fits_somewhere s one pool) (pool_of s one.job.pool) false

-- the first in the order that may be placed and fits
abbrev pub next_task : State → Option JobTask
next_task s = find (can_be_placed s) (tasks_in_order s)

-- the placing of it

-- on the node that the fill type of the pool chooses
abbrev pub place_on_choice : State → JobTask → Option DueStep
place_on_choice s one = option_and_then (λ pool. option_map (place s one.job one.task) (choice s one.job pool one.task.slots)) (pool_of s one.job.pool)

-- the next task is placed, while run numbers last
abbrev pub place_next : State → Option DueStep
place_next s = only_if (has_number_left s.next_run) (option_and_then (place_on_choice s) (next_task s))

-- the order has the tasks of the tables, each as often as they do, and the rule that places tasks places the next one in it, or none
-- where there is none
pub record PlacesInOrder (s : State) : Type 0 where
  pub all : (test : TaskRow → Bool) → count_by (λ (one : JobTask). test one.task) (tasks_in_order s) ≡ count_by test s.tasks
  pub next : place_first s ≡ place_next s

-- no task of the tables is left that may be placed and fits
abbrev pub HasNoneToPlace : State → Type 0
HasNoneToPlace s =
    (in_job : JobRow) (row : TaskRow) → job_of s row.job ≡ Some in_job → task_of s row.job row.id ≡ Some row →
    can_be_placed s (record { job = in_job; task = row }) ≡ false
