-- Placings and completions: after a step a task is placed, or a job completed, only if it was before, or the step's line says so.
use Rattle.std.specs.Prelude.{◌≡◌, ◌+◌, ℕ, Bool, true, false, List, Option, Some}
use Rattle.std.specs.Option.{option_map_or, option_and_then}
use Rattle.bt_base.specs.Ids.{same}
use Rattle.bt_rows.specs.declared.due.Due.{Due}
use Rattle.bt_rows.specs.declared.due.Due.TheVariants.{TaskPlaced, JobEnded}
use Rattle.bt_rows.specs.declared.due.JobEnd.TheVariants.{Kept}
use Rattle.batch_model.specs.Finding.{only_if}
use Rattle.batch_model.specs.Jobs.{is_job_completed}
use Rattle.batch_model.specs.Rows.{job_of, task_of}
use Rattle.batch_model.specs.Steps.{DueStep}
use Rattle.batch_model.specs.Tasks.{is_placed}
use Rattle.batch_model.specs.Variants.{State, JobRow, TaskRow}

-- the attempt of the task, if it is placed
abbrev pub attempt_if_placed : TaskRow → Option ℕ
attempt_if_placed task = only_if (is_placed task.stage) (Some task.attempt)

-- the attempt in which the task is placed, if it is there and placed
abbrev pub placed_attempt : State → List ℕ → List ℕ → Option ℕ
placed_attempt s job id = option_and_then attempt_if_placed (task_of s job id)

-- the job is completed
abbrev pub has_completed : JobRow → Bool
has_completed job = is_job_completed job.state

-- the job is there, and completed
abbrev pub is_completed_job : State → List ℕ → Bool
is_completed_job s id = option_map_or has_completed (job_of s id) false

-- what an event does, from these tables to those after it: a task that is placed afterwards was placed before, in the same attempt, and
-- a job that is completed afterwards was completed before; so an event places no task, and completes no job
pub record EventPlacings (s after : State) : Type 0 where
  pub placed : (job id : List ℕ) (attempt : ℕ) → placed_attempt after job id ≡ Some attempt → placed_attempt s job id ≡ Some attempt
  pub completed : (id : List ℕ) → is_completed_job after id ≡ true → is_completed_job s id ≡ true

-- how a task comes to be placed in an attempt, after a due step with this line: it was before, or the line is its placing, in the attempt
-- after that which it had
pub data DuePlaced (s : State) (due : Due) (job id : List ℕ) : ℕ → Type 0 where
  was_placed : (attempt : ℕ) → placed_attempt s job id ≡ Some attempt → DuePlaced s due job id attempt
  placed_now : (task : TaskRow) (node run : ℕ) → due ≡ TaskPlaced task.job task.id node run → task_of s job id ≡ Some task →
      DuePlaced s due job id (task.attempt + 1)

-- how a job comes to be completed after a due step with this line: it was before, or the line is its end
pub data DueCompleted (s : State) (due : Due) (id : List ℕ) : Type 0 where
  was_completed : is_completed_job s id ≡ true → DueCompleted s due id
  completed_now : (job : List ℕ) → due ≡ JobEnded job Kept → same job id ≡ true → DueCompleted s due id

-- what a due step does: a task is placed afterwards, or a job completed, only so
pub record DuePlacings (s : State) (step : DueStep) : Type 0 where
  pub placed : (job id : List ℕ) (attempt : ℕ) → placed_attempt step.state job id ≡ Some attempt → DuePlaced s step.due job id attempt
  pub completed : (id : List ℕ) → is_completed_job step.state id ≡ true → DueCompleted s step.due id
