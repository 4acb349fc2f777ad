-- Laws: what holds at every moment of a history.
-- Source: this project's own.
use Rattle.std.specs.Prelude.{◌≡◌, ℕ, ◌+◌, ◌-◌, ◌≤◌, Bool, true, false, ◌&&◌, ◌||◌, nat_eq, List, Some}
use Rattle.std.specs.List.{list_any}
use Rattle.bt_rows.specs.declared.due.Due.{Due}
use Rattle.bt_rows.specs.declared.due.Due.TheVariants.{TaskPlaced, ReleaseMade, JobEnded}
use Rattle.batch_model.specs.Finding.{names}
use Rattle.batch_model.specs.Rows.{pool_of, node_of, job_of, task_of, prep_of}
use Rattle.batch_model.specs.Runs.{is_release}
use Rattle.batch_model.specs.Preps.{is_prepared}
use Rattle.batch_model.specs.Tasks.{has_placed_task}
use Rattle.batch_model.specs.Jobs.{is_job_active}
use Rattle.batch_model.specs.Readiness.{is_ready}
use Rattle.batch_model.specs.Nodes.{is_in_pool, is_usable}
use Rattle.batch_model.specs.Slots.{held_slots}
use Rattle.batch_model.specs.JobRules.{has_unended_run}
use Rattle.batch_model.specs.Dues.{due_step}
use Rattle.batch_model.specs.WellFormed.{QuietJobsPlaceNothing}
use Rattle.batch_model.specs.Sound.{SlotsSuffice, CompletedJobsRest, awaits_no_start, has_started}
use Rattle.batch_model.specs.Steps.{DueStep}
use Rattle.batch_model.specs.Variants.{State, PoolRow, NodeRow, JobRow, TaskRow, RunRow, PrepRow}

-- the slots of the node that are free: those of its pool but for the held ones
abbrev pub free_slots : State → PoolRow → NodeRow → ℕ
free_slots s pool node = pool.slots - held_slots s node.number

-- the task of the job, which is active, is ready, and is placed on a usable node of the job's pool on which the pool's start task
-- succeeded, if it is waited for; at least the slots that the task requires are free there, and exactly these are free no more
-- afterwards
pub record PlacesTask (before after : State) (in_job id : List ℕ) (number : ℕ) : Type 0 where
  pub job : JobRow
  pub pool : PoolRow
  pub node : NodeRow
  pub task : TaskRow
  pub job_there : job_of before in_job ≡ Some job
  pub pool_there : pool_of before job.pool ≡ Some pool
  pub node_there : node_of before number ≡ Some node
  pub task_there : task_of before in_job id ≡ Some task
  pub active : is_job_active job.state ≡ true
  pub ready : is_ready before task ≡ true
  pub usable : is_usable node.stage ≡ true
  pub started : (awaits_no_start before node.pool || has_started before node.number) ≡ true
  pub in_pool : is_in_pool pool.id node ≡ true
  pub room : task.slots ≤ free_slots before pool node
  pub taken : free_slots before pool node ≡ free_slots after pool node + task.slots

-- a due step with this line leads from the tables before to those after: if it places a task, then so
abbrev pub PlacesWithinSlots : State → Due → State → Type 0
PlacesWithinSlots before (TaskPlaced job task node run) after = PlacesTask before after job task node
PlacesWithinSlots before _ after = Unit {0}

-- no node holds more slots than its pool has, and if the next due step places a task, then within the free slots of its node
pub record HoldsWithinSlots (seats : ℕ) (s : State) : Type 0 where
  pub within : SlotsSuffice s
  pub placing : (step : DueStep) → due_step seats s ≡ Some step → PlacesWithinSlots s step.due step.state

-- a due step with this line leads from these tables: if a job has ended, it has no placed task and no unended run there
abbrev pub EndsAtRest : State → Due → Type 0
EndsAtRest before (JobEnded job end) = (has_placed_task before job || has_unended_run before job) ≡ false
EndsAtRest before _ = Unit {0}

-- a completed job has no placed task and no unended run, and the next due step ends a job only so
pub record JobsEndAtRest (seats : ℕ) (s : State) : Type 0 where
  pub placing : QuietJobsPlaceNothing s
  pub resting : CompletedJobsRest s
  pub ending : (step : DueStep) → due_step seats s ≡ Some step → EndsAtRest s step.due

-- a release run of the job on the node
abbrev pub is_release_of : List ℕ → ℕ → RunRow → Bool
is_release_of job node run = is_release run.kind && names run.job job && nat_eq run.node node

-- the job's preparation is completed on the node, and no release run of the job was made there; runs of a job go with its row
pub record ReleasesFirst (before : State) (job : List ℕ) (node : ℕ) : Type 0 where
  pub prep : PrepRow
  pub there : prep_of before job node ≡ Some prep
  pub completed : is_prepared prep.state ≡ true
  pub first : list_any (is_release_of job node) before.runs ≡ false

-- a due step with this line leads from these tables: if it makes a release run, then so
abbrev pub ReleasesOnce : State → Due → Type 0
ReleasesOnce before (ReleaseMade job node run) = ReleasesFirst before job node
ReleasesOnce before _ = Unit {0}

-- the next due step makes a release run only after a completed preparation, and only the first one of the job on the node
pub record JobsReleaseOnce (seats : ℕ) (s : State) : Type 0 where
  pub making : (step : DueStep) → due_step seats s ≡ Some step → ReleasesOnce s step.due
