-- Retries: how steps change the failures of tasks, and when a start or preparation task is run again.
use Rattle.std.specs.Prelude.{◌≡◌, ◌≤◌, ◌+◌, ℕ, Bool, true, false, ◌&&◌, List, Option, Some, None}
use Rattle.std.specs.List.{list_any}
use Rattle.std.specs.Option.{option_map}
use Rattle.bt_base.specs.Ids.{same}
use Rattle.bt_rows.specs.declared.event.EventKind.{EventKind}
use Rattle.bt_rows.specs.declared.event.EventKind.TheVariants.{AddTask, AddTasks, ReactivateTask, End}
use Rattle.bt_rows.specs.declared.event.TaskSpec.{TaskSpec}
use Rattle.bt_rows.specs.declared.due.Due.{Due}
use Rattle.bt_rows.specs.declared.due.Due.TheVariants.{TaskSettled}
use Rattle.bt_rows.specs.declared.due.Outcome.TheVariants.{Again}
use Rattle.batch_model.specs.Endings.{is_success}
use Rattle.batch_model.specs.Events.{can_reactivate}
use Rattle.batch_model.specs.Finding.{is_below, is_within_limit}
use Rattle.batch_model.specs.Jobs.{is_past}
use Rattle.batch_model.specs.Preparing.{prep_of_run, preparation_of}
use Rattle.batch_model.specs.Rows.{node_of, job_of, task_of, run_of, prep_of}
use Rattle.batch_model.specs.Runs.{is_start, is_preparation}
use Rattle.batch_model.specs.Starts.{start_of}
use Rattle.batch_model.specs.Steps.{DueStep}
use Rattle.batch_model.specs.Tasks.{retry_limit}
use Rattle.batch_model.specs.Variants.{State, NodeRow, JobRow, StartTask, TaskRow, RunRow, PrepRow, Ending}

-- the failures of a task, if it is there
abbrev pub failures_of : State → List ℕ → List ℕ → Option ℕ
failures_of s job id = option_map (λ (task : TaskRow). task.failures) (task_of s job id)

-- the event adds this task
abbrev pub adds_task : EventKind → List ℕ → List ℕ → Bool
adds_task (AddTask in_job spec) job id = same in_job job && same spec.id id
adds_task (AddTasks in_job specs) job id = same in_job job && list_any (λ (spec : TaskSpec). same spec.id id) specs
adds_task _ job id = false

-- the event reactivates this task
abbrev pub reactivates_task : EventKind → List ℕ → List ℕ → Bool
reactivates_task (ReactivateTask in_job task) job id = same in_job job && same task id
reactivates_task _ job id = false

-- the failures of a task before an event and after it: they stay, or the task is gone, or it has none, since it was added to a job that
-- takes tasks and was not there before, or was reactivated in such a job, where it was completed without success
pub data EventFailures (s : State) (event : EventKind) (job id : List ℕ) : Option ℕ → Option ℕ → Type 0 where
  same_failures : (failures : Option ℕ) → EventFailures s event job id failures failures
  task_gone : (failures : Option ℕ) → EventFailures s event job id failures None
  added_task : (row : JobRow) → adds_task event job id ≡ true → job_of s job ≡ Some row → is_past row.state ≡ false →
      EventFailures s event job id None (Some 0)
  reactivated_task : (row : JobRow) (task : TaskRow) → reactivates_task event job id ≡ true → job_of s job ≡ Some row → is_past row.state ≡ false →
      task_of s job id ≡ Some task → can_reactivate task ≡ true → EventFailures s event job id (Some task.failures) (Some 0)

-- the failures of a task before a due step with this line and after it: they stay, the task is gone, or it is settled to be tried again
-- with one failure more, while its failures were below the limit of its retries
pub data DueFailures (s : State) (due : Due) (job id : List ℕ) : Option ℕ → Option ℕ → Type 0 where
  same_failures : (failures : Option ℕ) → DueFailures s due job id failures failures
  task_gone : (failures : Option ℕ) → DueFailures s due job id failures None
  tried_again : (row : JobRow) (task : TaskRow) → due ≡ TaskSettled task.job task.id (Again (task.failures + 1)) → job_of s job ≡ Some row →
      task_of s job id ≡ Some task → is_below task.failures (retry_limit row task) ≡ true →
      DueFailures s due job id (Some task.failures) (Some (task.failures + 1))

-- the event ends a start run without success, and so a start run is made on its node, with the next number, so that it is the only one:
-- with that failure the node has no more failures than its pool's start task has retries
pub record StartsAgain (s : State) (event : EventKind) (made : RunRow) : Type 0 where
  pub number : ℕ
  pub ending : Ending
  pub run : RunRow
  pub node : NodeRow
  pub start : StartTask
  pub ended : event ≡ End number ending
  pub run_there : run_of s number ≡ Some run
  pub of_start : is_start run.kind ≡ true
  pub failed : is_success ending ≡ false
  pub node_there : node_of s run.node ≡ Some node
  pub start_there : start_of s node ≡ Some start
  pub left : is_within_limit (node.tries + 1) start.retries ≡ true
  pub next : made.number ≡ s.next_run
  pub on_node : made.node ≡ node.number

-- the event ends a preparation run without success, and so a preparation run is made of its job on its node, with the next number, so
-- that it is the only one: with that failure the preparation has no more failures than the job's preparation task has retries
pub record PreparesAgain (s : State) (event : EventKind) (made : RunRow) : Type 0 where
  pub number : ℕ
  pub ending : Ending
  pub run : RunRow
  pub prep : PrepRow
  pub preparation : StartTask
  pub ended : event ≡ End number ending
  pub run_there : run_of s number ≡ Some run
  pub of_preparation : is_preparation run.kind ≡ true
  pub failed : is_success ending ≡ false
  pub prep_there : prep_of_run s run ≡ Some prep
  pub preparation_there : preparation_of s prep ≡ Some preparation
  pub left : is_within_limit (prep.tries + 1) preparation.retries ≡ true
  pub next : made.number ≡ s.next_run
  pub on_node : made.node ≡ prep.node
  pub of_job : made.job ≡ Some prep.job

-- what an event does to retries, from these tables to those after it: failures of tasks are never raised, and start and preparation
-- runs are only made again after a failure that left a retry
pub record EventRetries (s : State) (event : EventKind) (after : State) : Type 0 where
  pub failures : (job id : List ℕ) → EventFailures s event job id (failures_of s job id) (failures_of after job id)
  pub starts : (number : ℕ) (made : RunRow) → run_of after number ≡ Some made → s.next_run ≤ number → is_start made.kind ≡ true → StartsAgain s event made
  pub preparations : (number : ℕ) (made : RunRow) → run_of after number ≡ Some made → s.next_run ≤ number → is_preparation made.kind ≡ true →
      PreparesAgain s event made

-- the start task of the run's node begins with this run: the node is there afterwards, and was not before
pub record StartsFirst (before after : State) (made : RunRow) : Type 0 where
  pub node : NodeRow
  pub absent : node_of before made.node ≡ None
  pub there : node_of after made.node ≡ Some node

-- the preparation of the run's job on its node begins with this run: the preparation is there afterwards, and was not before
pub record PreparesFirst (before after : State) (made : RunRow) : Type 0 where
  pub job : List ℕ
  pub prep : PrepRow
  pub of_job : made.job ≡ Some job
  pub absent : prep_of before job made.node ≡ None
  pub there : prep_of after job made.node ≡ Some prep

-- what a due step does to retries: failures of a task rise only by one, while they are below its limit, and start and preparation runs
-- are only made with new nodes, and with preparations that begin
pub record DueRetries (s : State) (step : DueStep) : Type 0 where
  pub failures : (job id : List ℕ) → DueFailures s step.due job id (failures_of s job id) (failures_of step.state job id)
  pub starts : (number : ℕ) (made : RunRow) → run_of step.state number ≡ Some made → s.next_run ≤ number → is_start made.kind ≡ true →
      StartsFirst s step.state made
  pub preparations : (number : ℕ) (made : RunRow) → run_of step.state number ≡ Some made → s.next_run ≤ number → is_preparation made.kind ≡ true →
      PreparesFirst s step.state made
