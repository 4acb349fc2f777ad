-- Runs: whose they are, whether they have ended, and new ones.
-- Source: this project's own.
use Rattle.std.specs.Prelude.{ℕ, Bool, true, false, ◌&&◌, nat_eq, List, Option, Some, None}
use Rattle.batch_model.specs.Finding.{names}
use Rattle.batch_model.specs.Variants.{State, NodeRow, StartTask, TaskRow, Ending, RunRow, RunKind, RunState, StartRun, PrepRun, TaskRun, CoordinationRun}
use Rattle.batch_model.specs.Variants.{ReleaseRun, Waiting, Queued, Taken, Ended, Withdrawn, PrepRow}

abbrev pub is_waiting : RunState → Bool
is_waiting Waiting = true
is_waiting _ = false

abbrev pub is_queued : RunState → Bool
is_queued Queued = true
is_queued _ = false

abbrev pub is_taken : RunState → Bool
is_taken Taken = true
is_taken _ = false

abbrev pub is_withdrawn : RunState → Bool
is_withdrawn Withdrawn = true
is_withdrawn _ = false

abbrev pub is_ended : RunState → Bool
is_ended (Ended ending) = true
is_ended _ = false

-- waiting, queued or taken
abbrev pub is_unended : RunState → Bool
is_unended (Ended ending) = false
is_unended Withdrawn = false
is_unended _ = true

-- how the run ended, if it did
abbrev pub ending_of : RunState → Option Ending
ending_of (Ended ending) = Some ending
ending_of _ = None

abbrev pub is_start : RunKind → Bool
is_start StartRun = true
is_start _ = false

abbrev pub is_preparation : RunKind → Bool
is_preparation PrepRun = true
is_preparation _ = false

-- a task's main command
abbrev pub is_main : RunKind → Bool
is_main TaskRun = true
is_main _ = false

abbrev pub is_coordination : RunKind → Bool
is_coordination CoordinationRun = true
is_coordination _ = false

abbrev pub is_release : RunKind → Bool
is_release ReleaseRun = true
is_release _ = false

-- a task's main or coordination command
abbrev pub is_work : RunKind → Bool
is_work TaskRun = true
is_work CoordinationRun = true
is_work _ = false

-- the run is of a task of this job and id
abbrev pub is_run_of_task : List ℕ → List ℕ → RunRow → Bool
is_run_of_task job id run = names run.job job && names run.task id

-- the run is of the task's present attempt
abbrev pub is_present : TaskRow → RunRow → Bool
is_present task run = is_run_of_task task.job task.id run && nat_eq run.attempt task.attempt

-- the run has not ended, and is of the task's present attempt
abbrev pub is_busy_for : TaskRow → RunRow → Bool
is_busy_for task run = is_present task run && is_unended run.state

-- a preparation run that has not ended
abbrev pub is_open_preparation : RunRow → Bool
is_open_preparation run = is_preparation run.kind && is_unended run.state

-- an unended preparation run of the job
abbrev pub prepares : List ℕ → RunRow → Bool
prepares job run = is_open_preparation run && names run.job job

-- the run is of the preparation's job, and on its node
abbrev pub is_at_prep : PrepRow → RunRow → Bool
is_at_prep prep run = names run.job prep.job && nat_eq run.node prep.node

-- withdrawn now
abbrev pub withdrawn : ℕ → RunRow → RunRow
withdrawn now run = record run { state = Withdrawn; ended = Some now }

-- asked to stop
abbrev pub asked_to_stop : RunRow → RunRow
asked_to_stop run = record run { asked = true }

-- a run that was not taken is withdrawn, one that runs is asked to stop, and one that has ended stays
abbrev pub halted_in : RunState → ℕ → RunRow → RunRow
halted_in Waiting now run = withdrawn now run
halted_in Queued now run = withdrawn now run
halted_in Taken now run = asked_to_stop run
halted_in _ now run = run

-- halted now, by its state
abbrev pub halted : ℕ → RunRow → RunRow
halted now run = halted_in run.state now run

-- a run on a node of a pool that names no job and no task, and has no slots
abbrev pub new_run : State → ℕ → List ℕ → RunKind → List ℕ → RunRow
new_run s on_node of_pool what text = record {
  number = s.next_run;
  kind = what;
  node = on_node;
  pool = of_pool;
  job = None;
  task = None;
  attempt = 0;
  line = text;
  slots = 0;
  state = Queued;
  asked = false;
  made = s.moment;
  taken = None;
  ended = None;
}

-- a run of the pool's start task on the node
abbrev pub start_run : State → NodeRow → StartTask → RunRow
start_run s node start = new_run s node.number node.pool StartRun start.line

-- a run of the job's preparation or release task
abbrev pub job_run : State → ℕ → List ℕ → RunKind → List ℕ → List ℕ → RunRow
job_run s on_node of_pool what text of_job = record (new_run s on_node of_pool what text) { job = Some of_job }

-- a run of the task's present attempt
abbrev pub work_run : State → NodeRow → TaskRow → RunKind → List ℕ → ℕ → RunState → RunRow
work_run s node of_task what text need first_state = record (new_run s node.number node.pool what text) {
  job = Some of_task.job;
  task = Some of_task.id;
  attempt = of_task.attempt;
  slots = need;
  state = first_state;
}
