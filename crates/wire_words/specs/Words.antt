-- The words of states and kinds. An absent value is `-`.
use Rattle.std.specs.Prelude.{ℕ, List, Bool, true, false, Option, Some, None, codes}
use Rattle.std.specs.Fmt.{signed_decimal}
use Rattle.batch_model.specs.Variants.{NodeState, StartingNode, WaitingForStartTask, StartTaskFailed, Idle, RunningNode, LeavingPool, TaskState, ActiveTask, Preparing, RunningTask, CompletedTask}
use Rattle.batch_model.specs.Variants.{Alloc, Steady, Resizing, Stopping, Fill, Spread, Pack, JobState, JobActive, Disabling, Disabled, Enabling, Terminating, JobCompleted, Deleting, RunKind, StartRun, PrepRun, TaskRun, CoordinationRun, ReleaseRun, RunState, Waiting, Queued, Taken, Ended, Withdrawn, Ending, Code, NoCode, NotStarted, How, ByEnding, ByTermination, ByWall, Closed, PrepState, PrepRunning, PrepCompleted, PrepFailed, ReleaseState, NoRelease, ReleaseRunning, ReleaseDone}

-- a pool that is being deleted or is not
unfoldable pub pool_state_word : Bool → List ℕ
pool_state_word true = codes "deleting"
pool_state_word false = codes "active"

-- whether a pool is being resized
unfoldable pub alloc_word : Alloc → List ℕ
alloc_word Steady = codes "steady"
alloc_word Resizing = codes "resizing"
alloc_word Stopping = codes "stopping"

-- how tasks are distributed over nodes
unfoldable pub fill_word : Fill → List ℕ
fill_word Spread = codes "spread"
fill_word Pack = codes "pack"

-- the state of a node
unfoldable pub node_state_word : NodeState → List ℕ
node_state_word StartingNode = codes "starting"
node_state_word WaitingForStartTask = codes "waitingforstarttask"
node_state_word StartTaskFailed = codes "starttaskfailed"
node_state_word Idle = codes "idle"
node_state_word RunningNode = codes "running"
node_state_word LeavingPool = codes "leavingpool"

-- the state of a task
unfoldable pub task_state_word : TaskState → List ℕ
task_state_word ActiveTask = codes "active"
task_state_word Preparing = codes "preparing"
task_state_word RunningTask = codes "running"
task_state_word CompletedTask = codes "completed"

-- the state of a job
unfoldable pub job_state_word : JobState → List ℕ
job_state_word JobActive = codes "active"
job_state_word Disabling = codes "disabling"
job_state_word Disabled = codes "disabled"
job_state_word Enabling = codes "enabling"
job_state_word Terminating = codes "terminating"
job_state_word JobCompleted = codes "completed"
job_state_word Deleting = codes "deleting"

-- what a run executes
unfoldable pub run_kind_word : RunKind → List ℕ
run_kind_word StartRun = codes "start"
run_kind_word PrepRun = codes "prep"
run_kind_word TaskRun = codes "task"
run_kind_word CoordinationRun = codes "coordination"
run_kind_word ReleaseRun = codes "release"

-- the state of a run
unfoldable pub run_state_word : RunState → List ℕ
run_state_word Waiting = codes "waiting"
run_state_word Queued = codes "queued"
run_state_word Taken = codes "taken"
run_state_word (Ended ending) = codes "ended"
run_state_word Withdrawn = codes "withdrawn"

-- the state of a preparation
unfoldable pub prep_state_word : PrepState → List ℕ
prep_state_word PrepRunning = codes "running"
prep_state_word PrepCompleted = codes "completed"
prep_state_word PrepFailed = codes "failed"

-- the state of a release task on a node
unfoldable pub release_state_word : ReleaseState → List ℕ
release_state_word NoRelease = codes "no"
release_state_word ReleaseRunning = codes "running"
release_state_word ReleaseDone = codes "done"

-- how a run ended: its code, or why it has none
unfoldable pub ending_text : Ending → List ℕ
ending_text (Code code) = signed_decimal code
ending_text NoCode = codes "none"
ending_text NotStarted = codes "notstarted"

-- how a run ended, if it did
unfoldable pub run_ending_text : RunState → List ℕ
run_ending_text Waiting = codes "-"
run_ending_text Queued = codes "-"
run_ending_text Taken = codes "-"
run_ending_text (Ended ending) = ending_text ending
run_ending_text Withdrawn = codes "-"

-- how a task ended
unfoldable pub how_text : How → List ℕ
how_text (ByEnding ending) = ending_text ending
how_text ByTermination = codes "terminated"
how_text ByWall = codes "wall"

-- how a task ended, if it did
unfoldable pub exit_text : Option Closed → List ℕ
exit_text None = codes "-"
exit_text (Some closed) = how_text closed.how

-- whether a task succeeded
unfoldable pub success_word : Bool → List ℕ
success_word true = codes "success"
success_word false = codes "failure"

-- whether a task succeeded, if it ended
unfoldable pub result_word : Option Closed → List ℕ
result_word None = codes "-"
result_word (Some closed) = success_word closed.success

-- a text, or `-` if it is absent
unfoldable pub text_or_dash : Option (List ℕ) → List ℕ
text_or_dash None = codes "-"
text_or_dash (Some text) = text
