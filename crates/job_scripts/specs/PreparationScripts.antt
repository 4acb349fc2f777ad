-- Preparation tasks: nodes that are prepared before the first task of a job runs there.
use Rattle.std.specs.Prelude.{ℕ, ◌+◌, ◌^◌, List, [], ◌∷◌, map, codes, Option, Some, None, ℤ, pos, negsuc, true, false, Bool}
use Rattle.bt_rows.specs.declared.event.EventKind.TheVariants.{AddPool, AddJob, TerminateJob, DeleteJob, AddTask, Take, End, Tick}
use Rattle.bt_rows.specs.declared.event.JobSpec.{JobSpec}
use Rattle.bt_rows.specs.declared.reply.Reply.TheVariants.{Status, Refused}
use Rattle.bt_rows.specs.declared.refusal.Refusal.TheVariants.{RunWaiting, RunWithdrawn}
use Rattle.bt_rows.specs.declared.due.ResizeEnd.TheVariants.{Reached}
use Rattle.bt_rows.specs.declared.due.Outcome.TheVariants.{Success, Failure, Again}
use Rattle.bt_rows.specs.declared.due.JobEnd.TheVariants.{Kept, Removed}
use Rattle.bt_rows.specs.declared.due.Due.{Due}
use Rattle.bt_rows.specs.declared.due.Due.TheVariants.{PoolResized, NodeAdded, TaskSettled, TaskPlaced, JobEnded}
use Rattle.batch_model.specs.Variants.{State, Code, NoCode, RunKind, PrepRun, TaskRun, RunState, Queued, Waiting, Taken, Ended}
use Rattle.batch_model.specs.Variants.{Withdrawn, RunRow, PrepState, PrepRunning, PrepCompleted, PrepFailed, ReleaseState, NoRelease, PrepRow}
use Rattle.model_scripts.specs.Scripts.{Call, at, Line, line, state_after}
use Rattle.model_scripts.specs.Bodies.{pool_body, job_body, task_body}
use Rattle.model_scripts.specs.ByHand.{dues_of, after_events}
use Rattle.job_scripts.specs.JobScripts.{one_node, two_nodes}

-- a job with a preparation of so many retries that is waited for
abbrev pub prepared_body : ℤ → JobSpec
prepared_body limit = record (job_body (codes "p")) { prep = Some (record { line = codes "prep"; retries = limit; wait = true }) }

-- a job with a preparation that is not waited for
abbrev pub unawaited_body : JobSpec
unawaited_body = record (job_body (codes "p")) { prep = Some (record { line = codes "prep"; retries = pos 0; wait = false }) }

-- job, node, state, failures, whether a task was started there, and the release
abbrev pub prep_row : PrepRow → List ℕ × ℕ × PrepState × ℕ × Bool × ReleaseState
prep_row prep = (prep.job, prep.node, prep.state, prep.tries, prep.ran, prep.release)

-- the preparations after calls
abbrev pub preps_after : List Call → List (List ℕ × ℕ × PrepState × ℕ × Bool × ReleaseState)
preps_after calls = map prep_row (state_after calls).preps

-- number, kind, node, job, task and state
abbrev pub short_run : RunRow → ℕ × RunKind × ℕ × Option (List ℕ) × Option (List ℕ) × RunState
short_run run = (run.number, run.kind, run.node, run.job, run.task, run.state)

-- the runs after calls
abbrev pub short_runs_after : List Call → List (ℕ × RunKind × ℕ × Option (List ℕ) × Option (List ℕ) × RunState)
short_runs_after calls = map short_run (state_after calls).runs

-- a preparation is queued, and the run of the task waits for it
abbrev pub waiting_task : List Call
waiting_task =
    at 0 (AddPool (pool_body (codes "p") 2))
    ∷ at 0 (AddJob (codes "j") (prepared_body (pos 0)))
    ∷ at 0 (AddTask (codes "j") (task_body (codes "t")))
    ∷ at 1 (Take 2)
    ∷ []

abbrev pub waiting_task_lines : List Line
waiting_task_lines =
    two_nodes
    ∷ line (Status 201) []
    ∷ line (Status 201) (TaskPlaced (codes "j") (codes "t") 1 2 ∷ [])
    ∷ line (Refused RunWaiting) []
    ∷ []

abbrev pub waiting_task_runs : List (ℕ × RunKind × ℕ × Option (List ℕ) × Option (List ℕ) × RunState)
waiting_task_runs =
    (1, PrepRun, 1, Some (codes "j"), None, Queued)
    ∷ (2, TaskRun, 1, Some (codes "j"), Some (codes "t"), Waiting)
    ∷ []

abbrev pub waiting_task_preps : List (List ℕ × ℕ × PrepState × ℕ × Bool × ReleaseState)
waiting_task_preps = (codes "j", 1, PrepRunning, 0, false, NoRelease) ∷ []

-- the preparation fails on one node, and on the other the task runs once it is prepared
abbrev pub failing_once : List Call
failing_once =
    at 0 (AddPool (pool_body (codes "p") 2))
    ∷ at 0 (AddJob (codes "j") (prepared_body (pos 0)))
    ∷ at 0 (AddTask (codes "j") (task_body (codes "t")))
    ∷ at 1 (Take 1)
    ∷ at 2 (End 1 (Code (pos 1)))
    ∷ at 3 (Take 4)
    ∷ at 3 (Take 3)
    ∷ at 4 (End 3 (Code (pos 0)))
    ∷ at 5 (Take 4)
    ∷ []

abbrev pub failing_once_lines : List Line
failing_once_lines =
    two_nodes
    ∷ line (Status 201) []
    ∷ line (Status 201) (TaskPlaced (codes "j") (codes "t") 1 2 ∷ [])
    ∷ line (Status 200) []
    ∷ line (Status 200) (TaskSettled (codes "j") (codes "t") (Again 0) ∷ TaskPlaced (codes "j") (codes "t") 2 4 ∷ [])
    ∷ line (Refused RunWaiting) []
    ∷ line (Status 200) []
    ∷ line (Status 200) []
    ∷ line (Status 200) []
    ∷ []

abbrev pub failing_once_runs : List (ℕ × RunKind × ℕ × Option (List ℕ) × Option (List ℕ) × RunState)
failing_once_runs =
    (1, PrepRun, 1, Some (codes "j"), None, Ended (Code (pos 1)))
    ∷ (2, TaskRun, 1, Some (codes "j"), Some (codes "t"), Withdrawn)
    ∷ (3, PrepRun, 2, Some (codes "j"), None, Ended (Code (pos 0)))
    ∷ (4, TaskRun, 2, Some (codes "j"), Some (codes "t"), Taken)
    ∷ []

abbrev pub failing_once_preps : List (List ℕ × ℕ × PrepState × ℕ × Bool × ReleaseState)
failing_once_preps =
    (codes "j", 1, PrepFailed, 1, false, NoRelease)
    ∷ (codes "j", 2, PrepCompleted, 0, true, NoRelease)
    ∷ []

-- two retries on one node, which then is not used for the job, and is for another
abbrev pub failing_often : List Call
failing_often =
    at 0 (AddPool (pool_body (codes "p") 1))
    ∷ at 0 (AddJob (codes "j") (prepared_body (pos 2)))
    ∷ at 0 (AddTask (codes "j") (task_body (codes "t")))
    ∷ at 1 (Take 1)
    ∷ at 2 (End 1 (Code (pos 1)))
    ∷ at 3 (Take 3)
    ∷ at 4 (End 3 NoCode)
    ∷ at 5 (Take 4)
    ∷ at 6 (End 4 (Code (pos 1)))
    ∷ at 7 (AddJob (codes "k") (job_body (codes "p")))
    ∷ at 7 (AddTask (codes "k") (task_body (codes "u")))
    ∷ []

abbrev pub failing_often_lines : List Line
failing_often_lines =
    one_node
    ∷ line (Status 201) []
    ∷ line (Status 201) (TaskPlaced (codes "j") (codes "t") 1 2 ∷ [])
    ∷ line (Status 200) []
    ∷ line (Status 200) []
    ∷ line (Status 200) []
    ∷ line (Status 200) []
    ∷ line (Status 200) []
    ∷ line (Status 200) (TaskSettled (codes "j") (codes "t") (Again 0) ∷ [])
    ∷ line (Status 201) []
    ∷ line (Status 201) (TaskPlaced (codes "k") (codes "u") 1 5 ∷ [])
    ∷ []

abbrev pub failing_often_preps : List (List ℕ × ℕ × PrepState × ℕ × Bool × ReleaseState)
failing_often_preps = (codes "j", 1, PrepFailed, 3, false, NoRelease) ∷ []

-- without limit it is tried again and again, and then succeeds
abbrev pub failing_always : List Call
failing_always =
    at 0 (AddPool (pool_body (codes "p") 1))
    ∷ at 0 (AddJob (codes "j") (prepared_body (negsuc 0)))
    ∷ at 0 (AddTask (codes "j") (task_body (codes "t")))
    ∷ at 1 (Take 1)
    ∷ at 2 (End 1 (Code (pos 1)))
    ∷ at 3 (Take 3)
    ∷ at 4 (End 3 (Code (pos 1)))
    ∷ at 5 (Take 4)
    ∷ at 6 (End 4 (Code (pos 0)))
    ∷ at 7 (Take 2)
    ∷ []

abbrev pub failing_always_lines : List Line
failing_always_lines =
    one_node
    ∷ line (Status 201) []
    ∷ line (Status 201) (TaskPlaced (codes "j") (codes "t") 1 2 ∷ [])
    ∷ line (Status 200) []
    ∷ line (Status 200) []
    ∷ line (Status 200) []
    ∷ line (Status 200) []
    ∷ line (Status 200) []
    ∷ line (Status 200) []
    ∷ line (Status 200) []
    ∷ []

abbrev pub failing_always_preps : List (List ℕ × ℕ × PrepState × ℕ × Bool × ReleaseState)
failing_always_preps = (codes "j", 1, PrepCompleted, 2, true, NoRelease) ∷ []

-- one preparation for two tasks on a node, and none for a third
abbrev pub preparing_once : List Call
preparing_once =
    at 0 (AddPool (record (pool_body (codes "p") 1) { slots = 2 }))
    ∷ at 0 (AddJob (codes "j") (prepared_body (pos 0)))
    ∷ at 0 (AddTask (codes "j") (task_body (codes "a")))
    ∷ at 0 (AddTask (codes "j") (task_body (codes "b")))
    ∷ at 1 (Take 1)
    ∷ at 2 (End 1 (Code (pos 0)))
    ∷ at 3 (Take 2)
    ∷ at 4 (End 2 (Code (pos 0)))
    ∷ at 5 (AddTask (codes "j") (task_body (codes "c")))
    ∷ []

abbrev pub preparing_once_lines : List Line
preparing_once_lines =
    one_node
    ∷ line (Status 201) []
    ∷ line (Status 201) (TaskPlaced (codes "j") (codes "a") 1 2 ∷ [])
    ∷ line (Status 201) (TaskPlaced (codes "j") (codes "b") 1 3 ∷ [])
    ∷ line (Status 200) []
    ∷ line (Status 200) []
    ∷ line (Status 200) []
    ∷ line (Status 200) (TaskSettled (codes "j") (codes "a") Success ∷ [])
    ∷ line (Status 201) (TaskPlaced (codes "j") (codes "c") 1 4 ∷ [])
    ∷ []

abbrev pub preparing_once_runs : List (ℕ × RunKind × ℕ × Option (List ℕ) × Option (List ℕ) × RunState)
preparing_once_runs =
    (1, PrepRun, 1, Some (codes "j"), None, Ended (Code (pos 0)))
    ∷ (2, TaskRun, 1, Some (codes "j"), Some (codes "a"), Ended (Code (pos 0)))
    ∷ (3, TaskRun, 1, Some (codes "j"), Some (codes "b"), Queued)
    ∷ (4, TaskRun, 1, Some (codes "j"), Some (codes "c"), Queued)
    ∷ []

-- a failed preparation that is not waited for: the task runs all the same
abbrev pub unawaited : List Call
unawaited =
    at 0 (AddPool (pool_body (codes "p") 1))
    ∷ at 0 (AddJob (codes "j") unawaited_body)
    ∷ at 0 (AddTask (codes "j") (task_body (codes "t")))
    ∷ at 1 (Take 2)
    ∷ at 1 (Take 1)
    ∷ at 2 (End 1 (Code (pos 1)))
    ∷ at 3 (End 2 (Code (pos 0)))
    ∷ at 4 (AddTask (codes "j") (task_body (codes "u")))
    ∷ []

abbrev pub unawaited_lines : List Line
unawaited_lines =
    one_node
    ∷ line (Status 201) []
    ∷ line (Status 201) (TaskPlaced (codes "j") (codes "t") 1 2 ∷ [])
    ∷ line (Status 200) []
    ∷ line (Status 200) []
    ∷ line (Status 200) []
    ∷ line (Status 200) (TaskSettled (codes "j") (codes "t") Success ∷ [])
    ∷ line (Status 201) (TaskPlaced (codes "j") (codes "u") 1 3 ∷ [])
    ∷ []

abbrev pub unawaited_preps : List (List ℕ × ℕ × PrepState × ℕ × Bool × ReleaseState)
unawaited_preps = (codes "j", 1, PrepFailed, 1, true, NoRelease) ∷ []

-- a deleted job: its queued preparation is withdrawn, and it is gone at once
abbrev pub halted_queued : List Call
halted_queued =
    at 0 (AddPool (pool_body (codes "p") 1))
    ∷ at 0 (AddJob (codes "j") (prepared_body (pos 5)))
    ∷ at 0 (AddTask (codes "j") (task_body (codes "t")))
    ∷ at 1 (TerminateJob (codes "j") None)
    ∷ at 2 (Take 1)
    ∷ []

abbrev pub halted_queued_lines : List Line
halted_queued_lines =
    one_node
    ∷ line (Status 201) []
    ∷ line (Status 201) (TaskPlaced (codes "j") (codes "t") 1 2 ∷ [])
    ∷ line (Status 202) (TaskSettled (codes "j") (codes "t") Failure ∷ JobEnded (codes "j") Kept ∷ [])
    ∷ line (Refused RunWithdrawn) []
    ∷ []

abbrev pub halted_queued_preps : List (List ℕ × ℕ × PrepState × ℕ × Bool × ReleaseState)
halted_queued_preps = (codes "j", 1, PrepFailed, 0, false, NoRelease) ∷ []

-- the preparation of a terminated job runs on until it ends, and has failed with any code
abbrev pub asked_taken : List Call
asked_taken =
    at 0 (AddPool (pool_body (codes "p") 1))
    ∷ at 0 (AddJob (codes "j") (prepared_body (pos 5)))
    ∷ at 0 (AddTask (codes "j") (task_body (codes "t")))
    ∷ at 1 (Take 1)
    ∷ at 2 (TerminateJob (codes "j") None)
    ∷ at 3 Tick
    ∷ at 4 (End 1 (Code (pos 0)))
    ∷ []

abbrev pub asked_taken_lines : List Line
asked_taken_lines =
    one_node
    ∷ line (Status 201) []
    ∷ line (Status 201) (TaskPlaced (codes "j") (codes "t") 1 2 ∷ [])
    ∷ line (Status 200) []
    ∷ line (Status 202) (TaskSettled (codes "j") (codes "t") Failure ∷ [])
    ∷ line (Status 200) []
    ∷ line (Status 200) (JobEnded (codes "j") Kept ∷ [])
    ∷ []

abbrev pub asked_taken_preps : List (List ℕ × ℕ × PrepState × ℕ × Bool × ReleaseState)
asked_taken_preps = (codes "j", 1, PrepFailed, 0, false, NoRelease) ∷ []

-- a deleted job whose preparation runs
abbrev pub deleted_taken : List Call
deleted_taken =
    at 0 (AddPool (pool_body (codes "p") 1))
    ∷ at 0 (AddJob (codes "j") (prepared_body (pos 5)))
    ∷ at 0 (AddTask (codes "j") (task_body (codes "t")))
    ∷ at 1 (Take 1)
    ∷ at 2 (DeleteJob (codes "j"))
    ∷ at 4 (End 1 (Code (pos 1)))
    ∷ []

abbrev pub deleted_taken_lines : List Line
deleted_taken_lines =
    one_node
    ∷ line (Status 201) []
    ∷ line (Status 201) (TaskPlaced (codes "j") (codes "t") 1 2 ∷ [])
    ∷ line (Status 200) []
    ∷ line (Status 202) (TaskSettled (codes "j") (codes "t") Failure ∷ [])
    ∷ line (Status 200) (JobEnded (codes "j") Removed ∷ [])
    ∷ []

abbrev pub deleted_taken_preps : List (List ℕ × ℕ × PrepState × ℕ × Bool × ReleaseState)
deleted_taken_preps = []

-- after an opening the new node is prepared anew
abbrev pub opened_waiting : List Call
opened_waiting = at 5 Tick ∷ at 6 (Take 4) ∷ at 6 (Take 3) ∷ at 7 (End 3 (Code (pos 0))) ∷ at 8 (Take 4) ∷ []

abbrev pub opened_waiting_lines : List Line
opened_waiting_lines =
    line (Status 200)
    (TaskSettled (codes "j") (codes "t") (Again 0)
    ∷ NodeAdded (codes "p") 3 1
    ∷ NodeAdded (codes "p") 4 2
    ∷ PoolResized (codes "p") Reached
    ∷ TaskPlaced (codes "j") (codes "t") 3 4
    ∷ [])
    ∷ line (Refused RunWaiting) []
    ∷ line (Status 200) []
    ∷ line (Status 200) []
    ∷ line (Status 200) []
    ∷ []

-- the last number was given: a preparation that fails is not tried again, though it could be
abbrev pub without_numbers : State
without_numbers =
    after_events (Take 1 ∷ End 1 (Code (pos 1)) ∷ [])
    (record (state_after
    (at 0 (AddPool (pool_body (codes "p") 1))
    ∷ at 0 (AddJob (codes "j") (prepared_body (pos 5)))
    ∷ at 0 (AddTask (codes "j") (task_body (codes "t")))
    ∷ [])) { next_run = 10 ^ 15 + 1 })

abbrev pub without_numbers_preps : List (List ℕ × ℕ × PrepState × ℕ × Bool × ReleaseState)
without_numbers_preps = map prep_row without_numbers.preps

abbrev pub last_preps : List (List ℕ × ℕ × PrepState × ℕ × Bool × ReleaseState)
last_preps = (codes "j", 1, PrepFailed, 1, false, NoRelease) ∷ []

abbrev pub without_numbers_dues : List Due
without_numbers_dues = dues_of without_numbers

abbrev pub last_dues : List Due
last_dues = TaskSettled (codes "j") (codes "t") (Again 0) ∷ []
