-- Release tasks: what runs on the nodes of a job once it ends.
use Rattle.std.specs.Prelude.{ℕ, ◌+◌, ◌^◌, List, [], ◌∷◌, codes, Option, Some, None, pos, true, false, Bool}
use Rattle.bt_rows.specs.declared.event.EventKind.TheVariants.{AddPool, AddJob, TerminateJob, DeleteJob, AddTask, Take, End, Tick}
use Rattle.bt_rows.specs.declared.event.JobSpec.{JobSpec}
use Rattle.bt_rows.specs.declared.reply.Reply.TheVariants.{Status, Refused}
use Rattle.bt_rows.specs.declared.refusal.Refusal.TheVariants.{RunWaiting}
use Rattle.bt_rows.specs.declared.due.ResizeEnd.TheVariants.{Reached}
use Rattle.bt_rows.specs.declared.due.Outcome.TheVariants.{Success, Failure, Again}
use Rattle.bt_rows.specs.declared.due.JobEnd.TheVariants.{Kept, Removed}
use Rattle.bt_rows.specs.declared.due.Due.{Due}
use Rattle.bt_rows.specs.declared.due.Due.TheVariants.{PoolResized, NodeAdded, TaskSettled, TaskPlaced, ReleaseTimedOut, ReleaseMade, JobEnded}
use Rattle.batch_model.specs.Variants.{State, Terminating, Code, NoCode, PrepState, PrepCompleted, PrepFailed, ReleaseState, NoRelease, ReleaseDone}
use Rattle.batch_model.specs.Variants.{RunKind, PrepRun, TaskRun, ReleaseRun, RunState, Ended, Withdrawn}
use Rattle.batch_model.specs.Jobs.{new_job}
use Rattle.batch_model.specs.Preps.{new_prep}
use Rattle.model_scripts.specs.Scripts.{Call, at, Line, line, state_after}
use Rattle.model_scripts.specs.Bodies.{pool_body, job_body, task_body}
use Rattle.model_scripts.specs.ByHand.{due_of, dues_of}
use Rattle.job_scripts.specs.JobScripts.{one_node, two_nodes}

-- a job with a preparation that is waited for and a release task of so many milliseconds
abbrev pub released_body : ℕ → JobSpec
released_body duration = record (job_body (codes "p")) {
  prep = Some (record { line = codes "prep"; retries = pos 0; wait = true });
  release = Some (record { line = codes "rel"; wall = duration });
}

-- the preparation fails on one node and succeeds on the other, where the job is released
abbrev pub released_job : List Call
released_job =
    at 0 (AddPool (pool_body (codes "p") 2))
    ∷ at 0 (AddJob (codes "j") (released_body 900000))
    ∷ at 0 (AddTask (codes "j") (task_body (codes "t")))
    ∷ at 1 (Take 2)
    ∷ at 1 (Take 1)
    ∷ at 2 (End 1 (Code (pos 1)))
    ∷ at 3 (Take 3)
    ∷ at 4 (End 3 (Code (pos 0)))
    ∷ at 5 (Take 4)
    ∷ at 6 (End 4 (Code (pos 0)))
    ∷ at 7 (TerminateJob (codes "j") None)
    ∷ at 8 (Take 5)
    ∷ at 9 (End 5 (Code (pos 0)))
    ∷ []

abbrev pub released_job_lines : List Line
released_job_lines =
    two_nodes
    ∷ line (Status 201) []
    ∷ line (Status 201) (TaskPlaced (codes "j") (codes "t") 1 2 ∷ [])
    ∷ line (Refused RunWaiting) []
    ∷ line (Status 200) []
    ∷ line (Status 200) (TaskSettled (codes "j") (codes "t") (Again 0) ∷ TaskPlaced (codes "j") (codes "t") 2 4 ∷ [])
    ∷ line (Status 200) []
    ∷ line (Status 200) []
    ∷ line (Status 200) []
    ∷ line (Status 200) (TaskSettled (codes "j") (codes "t") Success ∷ [])
    ∷ line (Status 202) (ReleaseMade (codes "j") 2 5 ∷ [])
    ∷ line (Status 200) []
    ∷ line (Status 200) (JobEnded (codes "j") Kept ∷ [])
    ∷ []

abbrev pub released_job_preps : List (List ℕ × ℕ × PrepState × ℕ × Bool × ReleaseState)
released_job_preps =
    (codes "j", 1, PrepFailed, 1, false, NoRelease)
    ∷ (codes "j", 2, PrepCompleted, 0, true, ReleaseDone)
    ∷ []

abbrev pub released_job_runs : List (ℕ × RunKind × ℕ × Option (List ℕ) × Option (List ℕ) × RunState)
released_job_runs =
    (1, PrepRun, 1, Some (codes "j"), None, Ended (Code (pos 1)))
    ∷ (2, TaskRun, 1, Some (codes "j"), Some (codes "t"), Withdrawn)
    ∷ (3, PrepRun, 2, Some (codes "j"), None, Ended (Code (pos 0)))
    ∷ (4, TaskRun, 2, Some (codes "j"), Some (codes "t"), Ended (Code (pos 0)))
    ∷ (5, ReleaseRun, 2, Some (codes "j"), None, Ended (Code (pos 0)))
    ∷ []

-- two nodes are prepared, and a task is started on one of them alone: the job is released there, once no task is placed
abbrev pub served_once : List Call
served_once =
    at 0 (AddPool (pool_body (codes "p") 2))
    ∷ at 0 (AddJob (codes "j") (released_body 900000))
    ∷ at 0 (AddTask (codes "j") (task_body (codes "a")))
    ∷ at 0 (AddTask (codes "j") (task_body (codes "b")))
    ∷ at 1 (Take 1)
    ∷ at 1 (Take 3)
    ∷ at 2 (End 1 (Code (pos 0)))
    ∷ at 2 (End 3 (Code (pos 0)))
    ∷ at 3 (Take 4)
    ∷ at 4 (TerminateJob (codes "j") None)
    ∷ at 5 (End 4 (Code (pos 0)))
    ∷ at 6 (Take 5)
    ∷ at 7 (End 5 NoCode)
    ∷ []

abbrev pub served_once_lines : List Line
served_once_lines =
    two_nodes
    ∷ line (Status 201) []
    ∷ line (Status 201) (TaskPlaced (codes "j") (codes "a") 1 2 ∷ [])
    ∷ line (Status 201) (TaskPlaced (codes "j") (codes "b") 2 4 ∷ [])
    ∷ line (Status 200) []
    ∷ line (Status 200) []
    ∷ line (Status 200) []
    ∷ line (Status 200) []
    ∷ line (Status 200) []
    ∷ line (Status 202) (TaskSettled (codes "j") (codes "a") Failure ∷ [])
    ∷ line (Status 200) (TaskSettled (codes "j") (codes "b") Failure ∷ ReleaseMade (codes "j") 2 5 ∷ [])
    ∷ line (Status 200) []
    ∷ line (Status 200) (JobEnded (codes "j") Kept ∷ [])
    ∷ []

abbrev pub served_once_preps : List (List ℕ × ℕ × PrepState × ℕ × Bool × ReleaseState)
served_once_preps =
    (codes "j", 1, PrepCompleted, 0, false, NoRelease)
    ∷ (codes "j", 2, PrepCompleted, 0, true, ReleaseDone)
    ∷ []

-- a release run is asked to stop a minute after it was taken, not a millisecond before, and the job ends with the run
abbrev pub slow_release : List Call
slow_release =
    at 0 (AddPool (pool_body (codes "p") 1))
    ∷ at 0 (AddJob (codes "j") (released_body 60000))
    ∷ at 0 (AddTask (codes "j") (task_body (codes "t")))
    ∷ at 1 (Take 1)
    ∷ at 2 (End 1 (Code (pos 0)))
    ∷ at 3 (Take 2)
    ∷ at 4 (End 2 (Code (pos 0)))
    ∷ at 5 (TerminateJob (codes "j") None)
    ∷ at 10 (Take 3)
    ∷ at 60009 Tick
    ∷ at 60010 Tick
    ∷ at 60011 Tick
    ∷ at 60012 (End 3 NoCode)
    ∷ []

abbrev pub slow_release_lines : List Line
slow_release_lines =
    one_node
    ∷ line (Status 201) []
    ∷ line (Status 201) (TaskPlaced (codes "j") (codes "t") 1 2 ∷ [])
    ∷ line (Status 200) []
    ∷ line (Status 200) []
    ∷ line (Status 200) []
    ∷ line (Status 200) (TaskSettled (codes "j") (codes "t") Success ∷ [])
    ∷ line (Status 202) (ReleaseMade (codes "j") 1 3 ∷ [])
    ∷ line (Status 200) []
    ∷ line (Status 200) []
    ∷ line (Status 200) (ReleaseTimedOut 3 ∷ [])
    ∷ line (Status 200) []
    ∷ line (Status 200) (JobEnded (codes "j") Kept ∷ [])
    ∷ []

-- a deleted job is released before it is removed
abbrev pub deleted_release : List Call
deleted_release =
    at 0 (AddPool (pool_body (codes "p") 1))
    ∷ at 0 (AddJob (codes "j") (released_body 60000))
    ∷ at 0 (AddTask (codes "j") (task_body (codes "t")))
    ∷ at 1 (Take 1)
    ∷ at 2 (End 1 (Code (pos 0)))
    ∷ at 3 (Take 2)
    ∷ at 4 (End 2 (Code (pos 0)))
    ∷ at 5 (DeleteJob (codes "j"))
    ∷ at 6 (Take 3)
    ∷ at 7 (End 3 (Code (pos 1)))
    ∷ []

abbrev pub deleted_release_lines : List Line
deleted_release_lines =
    one_node
    ∷ line (Status 201) []
    ∷ line (Status 201) (TaskPlaced (codes "j") (codes "t") 1 2 ∷ [])
    ∷ line (Status 200) []
    ∷ line (Status 200) []
    ∷ line (Status 200) []
    ∷ line (Status 200) (TaskSettled (codes "j") (codes "t") Success ∷ [])
    ∷ line (Status 202) (ReleaseMade (codes "j") 1 3 ∷ [])
    ∷ line (Status 200) []
    ∷ line (Status 200) (JobEnded (codes "j") Removed ∷ [])
    ∷ []

-- the release run is cut short by an opening: the job ends without another
abbrev pub releasing_job : List Call
releasing_job =
    at 0 (AddPool (pool_body (codes "p") 1))
    ∷ at 0 (AddJob (codes "j") (released_body 60000))
    ∷ at 0 (AddTask (codes "j") (task_body (codes "t")))
    ∷ at 1 (Take 1)
    ∷ at 2 (End 1 (Code (pos 0)))
    ∷ at 3 (Take 2)
    ∷ at 4 (End 2 (Code (pos 0)))
    ∷ at 5 (TerminateJob (codes "j") None)
    ∷ at 6 (Take 3)
    ∷ []

abbrev pub opened_releasing : List Call
opened_releasing = at 7 Tick ∷ []

abbrev pub opened_releasing_lines : List Line
opened_releasing_lines =
    line (Status 200) (JobEnded (codes "j") Kept ∷ NodeAdded (codes "p") 2 1 ∷ PoolResized (codes "p") Reached ∷ []) ∷ []

-- a terminating job that was prepared on the one node of a pool and has served there, when the next run has such a number
abbrev pub releasing_at : ℕ → State
releasing_at number = record (state_after (at 0 (AddPool (pool_body (codes "p") 1)) ∷ [])) {
  jobs = record (new_job 0 (codes "j") (codes "p") (released_body 60000)) { state = Terminating } ∷ [];
  preps = record (new_prep (codes "j") 1) { state = PrepCompleted; ran = true } ∷ [];
  next_run = number;
}

-- the last number was given: the job is completed without a release run
abbrev pub without_numbers : List Due
without_numbers = dues_of (releasing_at (10 ^ 15 + 1))

abbrev pub ended_alone : List Due
ended_alone = JobEnded (codes "j") Kept ∷ []

-- the last number is given to a release run
abbrev pub with_a_number : Option Due
with_a_number = due_of (releasing_at (10 ^ 15))

abbrev pub released_last : Option Due
released_last = Some (ReleaseMade (codes "j") 1 (10 ^ 15))
