-- Wall times: tasks that are stopped and jobs that are terminated when their time is over.
use Rattle.std.specs.Prelude.{ℕ, List, [], ◌∷◌, map, codes, Option, Some, None, pos, Bool, true, false}
use Rattle.std.specs.Option.{option_map}
use Rattle.bt_rows.specs.declared.event.EventKind.TheVariants.{AddPool, AddJob, PatchJob, DisableJob, AddTask, Take, End, Tick}
use Rattle.bt_rows.specs.declared.event.DisableTasks.TheVariants.{Requeue}
use Rattle.bt_rows.specs.declared.event.JobPatch.{JobPatch}
use Rattle.bt_rows.specs.declared.event.JobSpec.{JobSpec}
use Rattle.bt_rows.specs.declared.event.TaskSpec.{TaskSpec}
use Rattle.bt_rows.specs.declared.reply.Reply.TheVariants.{Status}
use Rattle.bt_rows.specs.declared.due.ResizeEnd.TheVariants.{Reached}
use Rattle.bt_rows.specs.declared.due.Outcome.TheVariants.{Failure, Again}
use Rattle.bt_rows.specs.declared.due.JobEnd.TheVariants.{Kept}
use Rattle.bt_rows.specs.declared.due.Due.TheVariants.{PoolResized, NodeAdded, TaskSettled, TaskPlaced, TaskTimedOut, JobTimedOut, JobDisabled, JobEnded}
use Rattle.batch_model.specs.Variants.{JobState, JobActive, JobCompleted, Code, NoCode, RunState, Taken, Ended, Steady, Usable, Completed, TaskRow}
use Rattle.batch_model.specs.Variants.{How, ByTermination, ByWall, Closed, TaskRun}
use Rattle.model_scripts.specs.Scripts.{Call, at, Line, line, Sheet, state_after}
use Rattle.model_scripts.specs.Bodies.{pool_body, job_body, task_body}
use Rattle.job_scripts.specs.JobScripts.{one_node, two_nodes, no_patch}

-- a job and a task with such a wall time
abbrev pub job_within : ℕ → JobSpec
job_within duration = record (job_body (codes "p")) { wall = Some duration }

abbrev pub task_within : List ℕ → ℕ → TaskSpec
task_within name duration = record (task_body name) { wall = Some duration }

-- how the tasks were closed after calls
abbrev pub closings_after : List Call → List (Option How)
closings_after calls = map (λ (task : TaskRow). option_map (λ (closed : Closed). closed.how) task.closed) (state_after calls).tasks

-- a task that is stopped a minute after it was taken, not a millisecond before, and fails whatever its run's code
abbrev pub out_of_time : List Call
out_of_time =
    at 0 (AddPool (pool_body (codes "p") 1))
    ∷ at 0 (AddJob (codes "j") (job_body (codes "p")))
    ∷ at 0 (AddTask (codes "j") (task_within (codes "t") 60000))
    ∷ at 1000 (Take 1)
    ∷ at 60999 Tick
    ∷ at 61000 Tick
    ∷ at 61001 Tick
    ∷ at 62000 (End 1 (Code (pos 0)))
    ∷ []

abbrev pub out_of_time_lines : List Line
out_of_time_lines =
    one_node
    ∷ line (Status 201) []
    ∷ line (Status 201) (TaskPlaced (codes "j") (codes "t") 1 1 ∷ [])
    ∷ line (Status 200) []
    ∷ line (Status 200) []
    ∷ line (Status 200) (TaskTimedOut (codes "j") (codes "t") ∷ [])
    ∷ line (Status 200) []
    ∷ line (Status 200) (TaskSettled (codes "j") (codes "t") Failure ∷ [])
    ∷ []

abbrev pub out_of_time_rows : Sheet
out_of_time_rows = record {
  pools = (codes "p", false, Steady, 1, 0) ∷ [];
  nodes = (1, codes "p", 1, Usable) ∷ [];
  jobs = (codes "j", codes "p", JobActive, 0) ∷ [];
  tasks = (codes "j", codes "t", Completed, 1, 0, None, Some (ByWall, false, false, 62000)) ∷ [];
  runs = (1, TaskRun, 1, codes "p", (Some (codes "j"), Some (codes "t"), 1), Ended (Code (pos 0)), 0, Some 1000, Some 62000) ∷ [];
  moment = 62000;
}

-- the task is asked to stop
abbrev pub stopping : List Call
stopping =
    at 0 (AddPool (pool_body (codes "p") 1))
    ∷ at 0 (AddJob (codes "j") (job_body (codes "p")))
    ∷ at 0 (AddTask (codes "j") (task_within (codes "t") 60000))
    ∷ at 1000 (Take 1)
    ∷ at 61000 Tick
    ∷ []

abbrev pub stopping_runs : List (RunState × Bool)
stopping_runs = (Taken, true) ∷ []

-- a task whose wall time is 0 has none once it is taken, and not before
abbrev pub no_time : List Call
no_time =
    at 0 (AddPool (pool_body (codes "p") 1))
    ∷ at 0 (AddJob (codes "j") (job_body (codes "p")))
    ∷ at 0 (AddTask (codes "j") (task_within (codes "t") 0))
    ∷ at 1000 Tick
    ∷ at 2000 (Take 1)
    ∷ at 2000 (End 1 NoCode)
    ∷ []

abbrev pub no_time_lines : List Line
no_time_lines =
    one_node
    ∷ line (Status 201) []
    ∷ line (Status 201) (TaskPlaced (codes "j") (codes "t") 1 1 ∷ [])
    ∷ line (Status 200) []
    ∷ line (Status 200) (TaskTimedOut (codes "j") (codes "t") ∷ [])
    ∷ line (Status 200) (TaskSettled (codes "j") (codes "t") Failure ∷ [])
    ∷ []

-- a wanted requeue does not replace the end at the wall time
abbrev pub wall_before_requeue : List Call
wall_before_requeue =
    at 0 (AddPool (pool_body (codes "p") 1))
    ∷ at 0 (AddJob (codes "j") (job_body (codes "p")))
    ∷ at 0 (AddTask (codes "j") (task_within (codes "t") 1000))
    ∷ at 1 (Take 1)
    ∷ at 1001 Tick
    ∷ at 1002 (DisableJob (codes "j") Requeue)
    ∷ at 1003 (End 1 (Code (pos 0)))
    ∷ []

abbrev pub wall_before_requeue_lines : List Line
wall_before_requeue_lines =
    one_node
    ∷ line (Status 201) []
    ∷ line (Status 201) (TaskPlaced (codes "j") (codes "t") 1 1 ∷ [])
    ∷ line (Status 200) []
    ∷ line (Status 200) (TaskTimedOut (codes "j") (codes "t") ∷ [])
    ∷ line (Status 202) []
    ∷ line (Status 200) (TaskSettled (codes "j") (codes "t") Failure ∷ JobDisabled (codes "j") ∷ [])
    ∷ []

-- a task of which an end is wanted is not stopped again
abbrev pub wanted_before_wall : List Call
wanted_before_wall =
    at 0 (AddPool (pool_body (codes "p") 1))
    ∷ at 0 (AddJob (codes "j") (job_body (codes "p")))
    ∷ at 0 (AddTask (codes "j") (task_within (codes "t") 1000))
    ∷ at 1 (Take 1)
    ∷ at 2 (DisableJob (codes "j") Requeue)
    ∷ at 1001 Tick
    ∷ at 1003 (End 1 (Code (pos 0)))
    ∷ []

abbrev pub wanted_before_wall_lines : List Line
wanted_before_wall_lines =
    one_node
    ∷ line (Status 201) []
    ∷ line (Status 201) (TaskPlaced (codes "j") (codes "t") 1 1 ∷ [])
    ∷ line (Status 200) []
    ∷ line (Status 202) []
    ∷ line (Status 200) []
    ∷ line (Status 200) (TaskSettled (codes "j") (codes "t") (Again 0) ∷ JobDisabled (codes "j") ∷ [])
    ∷ []

-- a job that is terminated a minute after it was added
abbrev pub job_out_of_time : List Call
job_out_of_time =
    at 0 (AddPool (pool_body (codes "p") 1))
    ∷ at 5 (AddJob (codes "j") (job_within 60000))
    ∷ at 5 (AddTask (codes "j") (task_body (codes "t")))
    ∷ at 1000 (Take 1)
    ∷ at 60004 Tick
    ∷ at 60005 Tick
    ∷ at 62000 (End 1 (Code (pos 0)))
    ∷ at 70000 Tick
    ∷ []

abbrev pub job_out_of_time_lines : List Line
job_out_of_time_lines =
    one_node
    ∷ line (Status 201) []
    ∷ line (Status 201) (TaskPlaced (codes "j") (codes "t") 1 1 ∷ [])
    ∷ line (Status 200) []
    ∷ line (Status 200) []
    ∷ line (Status 200) (JobTimedOut (codes "j") ∷ [])
    ∷ line (Status 200) (TaskSettled (codes "j") (codes "t") Failure ∷ JobEnded (codes "j") Kept ∷ [])
    ∷ line (Status 200) []
    ∷ []

abbrev pub job_out_of_time_jobs : List (JobState × Option (List ℕ))
job_out_of_time_jobs = (JobCompleted, Some (codes "MaxWallClockTimeExpiry")) ∷ []

-- a task and its job whose time is over at one moment, and a task that was not taken
abbrev pub both_out_of_time : List Call
both_out_of_time =
    at 0 (AddPool (pool_body (codes "p") 2))
    ∷ at 0 (AddJob (codes "j") (job_within 60000))
    ∷ at 0 (AddTask (codes "j") (task_within (codes "a") 50000))
    ∷ at 0 (AddTask (codes "j") (task_body (codes "b")))
    ∷ at 0 (Take 1)
    ∷ at 60000 Tick
    ∷ at 60001 (End 1 NoCode)
    ∷ []

abbrev pub both_out_of_time_lines : List Line
both_out_of_time_lines =
    two_nodes
    ∷ line (Status 201) []
    ∷ line (Status 201) (TaskPlaced (codes "j") (codes "a") 1 1 ∷ [])
    ∷ line (Status 201) (TaskPlaced (codes "j") (codes "b") 2 2 ∷ [])
    ∷ line (Status 200) []
    ∷ line (Status 200)
    (TaskTimedOut (codes "j") (codes "a")
    ∷ JobTimedOut (codes "j")
    ∷ TaskSettled (codes "j") (codes "b") Failure
    ∷ [])
    ∷ line (Status 200) (TaskSettled (codes "j") (codes "a") Failure ∷ JobEnded (codes "j") Kept ∷ [])
    ∷ []

abbrev pub both_out_of_time_closings : List (Option How)
both_out_of_time_closings = Some ByWall ∷ Some ByTermination ∷ []

-- the limits of a job, of which only the wall time is given
abbrev pub wall_patch : Option ℕ → JobPatch
wall_patch duration = record no_patch { limits = Some (record { retries = pos 0; wall = duration }) }

-- a job whose wall time is taken away, and then given so that it is over
abbrev pub patched_wall : List Call
patched_wall =
    at 0 (AddPool (pool_body (codes "p") 1))
    ∷ at 0 (AddJob (codes "j") (job_within 60000))
    ∷ at 1 (PatchJob (codes "j") (wall_patch None))
    ∷ at 60000 Tick
    ∷ at 60001 (PatchJob (codes "j") (wall_patch (Some 100)))
    ∷ []

abbrev pub patched_wall_lines : List Line
patched_wall_lines =
    one_node
    ∷ line (Status 201) []
    ∷ line (Status 200) []
    ∷ line (Status 200) []
    ∷ line (Status 200) (JobTimedOut (codes "j") ∷ JobEnded (codes "j") Kept ∷ [])
    ∷ []

-- a task that runs when the tables are opened has its whole time again once it is taken
abbrev pub within_time : List Call
within_time =
    at 0 (AddPool (pool_body (codes "p") 1))
    ∷ at 0 (AddJob (codes "j") (job_body (codes "p")))
    ∷ at 0 (AddTask (codes "j") (task_within (codes "t") 60000))
    ∷ at 1000 (Take 1)
    ∷ []

abbrev pub whole_time : List Call
whole_time = at 61000 Tick ∷ at 70000 (Take 2) ∷ at 129999 Tick ∷ at 130000 Tick ∷ []

abbrev pub whole_time_lines : List Line
whole_time_lines =
    line (Status 200)
    (TaskSettled (codes "j") (codes "t") (Again 0)
    ∷ NodeAdded (codes "p") 2 1
    ∷ PoolResized (codes "p") Reached
    ∷ TaskPlaced (codes "j") (codes "t") 2 2
    ∷ [])
    ∷ line (Status 200) []
    ∷ line (Status 200) []
    ∷ line (Status 200) (TaskTimedOut (codes "j") (codes "t") ∷ [])
    ∷ []
