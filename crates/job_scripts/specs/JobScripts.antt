-- States of jobs: jobs that are changed, disabled, enabled, terminated and deleted, and the order in which they place tasks.
use Rattle.std.specs.Prelude.{ℕ, List, [], ◌∷◌, map, codes, Option, Some, None, pos, negsuc, true, false, Bool}
use Rattle.bt_rows.specs.declared.event.EventKind.TheVariants.{AddPool, AddJob, PatchJob, DisableJob, EnableJob, TerminateJob, DeleteJob, AddTask, Take, End, Tick}
use Rattle.bt_rows.specs.declared.event.DisableTasks.TheVariants.{Requeue, Terminate, Wait}
use Rattle.bt_rows.specs.declared.event.JobPatch.{JobPatch}
use Rattle.bt_rows.specs.declared.reply.Reply.TheVariants.{Status, Refused}
use Rattle.bt_rows.specs.declared.refusal.Refusal.TheVariants.{JobNotFound, JobStateRefuses, RunNotFound, RunWithdrawn, TerminationEngaged}
use Rattle.bt_rows.specs.declared.due.ResizeEnd.TheVariants.{Reached}
use Rattle.bt_rows.specs.declared.due.Outcome.TheVariants.{Success, Failure, Again}
use Rattle.bt_rows.specs.declared.due.JobEnd.TheVariants.{Kept, Removed}
use Rattle.bt_rows.specs.declared.due.Due.TheVariants.{PoolResized, NodeAdded, TaskSettled, TaskPlaced, JobEnabled, TasksDone, JobDisabled, JobEnded}
use Rattle.batch_model.specs.Variants.{JobRow, JobState, JobActive, Terminating, JobCompleted, Deleting, Code, NoCode, RunState, RunRow, Withdrawn, Taken}
use Rattle.batch_model.specs.Variants.{Steady, Usable, TaskStage, TaskRow, Active, Completed}
use Rattle.model_scripts.specs.Scripts.{Call, at, Line, line, Sheet, state_after}
use Rattle.model_scripts.specs.Bodies.{pool_body, job_body, task_body}

-- the line of a pool that gets one node, and of one that gets two
abbrev pub one_node : Line
one_node = line (Status 201) (NodeAdded (codes "p") 1 1 ∷ PoolResized (codes "p") Reached ∷ [])

abbrev pub two_nodes : Line
two_nodes = line (Status 201) (NodeAdded (codes "p") 1 1 ∷ NodeAdded (codes "p") 2 2 ∷ PoolResized (codes "p") Reached ∷ [])

-- the states and reasons of jobs after calls
abbrev pub jobs_after : List Call → List (JobState × Option (List ℕ))
jobs_after calls = map (λ (job : JobRow). (job.state, job.reason)) (state_after calls).jobs

-- the states of runs after calls, and whether they are asked to stop
abbrev pub runs_after : List Call → List (RunState × Bool)
runs_after calls = map (λ (run : RunRow). (run.state, run.asked)) (state_after calls).runs

-- the stages of tasks after calls
abbrev pub stages_after : List Call → List TaskStage
stages_after calls = map (λ (task : TaskRow). task.stage) (state_after calls).tasks

-- a job that is disabled once its task has ended, and enabled twice
abbrev pub waiting : List Call
waiting =
    at 0 (AddPool (pool_body (codes "p") 1))
    ∷ at 0 (AddJob (codes "j") (job_body (codes "p")))
    ∷ at 1 (AddTask (codes "j") (task_body (codes "t")))
    ∷ at 2 (Take 1)
    ∷ at 6 (DisableJob (codes "j") Wait)
    ∷ at 9 (End 1 (Code (pos 0)))
    ∷ at 10 (EnableJob (codes "j"))
    ∷ at 10 (EnableJob (codes "j"))
    ∷ []

abbrev pub waiting_lines : List Line
waiting_lines =
    one_node
    ∷ line (Status 201) []
    ∷ line (Status 201) (TaskPlaced (codes "j") (codes "t") 1 1 ∷ [])
    ∷ line (Status 200) []
    ∷ line (Status 202) []
    ∷ line (Status 200) (TaskSettled (codes "j") (codes "t") Success ∷ JobDisabled (codes "j") ∷ [])
    ∷ line (Status 202) (JobEnabled (codes "j") ∷ [])
    ∷ line (Refused (JobStateRefuses JobActive)) []
    ∷ []

-- a disabled job places no task, and another does
abbrev pub disabled_beside : List Call
disabled_beside =
    at 0 (AddPool (pool_body (codes "p") 1))
    ∷ at 0 (AddJob (codes "j") (job_body (codes "p")))
    ∷ at 0 (AddJob (codes "a") (record (job_body (codes "p")) { priority = pos 1; parallel = pos 1 }))
    ∷ at 0 (DisableJob (codes "j") Requeue)
    ∷ at 0 (AddTask (codes "j") (task_body (codes "t")))
    ∷ at 0 (AddTask (codes "a") (task_body (codes "t")))
    ∷ at 0 (EnableJob (codes "j"))
    ∷ at 0 (EnableJob (codes "j"))
    ∷ []

abbrev pub disabled_beside_lines : List Line
disabled_beside_lines =
    one_node
    ∷ line (Status 201) []
    ∷ line (Status 201) []
    ∷ line (Status 202) (JobDisabled (codes "j") ∷ [])
    ∷ line (Status 201) []
    ∷ line (Status 201) (TaskPlaced (codes "a") (codes "t") 1 1 ∷ [])
    ∷ line (Status 202) (JobEnabled (codes "j") ∷ [])
    ∷ line (Refused (JobStateRefuses JobActive)) []
    ∷ []

-- of two placed tasks whose requeue is wanted one was taken, and is active again once it has ended
abbrev pub disabling : List Call
disabling =
    at 0 (AddPool (pool_body (codes "p") 2))
    ∷ at 0 (AddJob (codes "j") (job_body (codes "p")))
    ∷ at 1 (AddTask (codes "j") (task_body (codes "a")))
    ∷ at 1 (AddTask (codes "j") (task_body (codes "b")))
    ∷ at 2 (Take 1)
    ∷ at 3 (DisableJob (codes "j") Requeue)
    ∷ []

abbrev pub requeuing : List Call
requeuing =
    at 0 (AddPool (pool_body (codes "p") 2))
    ∷ at 0 (AddJob (codes "j") (job_body (codes "p")))
    ∷ at 1 (AddTask (codes "j") (task_body (codes "a")))
    ∷ at 1 (AddTask (codes "j") (task_body (codes "b")))
    ∷ at 2 (Take 1)
    ∷ at 3 (DisableJob (codes "j") Requeue)
    ∷ at 4 (Take 2)
    ∷ at 5 (End 1 NoCode)
    ∷ at 6 (EnableJob (codes "j"))
    ∷ []

abbrev pub requeuing_lines : List Line
requeuing_lines =
    two_nodes
    ∷ line (Status 201) []
    ∷ line (Status 201) (TaskPlaced (codes "j") (codes "a") 1 1 ∷ [])
    ∷ line (Status 201) (TaskPlaced (codes "j") (codes "b") 2 2 ∷ [])
    ∷ line (Status 200) []
    ∷ line (Status 202) (TaskSettled (codes "j") (codes "b") (Again 0) ∷ [])
    ∷ line (Refused RunWithdrawn) []
    ∷ line (Status 200) (TaskSettled (codes "j") (codes "a") (Again 0) ∷ JobDisabled (codes "j") ∷ [])
    ∷ line (Status 202) (JobEnabled (codes "j") ∷ TaskPlaced (codes "j") (codes "a") 1 3 ∷ TaskPlaced (codes "j") (codes "b") 2 4 ∷ [])
    ∷ []

abbrev pub disabling_runs : List (RunState × Bool)
disabling_runs = (Taken, true) ∷ (Withdrawn, false) ∷ []

-- a wanted termination replaces a wanted requeue, and not the other way round
abbrev pub two_wants : List Call
two_wants =
    at 0 (AddPool (pool_body (codes "p") 1))
    ∷ at 0 (AddJob (codes "j") (job_body (codes "p")))
    ∷ at 0 (AddTask (codes "j") (task_body (codes "t")))
    ∷ at 1 (Take 1)
    ∷ at 2 (DisableJob (codes "j") Requeue)
    ∷ at 3 (DisableJob (codes "j") Terminate)
    ∷ at 4 (DisableJob (codes "j") Requeue)
    ∷ at 5 (End 1 (Code (pos 0)))
    ∷ []

abbrev pub two_wants_lines : List Line
two_wants_lines =
    one_node
    ∷ line (Status 201) []
    ∷ line (Status 201) (TaskPlaced (codes "j") (codes "t") 1 1 ∷ [])
    ∷ line (Status 200) []
    ∷ line (Status 202) []
    ∷ line (Status 202) []
    ∷ line (Status 202) []
    ∷ line (Status 200) (TaskSettled (codes "j") (codes "t") Failure ∷ JobDisabled (codes "j") ∷ [])
    ∷ []

-- a job that is terminated while a task runs and another waits for a node
abbrev pub terminating : List Call
terminating =
    at 0 (AddPool (pool_body (codes "p") 1))
    ∷ at 0 (AddJob (codes "j") (job_body (codes "p")))
    ∷ at 0 (AddTask (codes "j") (task_body (codes "t")))
    ∷ at 0 (AddTask (codes "j") (task_body (codes "u")))
    ∷ at 1 (Take 1)
    ∷ at 2 (TerminateJob (codes "j") (Some (codes "stop it")))
    ∷ at 2 (TerminateJob (codes "j") None)
    ∷ at 2 (DisableJob (codes "j") Wait)
    ∷ at 2 (EnableJob (codes "j"))
    ∷ at 2 (AddTask (codes "j") (task_body (codes "v")))
    ∷ at 3 (End 1 (Code (pos 0)))
    ∷ []

abbrev pub terminating_lines : List Line
terminating_lines =
    one_node
    ∷ line (Status 201) []
    ∷ line (Status 201) (TaskPlaced (codes "j") (codes "t") 1 1 ∷ [])
    ∷ line (Status 201) []
    ∷ line (Status 200) []
    ∷ line (Status 202) []
    ∷ line (Refused (JobStateRefuses Terminating)) []
    ∷ line (Refused (JobStateRefuses Terminating)) []
    ∷ line (Refused (JobStateRefuses Terminating)) []
    ∷ line (Refused (JobStateRefuses Terminating)) []
    ∷ line (Status 200) (TaskSettled (codes "j") (codes "t") Failure ∷ JobEnded (codes "j") Kept ∷ [])
    ∷ []

abbrev pub terminating_jobs : List (JobState × Option (List ℕ))
terminating_jobs = (JobCompleted, Some (codes "stop it")) ∷ []

abbrev pub terminating_stages : List TaskStage
terminating_stages = Completed ∷ Active ∷ []

-- a job that is deleted goes with its tasks and runs, and another stays
abbrev pub deleting : List Call
deleting =
    at 0 (AddPool (pool_body (codes "p") 1))
    ∷ at 0 (AddJob (codes "j") (job_body (codes "p")))
    ∷ at 0 (AddJob (codes "k") (job_body (codes "p")))
    ∷ at 0 (AddTask (codes "j") (task_body (codes "t")))
    ∷ at 0 (AddTask (codes "k") (task_body (codes "t")))
    ∷ at 1 (DeleteJob (codes "J"))
    ∷ at 2 (DeleteJob (codes "j"))
    ∷ []

abbrev pub deleting_lines : List Line
deleting_lines =
    one_node
    ∷ line (Status 201) []
    ∷ line (Status 201) []
    ∷ line (Status 201) (TaskPlaced (codes "j") (codes "t") 1 1 ∷ [])
    ∷ line (Status 201) []
    ∷ line (Status 202)
    (TaskSettled (codes "j") (codes "t") Failure
    ∷ JobEnded (codes "j") Removed
    ∷ TaskPlaced (codes "k") (codes "t") 1 2
    ∷ [])
    ∷ line (Refused JobNotFound) []
    ∷ []

-- a job that is deleted while it is terminating: the reason is replaced, and its rows go once its task has ended
abbrev pub deleting_late : List Call
deleting_late =
    at 0 (AddPool (pool_body (codes "p") 1))
    ∷ at 0 (AddJob (codes "j") (job_body (codes "p")))
    ∷ at 0 (AddTask (codes "j") (task_body (codes "t")))
    ∷ at 0 (AddTask (codes "j") (task_body (codes "u")))
    ∷ at 1 (Take 1)
    ∷ at 2 (TerminateJob (codes "j") (Some (codes "stop it")))
    ∷ at 3 (DeleteJob (codes "j"))
    ∷ []

abbrev pub deleting_late_jobs : List (JobState × Option (List ℕ))
deleting_late_jobs = (Deleting, Some (codes "UserTerminate")) ∷ []

abbrev pub deleted_late : List Call
deleted_late =
    at 0 (AddPool (pool_body (codes "p") 1))
    ∷ at 0 (AddJob (codes "j") (job_body (codes "p")))
    ∷ at 0 (AddTask (codes "j") (task_body (codes "t")))
    ∷ at 0 (AddTask (codes "j") (task_body (codes "u")))
    ∷ at 1 (Take 1)
    ∷ at 2 (TerminateJob (codes "j") (Some (codes "stop it")))
    ∷ at 3 (DeleteJob (codes "j"))
    ∷ at 3 (DeleteJob (codes "j"))
    ∷ at 4 (End 1 NoCode)
    ∷ at 5 (End 1 NoCode)
    ∷ []

abbrev pub deleted_late_lines : List Line
deleted_late_lines =
    one_node
    ∷ line (Status 201) []
    ∷ line (Status 201) (TaskPlaced (codes "j") (codes "t") 1 1 ∷ [])
    ∷ line (Status 201) []
    ∷ line (Status 200) []
    ∷ line (Status 202) []
    ∷ line (Status 202) []
    ∷ line (Refused (JobStateRefuses Deleting)) []
    ∷ line (Status 200) (TaskSettled (codes "j") (codes "t") Failure ∷ JobEnded (codes "j") Removed ∷ [])
    ∷ line (Refused RunNotFound) []
    ∷ []

abbrev pub deleted_late_rows : Sheet
deleted_late_rows = record {
  pools = (codes "p", false, Steady, 1, 0) ∷ [];
  nodes = (1, codes "p", 1, Usable) ∷ [];
  jobs = [];
  tasks = [];
  runs = [];
  moment = 5;
}

-- a completed job is deleted at once
abbrev pub deleting_completed : List Call
deleting_completed =
    at 0 (AddPool (pool_body (codes "p") 1))
    ∷ at 0 (AddJob (codes "j") (record (job_body (codes "p")) { on_all = true }))
    ∷ at 1 (DeleteJob (codes "j"))
    ∷ []

abbrev pub deleting_completed_lines : List Line
deleting_completed_lines =
    one_node
    ∷ line (Status 201) (TasksDone (codes "j") ∷ JobEnded (codes "j") Kept ∷ [])
    ∷ line (Status 202) (JobEnded (codes "j") Removed ∷ [])
    ∷ []

-- a job that waits for its task when the tables are opened: the task is requeued, and the job disabled
abbrev pub waiting_for_task : List Call
waiting_for_task =
    at 0 (AddPool (pool_body (codes "p") 1))
    ∷ at 0 (AddJob (codes "j") (job_body (codes "p")))
    ∷ at 1 (AddTask (codes "j") (task_body (codes "t")))
    ∷ at 2 (Take 1)
    ∷ at 3 (DisableJob (codes "j") Wait)
    ∷ []

abbrev pub first_ticks : List Call
first_ticks = at 4 Tick ∷ at 5 (EnableJob (codes "j")) ∷ []

abbrev pub opened_waiting_lines : List Line
opened_waiting_lines =
    line (Status 200)
    (TaskSettled (codes "j") (codes "t") (Again 0)
    ∷ JobDisabled (codes "j")
    ∷ NodeAdded (codes "p") 2 1
    ∷ PoolResized (codes "p") Reached
    ∷ [])
    ∷ line (Status 202) (JobEnabled (codes "j") ∷ TaskPlaced (codes "j") (codes "t") 2 2 ∷ [])
    ∷ []

-- what a patch gives, and nothing else
abbrev pub no_patch : JobPatch
no_patch = record { priority = None; parallel = None; limits = None; on_all = None }

-- a job without tasks that is terminated with its tasks
abbrev pub nothing_to_do : List Call
nothing_to_do =
    at 0 (AddPool (pool_body (codes "p") 1))
    ∷ at 0 (AddJob (codes "j") (record (job_body (codes "p")) { on_all = true }))
    ∷ at 1 (PatchJob (codes "j") no_patch)
    ∷ []

abbrev pub nothing_to_do_lines : List Line
nothing_to_do_lines =
    one_node
    ∷ line (Status 201) (TasksDone (codes "j") ∷ JobEnded (codes "j") Kept ∷ [])
    ∷ line (Refused (JobStateRefuses JobCompleted)) []
    ∷ []

abbrev pub nothing_to_do_jobs : List (JobState × Option (List ℕ))
nothing_to_do_jobs = (JobCompleted, Some (codes "AllTasksComplete")) ∷ []

-- a job is told to be terminated with its tasks, which is not taken back
abbrev pub patching : List Call
patching =
    at 0 (AddPool (pool_body (codes "p") 1))
    ∷ at 0 (AddJob (codes "j") (job_body (codes "p")))
    ∷ at 0 (AddTask (codes "j") (task_body (codes "t")))
    ∷ at 0 (PatchJob (codes "j") (record no_patch { on_all = Some true }))
    ∷ at 0 (PatchJob (codes "j") (record no_patch { on_all = Some false }))
    ∷ at 1 (Take 1)
    ∷ at 2 (End 1 (Code (pos 0)))
    ∷ []

abbrev pub patching_lines : List Line
patching_lines =
    one_node
    ∷ line (Status 201) []
    ∷ line (Status 201) (TaskPlaced (codes "j") (codes "t") 1 1 ∷ [])
    ∷ line (Status 200) []
    ∷ line (Refused TerminationEngaged) []
    ∷ line (Status 200) []
    ∷ line (Status 200) (TaskSettled (codes "j") (codes "t") Success ∷ TasksDone (codes "j") ∷ JobEnded (codes "j") Kept ∷ [])
    ∷ []

-- jobs of a lower and of higher priorities, the first of which places one task at a time
abbrev pub priorities : List Call
priorities =
    at 0 (AddPool (pool_body (codes "p") 2))
    ∷ at 0 (AddJob (codes "f") (job_body (codes "p")))
    ∷ at 0 (AddTask (codes "f") (task_body (codes "a")))
    ∷ at 0 (AddTask (codes "f") (task_body (codes "b")))
    ∷ at 0 (AddJob (codes "low") (record (job_body (codes "p")) { priority = negsuc 0 }))
    ∷ at 0 (AddJob (codes "h") (record (job_body (codes "p")) { priority = pos 5; parallel = pos 1 }))
    ∷ at 0 (AddJob (codes "k") (record (job_body (codes "p")) { priority = pos 5 }))
    ∷ at 0 (AddTask (codes "low") (task_body (codes "t")))
    ∷ at 0 (AddTask (codes "h") (task_body (codes "a")))
    ∷ at 0 (AddTask (codes "h") (task_body (codes "b")))
    ∷ at 0 (AddTask (codes "k") (task_body (codes "t")))
    ∷ at 1 (Take 1)
    ∷ at 1 (End 1 (Code (pos 0)))
    ∷ at 1 (Take 2)
    ∷ at 1 (End 2 (Code (pos 0)))
    ∷ at 2 (Take 3)
    ∷ at 2 (End 3 (Code (pos 0)))
    ∷ at 2 (Take 4)
    ∷ at 2 (End 4 (Code (pos 0)))
    ∷ []

abbrev pub priorities_lines : List Line
priorities_lines =
    two_nodes
    ∷ line (Status 201) []
    ∷ line (Status 201) (TaskPlaced (codes "f") (codes "a") 1 1 ∷ [])
    ∷ line (Status 201) (TaskPlaced (codes "f") (codes "b") 2 2 ∷ [])
    ∷ line (Status 201) []
    ∷ line (Status 201) []
    ∷ line (Status 201) []
    ∷ line (Status 201) []
    ∷ line (Status 201) []
    ∷ line (Status 201) []
    ∷ line (Status 201) []
    ∷ line (Status 200) []
    ∷ line (Status 200) (TaskSettled (codes "f") (codes "a") Success ∷ TaskPlaced (codes "h") (codes "a") 1 3 ∷ [])
    ∷ line (Status 200) []
    ∷ line (Status 200) (TaskSettled (codes "f") (codes "b") Success ∷ TaskPlaced (codes "k") (codes "t") 2 4 ∷ [])
    ∷ line (Status 200) []
    ∷ line (Status 200) (TaskSettled (codes "h") (codes "a") Success ∷ TaskPlaced (codes "h") (codes "b") 1 5 ∷ [])
    ∷ line (Status 200) []
    ∷ line (Status 200) (TaskSettled (codes "k") (codes "t") Success ∷ TaskPlaced (codes "low") (codes "t") 2 6 ∷ [])
    ∷ []
