-- Tasks that are deleted, terminated and reactivated.
use Rattle.std.specs.Prelude.{ℕ, List, [], ◌∷◌, ◌++◌, map, replicate, Some, pos, codes}
use Rattle.bt_rows.specs.declared.event.EventKind.{EventKind}
use Rattle.bt_rows.specs.declared.event.EventKind.TheVariants.{AddPool, AddJob, AddTask, DeleteTask, TerminateTask, ReactivateTask, Take, End}
use Rattle.bt_rows.specs.declared.reply.Reply.{Reply}
use Rattle.bt_rows.specs.declared.reply.Reply.TheVariants.{Status, Refused, Elements}
use Rattle.bt_rows.specs.declared.reply.Element.TheVariants.{Added}
use Rattle.bt_rows.specs.declared.refusal.Refusal.TheVariants as refusal
use Rattle.bt_rows.specs.declared.due.Outcome.TheVariants.{Deleted, Success, Failure, Again}
use Rattle.batch_model.specs.Variants.{State, Terminating, JobCompleted, Deleting, Code, NoCode}
use Rattle.model_scripts.specs.Scripts.{Call, at, Line, line, state_after}
use Rattle.model_scripts.specs.Bodies.{pool_body, job_body, task_body}
use Rattle.model_scripts.specs.ByHand.{reply_to, placed_task, task_to_place, with_jobs_in, job_states}
use Rattle.job_scripts.specs.JobScripts.{one_node}
use Rattle.job_scripts.specs.RetryScripts.{settled, placed_by}
use Rattle.job_scripts.specs.DependencyScripts.{chained_job, after_task, settled_as}
use Rattle.model_scripts.specs.SlotScripts.{add_to_job, put_on}

-- the task t of the job j has ended with this code
abbrev pub ended_task : ℕ → State
ended_task code = state_after
    (at 0 (AddPool (pool_body (codes "p") 1))
    ∷ at 0 (AddJob (codes "j") (job_body (codes "p")))
    ∷ at 0 (AddTask (codes "j") (task_body (codes "t")))
    ∷ at 1 (Take 1)
    ∷ at 2 (End 1 (Code (pos code)))
    ∷ [])

-- what is done to it
abbrev pub deletion : EventKind
deletion = DeleteTask (codes "J") (codes "T")

abbrev pub termination : EventKind
termination = TerminateTask (codes "J") (codes "T")

abbrev pub reactivation : EventKind
reactivation = ReactivateTask (codes "J") (codes "T")

-- by the stage of the task: active, placed, completed with success and without
abbrev pub by_stage : EventKind → List Reply
by_stage event = map (λ s. reply_to s event) (task_to_place ∷ placed_task ∷ ended_task 0 ∷ ended_task 1 ∷ [])

abbrev pub deletions_by_stage : List Reply
deletions_by_stage = replicate 4 (Status 200)

abbrev pub terminations_by_stage : List Reply
terminations_by_stage = Status 204 ∷ Status 204 ∷ Refused refusal.TaskCompleted ∷ Refused refusal.TaskCompleted ∷ []

abbrev pub reactivations_by_stage : List Reply
reactivations_by_stage =
    Refused refusal.TaskNotReactivable
    ∷ Refused refusal.TaskNotReactivable
    ∷ Refused refusal.TaskNotReactivable
    ∷ Status 204
    ∷ []

-- by the state of the job of a task that failed
abbrev pub by_job_state : EventKind → List Reply
by_job_state event = map (λ one. reply_to (with_jobs_in one (ended_task 1)) event) job_states

abbrev pub deletions_by_job_state : List Reply
deletions_by_job_state = replicate 6 (Status 200) ++ Refused (refusal.JobStateRefuses Deleting) ∷ []

abbrev pub terminations_by_job_state : List Reply
terminations_by_job_state = replicate 7 (Refused refusal.TaskCompleted)

abbrev pub reactivations_by_job_state : List Reply
reactivations_by_job_state =
    replicate 4 (Status 204)
    ++ Refused (refusal.JobStateRefuses Terminating)
    ∷ Refused (refusal.JobStateRefuses JobCompleted)
    ∷ Refused (refusal.JobStateRefuses Deleting)
    ∷ []

-- of jobs and tasks that are not there; the state of the job is looked at before the task
abbrev pub replies_without_rows : List Reply
replies_without_rows =
    map (reply_to placed_task)
    (DeleteTask (codes "k") (codes "t")
    ∷ TerminateTask (codes "k") (codes "t")
    ∷ ReactivateTask (codes "k") (codes "t")
    ∷ DeleteTask (codes "j") (codes "u")
    ∷ TerminateTask (codes "j") (codes "u")
    ∷ ReactivateTask (codes "j") (codes "u")
    ∷ [])
    ++ reply_to (with_jobs_in Deleting placed_task) (DeleteTask (codes "j") (codes "u"))
    ∷ []

abbrev pub all_without_rows : List Reply
all_without_rows =
    replicate 3 (Refused refusal.JobNotFound)
    ++ (replicate 3 (Refused refusal.TaskNotFound) ++ Refused (refusal.JobStateRefuses Deleting) ∷ [])

-- a task that runs is deleted once its run has ended, also after it was terminated
abbrev pub deleted_running : List Call
deleted_running =
    at 0 (AddPool (pool_body (codes "p") 1))
    ∷ at 0 (AddJob (codes "j") (job_body (codes "p")))
    ∷ at 0 (AddTask (codes "j") (task_body (codes "t")))
    ∷ at 1 (Take 1)
    ∷ at 2 (TerminateTask (codes "j") (codes "t"))
    ∷ at 3 (DeleteTask (codes "j") (codes "t"))
    ∷ at 3 (TerminateTask (codes "j") (codes "t"))
    ∷ at 4 (End 1 NoCode)
    ∷ at 5 (End 1 NoCode)
    ∷ []

abbrev pub deleted_running_lines : List Line
deleted_running_lines =
    one_node
    ∷ line (Status 201) []
    ∷ line (Status 201) (placed_by 1 ∷ [])
    ∷ line (Status 200) []
    ∷ line (Status 204) []
    ∷ line (Status 200) []
    ∷ line (Status 204) []
    ∷ line (Status 200) (settled Deleted ∷ [])
    ∷ line (Refused refusal.RunNotFound) []
    ∷ []

-- a completed task is deleted at once, and its id is free again
abbrev pub deleted_completed : List Call
deleted_completed =
    at 0 (AddPool (pool_body (codes "p") 1))
    ∷ at 0 (AddJob (codes "j") (job_body (codes "p")))
    ∷ at 0 (AddTask (codes "j") (task_body (codes "t")))
    ∷ at 1 (Take 1)
    ∷ at 2 (End 1 (Code (pos 0)))
    ∷ at 3 (DeleteTask (codes "j") (codes "t"))
    ∷ at 4 (Take 1)
    ∷ at 5 (AddTask (codes "j") (task_body (codes "t")))
    ∷ []

abbrev pub deleted_completed_lines : List Line
deleted_completed_lines =
    one_node
    ∷ line (Status 201) []
    ∷ line (Status 201) (placed_by 1 ∷ [])
    ∷ line (Status 200) []
    ∷ line (Status 200) (settled Success ∷ [])
    ∷ line (Status 200) []
    ∷ line (Refused refusal.RunNotFound) []
    ∷ line (Status 201) (placed_by 2 ∷ [])
    ∷ []

-- a queued run is withdrawn and an active task is completed at once; both block the task that depends on them
abbrev pub terminated_tasks : List Call
terminated_tasks =
    at 0 (AddPool (pool_body (codes "p") 1))
    ∷ at 0 (AddJob (codes "j") chained_job)
    ∷ at 0 (add_to_job (task_body (codes "a") ∷ task_body (codes "b") ∷ after_task (codes "c") (codes "a") ∷ []))
    ∷ at 1 (TerminateTask (codes "j") (codes "b"))
    ∷ at 2 (TerminateTask (codes "j") (codes "a"))
    ∷ at 3 (TerminateTask (codes "j") (codes "b"))
    ∷ []

abbrev pub terminated_tasks_lines : List Line
terminated_tasks_lines =
    one_node
    ∷ line (Status 201) []
    ∷ line (Elements (Added (codes "a") ∷ Added (codes "b") ∷ Added (codes "c") ∷ [])) (put_on (codes "a") 1 1 ∷ [])
    ∷ line (Status 204) []
    ∷ line (Status 204) (settled_as (codes "a") Failure ∷ [])
    ∷ line (Refused refusal.TaskCompleted) []
    ∷ []

-- a reactivated task begins its failures anew
abbrev pub reactivated : List Call
reactivated =
    at 0 (AddPool (pool_body (codes "p") 1))
    ∷ at 0 (AddJob (codes "j") (job_body (codes "p")))
    ∷ at 0 (AddTask (codes "j") (record (task_body (codes "t")) { retries = Some (pos 1) }))
    ∷ at 1 (Take 1)
    ∷ at 1 (End 1 (Code (pos 1)))
    ∷ at 2 (Take 2)
    ∷ at 2 (End 2 (Code (pos 1)))
    ∷ at 3 (ReactivateTask (codes "j") (codes "t"))
    ∷ at 4 (Take 3)
    ∷ at 4 (End 3 (Code (pos 1)))
    ∷ at 5 (Take 4)
    ∷ at 5 (End 4 (Code (pos 0)))
    ∷ []

abbrev pub reactivated_lines : List Line
reactivated_lines =
    one_node
    ∷ line (Status 201) []
    ∷ line (Status 201) (placed_by 1 ∷ [])
    ∷ line (Status 200) []
    ∷ line (Status 200) (settled (Again 1) ∷ placed_by 2 ∷ [])
    ∷ line (Status 200) []
    ∷ line (Status 200) (settled Failure ∷ [])
    ∷ line (Status 204) (placed_by 3 ∷ [])
    ∷ line (Status 200) []
    ∷ line (Status 200) (settled (Again 1) ∷ placed_by 4 ∷ [])
    ∷ line (Status 200) []
    ∷ line (Status 200) (settled Success ∷ [])
    ∷ []

abbrev pub reactivated_attempts : List (ℕ × ℕ)
reactivated_attempts = (4, 1) ∷ []
