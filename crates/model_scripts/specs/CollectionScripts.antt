-- Collections of tasks that are added at once.
use Rattle.std.specs.Prelude.{ℕ, List, [], ◌∷◌, ◌++◌, map, replicate, Some, None, codes, true, false}
use Rattle.bt_rows.specs.declared.event.EventKind.TheVariants.{AddPool, AddJob, AddTask, AddTasks}
use Rattle.bt_rows.specs.declared.event.TaskSpec.{TaskSpec}
use Rattle.bt_rows.specs.declared.reply.Element.TheVariants.{Added, NotAdded}
use Rattle.bt_rows.specs.declared.reply.Reply.{Reply}
use Rattle.bt_rows.specs.declared.reply.Reply.TheVariants.{Status, Refused, Elements}
use Rattle.bt_rows.specs.declared.refusal.Refusal.TheVariants as refusal
use Rattle.bt_rows.specs.declared.due.ResizeEnd.TheVariants.{Reached}
use Rattle.bt_rows.specs.declared.due.Due.TheVariants.{PoolResized, NodeAdded, TaskPlaced}
use Rattle.batch_model.specs.Variants.{State, Steady, Usable, JobActive, Terminating, JobCompleted, Deleting, JobRow, Active, Placed, TaskRun, Queued}
use Rattle.batch_model.specs.Events.{event_step}
use Rattle.model_scripts.specs.Scripts.{Call, at, Line, line, Sheet, state_after}
use Rattle.model_scripts.specs.ByHand.{reply_to, with_jobs_in, job_states, moved_to}
use Rattle.model_scripts.specs.Bodies.{pool_body, job_body, task_body}

-- the second of three tasks is there already, and the fourth is the first one in other case
abbrev pub second_refused : List Call
second_refused =
    at 0 (AddPool (pool_body (codes "p") 1))
    ∷ at 0 (AddJob (codes "j") (job_body (codes "p")))
    ∷ at 0 (AddTask (codes "j") (task_body (codes "t")))
    ∷ at 1 (AddTasks (codes "J") (task_body (codes "s") ∷ task_body (codes "T") ∷ task_body (codes "u") ∷ task_body (codes "S") ∷ []))
    ∷ []

abbrev pub second_refused_lines : List Line
second_refused_lines =
    line (Status 201) (NodeAdded (codes "p") 1 1 ∷ PoolResized (codes "p") Reached ∷ [])
    ∷ line (Status 201) []
    ∷ line (Status 201) (TaskPlaced (codes "j") (codes "t") 1 1 ∷ [])
    ∷ line
    (Elements
    (Added (codes "s")
    ∷ NotAdded (codes "T") refusal.TaskExists
    ∷ Added (codes "u")
    ∷ NotAdded (codes "S") refusal.TaskExists
    ∷ [])) []
    ∷ []

abbrev pub second_refused_rows : Sheet
second_refused_rows = record {
  pools = (codes "p", false, Steady, 1, 0) ∷ [];
  nodes = (1, codes "p", 1, Usable) ∷ [];
  jobs = (codes "j", codes "p", JobActive, 0) ∷ [];
  tasks =
      (codes "j", codes "t", Placed, 1, 0, None, None)
      ∷ (codes "j", codes "s", Active, 0, 0, None, None)
      ∷ (codes "j", codes "u", Active, 0, 0, None, None)
      ∷ [];
  runs = (1, TaskRun, 1, codes "p", (Some (codes "j"), Some (codes "t"), 1), Queued, 0, None, None) ∷ [];
  moment = 1;
}

-- a job in a pool without nodes
abbrev pub job_alone : State
job_alone = state_after (at 0 (AddPool (pool_body (codes "p") 0)) ∷ at 0 (AddJob (codes "j") (job_body (codes "p"))) ∷ [])

-- so many tasks of one id
abbrev pub tasks_of_one_id : ℕ → List TaskSpec
tasks_of_one_id count = replicate count (task_body (codes "t"))

abbrev pub reply_to_as_many : ℕ → Reply
reply_to_as_many count = reply_to job_alone (AddTasks (codes "j") (tasks_of_one_id count))

-- the first is added, and each other one is there already
abbrev pub one_of_so_many : ℕ → Reply
one_of_so_many others = Elements (Added (codes "t") ∷ replicate others (NotAdded (codes "t") refusal.TaskExists))

abbrev pub is_too_long : Reply
is_too_long = Refused refusal.CollectionTooLong

-- no elements
abbrev pub nothing_added : Reply
nothing_added = Elements []

-- the job is looked for first, then its state, and then how many there are
abbrev pub reply_in_missing_job : Reply
reply_in_missing_job = reply_to job_alone (AddTasks (codes "k") (tasks_of_one_id 101))

abbrev pub is_missing_job : Reply
is_missing_job = Refused refusal.JobNotFound

abbrev pub reply_in_past_job : Reply
reply_in_past_job = reply_to (with_jobs_in Terminating job_alone) (AddTasks (codes "j") (tasks_of_one_id 101))

abbrev pub is_past_job : Reply
is_past_job = Refused (refusal.JobStateRefuses Terminating)

-- one task, in a job of each state
abbrev pub replies_by_job_state : List Reply
replies_by_job_state = map (λ one. reply_to (with_jobs_in one job_alone) (AddTasks (codes "j") (tasks_of_one_id 1))) job_states

abbrev pub all_by_job_state : List Reply
all_by_job_state =
    replicate 4 (Elements (Added (codes "t") ∷ []))
    ++ Refused (refusal.JobStateRefuses Terminating)
    ∷ Refused (refusal.JobStateRefuses JobCompleted)
    ∷ Refused (refusal.JobStateRefuses Deleting)
    ∷ []

-- a refused collection
abbrev pub after_too_long : State
after_too_long = (event_step 7 (AddTasks (codes "j") (tasks_of_one_id 101)) job_alone).state

abbrev pub job_alone_later : State
job_alone_later = moved_to 7 job_alone

-- the same job, if its tasks may depend on each other
abbrev pub chaining_job : State
chaining_job = record job_alone { jobs = map (λ (job : JobRow). record job { deps = true }) job_alone.jobs }

-- a task that depends on so many ids of 64 characters
abbrev pub needing_task : List ℕ → ℕ → TaskSpec
needing_task name count = record (task_body name) { needs = replicate count (replicate 64 97) }

abbrev pub reply_to_long_needs : Reply
reply_to_long_needs =
    reply_to chaining_job
    (AddTasks (codes "j") (needing_task (codes "a") 1001 ∷ needing_task (codes "b") 1000 ∷ needing_task (codes "b") 1001 ∷ []))

abbrev pub all_long_needs : Reply
all_long_needs =
    Elements
    (NotAdded (codes "a") refusal.DependencyListTooLong
    ∷ Added (codes "b")
    ∷ NotAdded (codes "b") refusal.TaskExists
    ∷ [])
