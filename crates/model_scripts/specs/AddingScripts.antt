-- Jobs and tasks are added, and what refuses them.
use Rattle.std.specs.Prelude.{List, [], ◌∷◌, Some, None, pos, codes, true, false}
use Rattle.bt_rows.specs.declared.event.EventKind.TheVariants.{AddPool, AddJob, AddTask, Take, End}
use Rattle.bt_rows.specs.declared.reply.Reply.TheVariants.{Status, Refused}
use Rattle.bt_rows.specs.declared.refusal.Refusal.TheVariants as refusal
use Rattle.bt_rows.specs.declared.due.Outcome.TheVariants.{Success}
use Rattle.bt_rows.specs.declared.due.ResizeEnd.TheVariants.{Reached}
use Rattle.bt_rows.specs.declared.due.Due.TheVariants.{TaskSettled, PoolResized, NodeAdded, TaskPlaced}
use Rattle.batch_model.specs.Variants.{Steady, Usable, JobActive, Active, Completed, ByEnding, Code, TaskRun, Ended}
use Rattle.model_scripts.specs.Scripts.{Call, at, Line, line, Sheet}
use Rattle.model_scripts.specs.Bodies.{pool_body, job_body, task_body}

-- a job in a missing pool, and one that is there; a job that is there is refused before its pool is looked for
abbrev pub refused_jobs : List Call
refused_jobs =
    at 0 (AddJob (codes "j") (job_body (codes "p")))
    ∷ at 0 (AddPool (pool_body (codes "p") 0))
    ∷ at 1 (AddJob (codes "j") (job_body (codes "p")))
    ∷ at 2 (AddJob (codes "J") (job_body (codes "p")))
    ∷ at 3 (AddJob (codes "J") (job_body (codes "q")))
    ∷ at 4 (AddJob (codes "k") (job_body (codes "q")))
    ∷ []

abbrev pub refused_jobs_lines : List Line
refused_jobs_lines =
    line (Refused refusal.PoolNotFound) []
    ∷ line (Status 201) []
    ∷ line (Status 201) []
    ∷ line (Refused refusal.JobExists) []
    ∷ line (Refused refusal.JobExists) []
    ∷ line (Refused refusal.PoolNotFound) []
    ∷ []

abbrev pub refused_jobs_rows : Sheet
refused_jobs_rows = record {
  pools = (codes "p", false, Steady, 0, 0) ∷ [];
  nodes = [];
  jobs = (codes "j", codes "p", JobActive, 1) ∷ [];
  tasks = [];
  runs = [];
  moment = 4;
}

-- a task in a missing job, and one that is there
abbrev pub refused_tasks : List Call
refused_tasks =
    at 0 (AddTask (codes "j") (task_body (codes "t")))
    ∷ at 0 (AddPool (pool_body (codes "p") 0))
    ∷ at 0 (AddJob (codes "j") (job_body (codes "p")))
    ∷ at 0 (AddJob (codes "k") (job_body (codes "p")))
    ∷ at 0 (AddTask (codes "j") (task_body (codes "t")))
    ∷ at 0 (AddTask (codes "J") (task_body (codes "T")))
    ∷ at 0 (AddTask (codes "k") (task_body (codes "T")))
    ∷ []

abbrev pub refused_tasks_lines : List Line
refused_tasks_lines =
    line (Refused refusal.JobNotFound) []
    ∷ line (Status 201) []
    ∷ line (Status 201) []
    ∷ line (Status 201) []
    ∷ line (Status 201) []
    ∷ line (Refused refusal.TaskExists) []
    ∷ line (Status 201) []
    ∷ []

abbrev pub refused_tasks_rows : Sheet
refused_tasks_rows = record {
  pools = (codes "p", false, Steady, 0, 0) ∷ [];
  nodes = [];
  jobs = (codes "j", codes "p", JobActive, 0) ∷ (codes "k", codes "p", JobActive, 0) ∷ [];
  tasks =
      (codes "j", codes "t", Active, 0, 0, None, None)
      ∷ (codes "k", codes "T", Active, 0, 0, None, None)
      ∷ [];
  runs = [];
  moment = 0;
}

-- calls name the pool and the job in other case
abbrev pub spelled_otherwise : List Call
spelled_otherwise =
    at 0 (AddPool (pool_body (codes "Pool") 1))
    ∷ at 0 (AddJob (codes "Job") (job_body (codes "POOL")))
    ∷ at 0 (AddTask (codes "JOB") (task_body (codes "Task")))
    ∷ at 1 (Take 1)
    ∷ at 2 (End 1 (Code (pos 0)))
    ∷ []

abbrev pub spelled_otherwise_lines : List Line
spelled_otherwise_lines =
    line (Status 201) (NodeAdded (codes "Pool") 1 1 ∷ PoolResized (codes "Pool") Reached ∷ [])
    ∷ line (Status 201) []
    ∷ line (Status 201) (TaskPlaced (codes "Job") (codes "Task") 1 1 ∷ [])
    ∷ line (Status 200) []
    ∷ line (Status 200) (TaskSettled (codes "Job") (codes "Task") Success ∷ [])
    ∷ []

abbrev pub spelled_otherwise_rows : Sheet
spelled_otherwise_rows = record {
  pools = (codes "Pool", false, Steady, 1, 0) ∷ [];
  nodes = (1, codes "Pool", 1, Usable) ∷ [];
  jobs = (codes "Job", codes "Pool", JobActive, 0) ∷ [];
  tasks = (codes "Job", codes "Task", Completed, 1, 0, None, Some (ByEnding (Code (pos 0)), true, true, 2)) ∷ [];
  runs = (1, TaskRun, 1, codes "Pool", (Some (codes "Job"), Some (codes "Task"), 1), Ended (Code (pos 0)), 0, Some 1, Some 2) ∷ [];
  moment = 2;
}

-- moments that go back, and a refusal that moves the moment
abbrev pub moments : List Call
moments =
    at 10 (AddPool (pool_body (codes "p") 1))
    ∷ at 5 (AddJob (codes "j") (job_body (codes "p")))
    ∷ at 20 (End 7 (Code (pos 0)))
    ∷ at 15 (AddTask (codes "j") (task_body (codes "t")))
    ∷ at 0 (Take 1)
    ∷ at 30 (AddJob (codes "J") (job_body (codes "p")))
    ∷ at 29 (End 1 (Code (pos 0)))
    ∷ []

abbrev pub moments_lines : List Line
moments_lines =
    line (Status 201) (NodeAdded (codes "p") 1 1 ∷ PoolResized (codes "p") Reached ∷ [])
    ∷ line (Status 201) []
    ∷ line (Refused refusal.RunNotFound) []
    ∷ line (Status 201) (TaskPlaced (codes "j") (codes "t") 1 1 ∷ [])
    ∷ line (Status 200) []
    ∷ line (Refused refusal.JobExists) []
    ∷ line (Status 200) (TaskSettled (codes "j") (codes "t") Success ∷ [])
    ∷ []

abbrev pub moments_rows : Sheet
moments_rows = record {
  pools = (codes "p", false, Steady, 1, 10) ∷ [];
  nodes = (1, codes "p", 1, Usable) ∷ [];
  jobs = (codes "j", codes "p", JobActive, 10) ∷ [];
  tasks = (codes "j", codes "t", Completed, 1, 0, None, Some (ByEnding (Code (pos 0)), true, true, 30)) ∷ [];
  runs = (1, TaskRun, 1, codes "p", (Some (codes "j"), Some (codes "t"), 1), Ended (Code (pos 0)), 20, Some 20, Some 30) ∷ [];
  moment = 30;
}
