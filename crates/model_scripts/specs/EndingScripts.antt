-- What an ending makes of a task.
use Rattle.std.specs.Prelude.{List, [], ◌∷◌, Some, None, pos, negsuc, codes, false}
use Rattle.bt_rows.specs.declared.event.EventKind.TheVariants.{AddPool, AddJob, AddTask, Take, End}
use Rattle.bt_rows.specs.declared.reply.Reply.TheVariants.{Status}
use Rattle.bt_rows.specs.declared.due.Outcome.TheVariants.{Failure}
use Rattle.bt_rows.specs.declared.due.ResizeEnd.TheVariants.{Reached}
use Rattle.bt_rows.specs.declared.due.Due.TheVariants.{TaskSettled, PoolResized, NodeAdded, TaskPlaced}
use Rattle.batch_model.specs.Variants.{Steady, Usable, JobActive, Completed, ByEnding, Code, NoCode, NotStarted, TaskRun, Ended}
use Rattle.model_scripts.specs.Scripts.{Call, at, Line, line, Sheet}
use Rattle.model_scripts.specs.Bodies.{pool_body, job_body, task_body}

-- four tasks that end with 1, with -1, without a code and without a start
abbrev pub failures : List Call
failures =
    at 0 (AddPool (pool_body (codes "p") 4))
    ∷ at 0 (AddJob (codes "j") (job_body (codes "p")))
    ∷ at 0 (AddTask (codes "j") (task_body (codes "a")))
    ∷ at 0 (AddTask (codes "j") (task_body (codes "b")))
    ∷ at 0 (AddTask (codes "j") (task_body (codes "c")))
    ∷ at 0 (AddTask (codes "j") (task_body (codes "d")))
    ∷ at 1 (Take 1)
    ∷ at 1 (Take 2)
    ∷ at 1 (Take 3)
    ∷ at 1 (Take 4)
    ∷ at 2 (End 1 (Code (pos 1)))
    ∷ at 3 (End 2 (Code (negsuc 0)))
    ∷ at 4 (End 3 NoCode)
    ∷ at 5 (End 4 NotStarted)
    ∷ []

abbrev pub failures_lines : List Line
failures_lines =
    line (Status 201)
    (NodeAdded (codes "p") 1 1
    ∷ NodeAdded (codes "p") 2 2
    ∷ NodeAdded (codes "p") 3 3
    ∷ NodeAdded (codes "p") 4 4
    ∷ PoolResized (codes "p") Reached
    ∷ [])
    ∷ line (Status 201) []
    ∷ line (Status 201) (TaskPlaced (codes "j") (codes "a") 1 1 ∷ [])
    ∷ line (Status 201) (TaskPlaced (codes "j") (codes "b") 2 2 ∷ [])
    ∷ line (Status 201) (TaskPlaced (codes "j") (codes "c") 3 3 ∷ [])
    ∷ line (Status 201) (TaskPlaced (codes "j") (codes "d") 4 4 ∷ [])
    ∷ line (Status 200) []
    ∷ line (Status 200) []
    ∷ line (Status 200) []
    ∷ line (Status 200) []
    ∷ line (Status 200) (TaskSettled (codes "j") (codes "a") Failure ∷ [])
    ∷ line (Status 200) (TaskSettled (codes "j") (codes "b") Failure ∷ [])
    ∷ line (Status 200) (TaskSettled (codes "j") (codes "c") Failure ∷ [])
    ∷ line (Status 200) (TaskSettled (codes "j") (codes "d") Failure ∷ [])
    ∷ []

abbrev pub failures_rows : Sheet
failures_rows = record {
  pools = (codes "p", false, Steady, 4, 0) ∷ [];
  nodes = (1, codes "p", 1, Usable) ∷ (2, codes "p", 2, Usable) ∷ (3, codes "p", 3, Usable) ∷ (4, codes "p", 4, Usable) ∷ [];
  jobs = (codes "j", codes "p", JobActive, 0) ∷ [];
  tasks =
      (codes "j", codes "a", Completed, 1, 0, None, Some (ByEnding (Code (pos 1)), false, false, 2))
      ∷ (codes "j", codes "b", Completed, 1, 0, None, Some (ByEnding (Code (negsuc 0)), false, false, 3))
      ∷ (codes "j", codes "c", Completed, 1, 0, None, Some (ByEnding NoCode, false, false, 4))
      ∷ (codes "j", codes "d", Completed, 1, 0, None, Some (ByEnding NotStarted, false, false, 5))
      ∷ [];
  runs =
      (1, TaskRun, 1, codes "p", (Some (codes "j"), Some (codes "a"), 1), Ended (Code (pos 1)), 0, Some 1, Some 2)
      ∷ (2, TaskRun, 2, codes "p", (Some (codes "j"), Some (codes "b"), 1), Ended (Code (negsuc 0)), 0, Some 1, Some 3)
      ∷ (3, TaskRun, 3, codes "p", (Some (codes "j"), Some (codes "c"), 1), Ended NoCode, 0, Some 1, Some 4)
      ∷ (4, TaskRun, 4, codes "p", (Some (codes "j"), Some (codes "d"), 1), Ended NotStarted, 0, Some 1, Some 5)
      ∷ [];
  moment = 5;
}

-- the job says three retries, and the task none
abbrev pub own_limit : List Call
own_limit =
    at 0 (AddPool (pool_body (codes "p") 1))
    ∷ at 0 (AddJob (codes "j") (record (job_body (codes "p")) { retries = pos 3 }))
    ∷ at 0 (AddTask (codes "j") (record (task_body (codes "t")) { retries = Some (pos 0) }))
    ∷ at 1 (Take 1)
    ∷ at 2 (End 1 (Code (pos 5)))
    ∷ []

abbrev pub own_limit_lines : List Line
own_limit_lines =
    line (Status 201) (NodeAdded (codes "p") 1 1 ∷ PoolResized (codes "p") Reached ∷ [])
    ∷ line (Status 201) []
    ∷ line (Status 201) (TaskPlaced (codes "j") (codes "t") 1 1 ∷ [])
    ∷ line (Status 200) []
    ∷ line (Status 200) (TaskSettled (codes "j") (codes "t") Failure ∷ [])
    ∷ []

abbrev pub own_limit_rows : Sheet
own_limit_rows = record {
  pools = (codes "p", false, Steady, 1, 0) ∷ [];
  nodes = (1, codes "p", 1, Usable) ∷ [];
  jobs = (codes "j", codes "p", JobActive, 0) ∷ [];
  tasks = (codes "j", codes "t", Completed, 1, 0, None, Some (ByEnding (Code (pos 5)), false, false, 2)) ∷ [];
  runs = (1, TaskRun, 1, codes "p", (Some (codes "j"), Some (codes "t"), 1), Ended (Code (pos 5)), 0, Some 1, Some 2) ∷ [];
  moment = 2;
}
