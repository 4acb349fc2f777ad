-- A pool of one node, a job and a task.
use Rattle.std.specs.Prelude.{List, [], ◌∷◌, Some, None, pos, codes, true, false}
use Rattle.bt_rows.specs.declared.event.EventKind.TheVariants.{AddPool, AddJob, AddTask, Take, End}
use Rattle.bt_rows.specs.declared.reply.Reply.TheVariants.{Status, Refused}
use Rattle.bt_rows.specs.declared.refusal.Refusal.TheVariants as refusal
use Rattle.bt_rows.specs.declared.due.Outcome.TheVariants.{Success}
use Rattle.bt_rows.specs.declared.due.ResizeEnd.TheVariants.{Reached}
use Rattle.bt_rows.specs.declared.due.Due.TheVariants.{TaskSettled, PoolResized, NodeAdded, TaskPlaced}
use Rattle.batch_model.specs.Variants.{Steady, Usable, JobActive, Placed, Completed, ByEnding, Code, TaskRun, Taken, Ended}
use Rattle.model_scripts.specs.Scripts.{Call, at, Line, line, Sheet}
use Rattle.model_scripts.specs.Bodies.{pool_body, job_body, task_body}

-- no calls
abbrev pub no_calls : List Call
no_calls = []

abbrev pub no_calls_lines : List Line
no_calls_lines = []

abbrev pub no_calls_rows : Sheet
no_calls_rows = record { pools = []; nodes = []; jobs = []; tasks = []; runs = []; moment = 0 }

-- a task is placed, taken and ended with code 0, and its run ends once
abbrev pub ends_with_success : List Call
ends_with_success =
    at 0 (AddPool (pool_body (codes "p") 1))
    ∷ at 0 (AddJob (codes "j") (job_body (codes "p")))
    ∷ at 0 (AddTask (codes "j") (task_body (codes "t")))
    ∷ at 5 (Take 1)
    ∷ at 9 (End 1 (Code (pos 0)))
    ∷ at 9 (End 1 (Code (pos 0)))
    ∷ []

abbrev pub ends_with_success_lines : List Line
ends_with_success_lines =
    line (Status 201) (NodeAdded (codes "p") 1 1 ∷ PoolResized (codes "p") Reached ∷ [])
    ∷ line (Status 201) []
    ∷ line (Status 201) (TaskPlaced (codes "j") (codes "t") 1 1 ∷ [])
    ∷ line (Status 200) []
    ∷ line (Status 200) (TaskSettled (codes "j") (codes "t") Success ∷ [])
    ∷ line (Refused refusal.RunAlreadyEnded) []
    ∷ []

abbrev pub ends_with_success_rows : Sheet
ends_with_success_rows = record {
  pools = (codes "p", false, Steady, 1, 0) ∷ [];
  nodes = (1, codes "p", 1, Usable) ∷ [];
  jobs = (codes "j", codes "p", JobActive, 0) ∷ [];
  tasks = (codes "j", codes "t", Completed, 1, 0, None, Some (ByEnding (Code (pos 0)), true, true, 9)) ∷ [];
  runs = (1, TaskRun, 1, codes "p", (Some (codes "j"), Some (codes "t"), 1), Ended (Code (pos 0)), 0, Some 5, Some 9) ∷ [];
  moment = 9;
}

-- a run that is not there, was not taken, was taken before or has ended
abbrev pub refused_runs : List Call
refused_runs =
    at 0 (AddPool (pool_body (codes "p") 1))
    ∷ at 0 (AddJob (codes "j") (job_body (codes "p")))
    ∷ at 0 (AddTask (codes "j") (task_body (codes "t")))
    ∷ at 1 (End 7 (Code (pos 0)))
    ∷ at 1 (Take 7)
    ∷ at 1 (End 1 (Code (pos 0)))
    ∷ at 1 (Take 1)
    ∷ at 2 (Take 1)
    ∷ []

abbrev pub refused_runs_lines : List Line
refused_runs_lines =
    line (Status 201) (NodeAdded (codes "p") 1 1 ∷ PoolResized (codes "p") Reached ∷ [])
    ∷ line (Status 201) []
    ∷ line (Status 201) (TaskPlaced (codes "j") (codes "t") 1 1 ∷ [])
    ∷ line (Refused refusal.RunNotFound) []
    ∷ line (Refused refusal.RunNotFound) []
    ∷ line (Refused refusal.RunNotTaken) []
    ∷ line (Status 200) []
    ∷ line (Refused refusal.RunAlreadyTaken) []
    ∷ []

abbrev pub refused_runs_rows : Sheet
refused_runs_rows = record {
  pools = (codes "p", false, Steady, 1, 0) ∷ [];
  nodes = (1, codes "p", 1, Usable) ∷ [];
  jobs = (codes "j", codes "p", JobActive, 0) ∷ [];
  tasks = (codes "j", codes "t", Placed, 1, 0, Some 1, None) ∷ [];
  runs = (1, TaskRun, 1, codes "p", (Some (codes "j"), Some (codes "t"), 1), Taken, 0, Some 1, None) ∷ [];
  moment = 2;
}
