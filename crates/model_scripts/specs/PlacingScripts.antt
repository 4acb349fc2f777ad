-- The order of placing.
use Rattle.std.specs.Prelude.{List, [], ◌∷◌, Some, None, pos, codes, true, false}
use Rattle.bt_rows.specs.declared.event.EventKind.TheVariants.{AddPool, AddJob, AddTask, Take, End}
use Rattle.bt_rows.specs.declared.reply.Reply.TheVariants.{Status}
use Rattle.bt_rows.specs.declared.due.Outcome.TheVariants.{Success}
use Rattle.bt_rows.specs.declared.due.ResizeEnd.TheVariants.{Reached}
use Rattle.bt_rows.specs.declared.due.Due.TheVariants.{TaskSettled, PoolResized, NodeAdded, TaskPlaced}
use Rattle.batch_model.specs.Variants.{Steady, Usable, JobActive, Active, Placed, Completed, ByEnding, Code, TaskRun, Queued, Taken, Ended}
use Rattle.model_scripts.specs.Scripts.{Call, at, Line, line, Sheet}
use Rattle.model_scripts.specs.Bodies.{pool_body, job_body, task_body}

-- three tasks on one node
abbrev pub turns_on_a_node : List Call
turns_on_a_node =
    at 0 (AddPool (pool_body (codes "p") 1))
    ∷ at 0 (AddJob (codes "j") (job_body (codes "p")))
    ∷ at 0 (AddTask (codes "j") (task_body (codes "c")))
    ∷ at 0 (AddTask (codes "j") (task_body (codes "b")))
    ∷ at 0 (AddTask (codes "j") (task_body (codes "a")))
    ∷ at 1 (Take 1)
    ∷ at 2 (End 1 (Code (pos 0)))
    ∷ []

abbrev pub turns_on_a_node_lines : List Line
turns_on_a_node_lines =
    line (Status 201) (NodeAdded (codes "p") 1 1 ∷ PoolResized (codes "p") Reached ∷ [])
    ∷ line (Status 201) []
    ∷ line (Status 201) (TaskPlaced (codes "j") (codes "c") 1 1 ∷ [])
    ∷ line (Status 201) []
    ∷ line (Status 201) []
    ∷ line (Status 200) []
    ∷ line (Status 200) (TaskSettled (codes "j") (codes "c") Success ∷ TaskPlaced (codes "j") (codes "b") 1 2 ∷ [])
    ∷ []

abbrev pub turns_on_a_node_rows : Sheet
turns_on_a_node_rows = record {
  pools = (codes "p", false, Steady, 1, 0) ∷ [];
  nodes = (1, codes "p", 1, Usable) ∷ [];
  jobs = (codes "j", codes "p", JobActive, 0) ∷ [];
  tasks =
      (codes "j", codes "c", Completed, 1, 0, None, Some (ByEnding (Code (pos 0)), true, true, 2))
      ∷ (codes "j", codes "b", Placed, 1, 0, None, None)
      ∷ (codes "j", codes "a", Active, 0, 0, None, None)
      ∷ [];
  runs =
      (1, TaskRun, 1, codes "p", (Some (codes "j"), Some (codes "c"), 1), Ended (Code (pos 0)), 0, Some 1, Some 2)
      ∷ (2, TaskRun, 1, codes "p", (Some (codes "j"), Some (codes "b"), 1), Queued, 2, None, None)
      ∷ [];
  moment = 2;
}

-- three tasks on two nodes, of which the second is free first
abbrev pub nodes_in_order : List Call
nodes_in_order =
    at 0 (AddPool (pool_body (codes "p") 2))
    ∷ at 0 (AddJob (codes "j") (job_body (codes "p")))
    ∷ at 0 (AddTask (codes "j") (task_body (codes "a")))
    ∷ at 0 (AddTask (codes "j") (task_body (codes "b")))
    ∷ at 0 (AddTask (codes "j") (task_body (codes "c")))
    ∷ at 1 (Take 2)
    ∷ at 2 (End 2 (Code (pos 0)))
    ∷ []

abbrev pub nodes_in_order_lines : List Line
nodes_in_order_lines =
    line (Status 201) (NodeAdded (codes "p") 1 1 ∷ NodeAdded (codes "p") 2 2 ∷ PoolResized (codes "p") Reached ∷ [])
    ∷ line (Status 201) []
    ∷ line (Status 201) (TaskPlaced (codes "j") (codes "a") 1 1 ∷ [])
    ∷ line (Status 201) (TaskPlaced (codes "j") (codes "b") 2 2 ∷ [])
    ∷ line (Status 201) []
    ∷ line (Status 200) []
    ∷ line (Status 200) (TaskSettled (codes "j") (codes "b") Success ∷ TaskPlaced (codes "j") (codes "c") 2 3 ∷ [])
    ∷ []

abbrev pub nodes_in_order_rows : Sheet
nodes_in_order_rows = record {
  pools = (codes "p", false, Steady, 2, 0) ∷ [];
  nodes = (1, codes "p", 1, Usable) ∷ (2, codes "p", 2, Usable) ∷ [];
  jobs = (codes "j", codes "p", JobActive, 0) ∷ [];
  tasks =
      (codes "j", codes "a", Placed, 1, 0, None, None)
      ∷ (codes "j", codes "b", Completed, 1, 0, None, Some (ByEnding (Code (pos 0)), true, true, 2))
      ∷ (codes "j", codes "c", Placed, 1, 0, None, None)
      ∷ [];
  runs =
      (1, TaskRun, 1, codes "p", (Some (codes "j"), Some (codes "a"), 1), Queued, 0, None, None)
      ∷ (2, TaskRun, 2, codes "p", (Some (codes "j"), Some (codes "b"), 1), Ended (Code (pos 0)), 0, Some 1, Some 2)
      ∷ (3, TaskRun, 2, codes "p", (Some (codes "j"), Some (codes "c"), 1), Queued, 2, None, None)
      ∷ [];
  moment = 2;
}

-- the task of the first job is added last, and goes before the one that waits in the second job
abbrev pub earlier_job : List Call
earlier_job =
    at 0 (AddPool (pool_body (codes "p") 1))
    ∷ at 0 (AddJob (codes "k") (job_body (codes "p")))
    ∷ at 0 (AddJob (codes "j") (job_body (codes "p")))
    ∷ at 0 (AddTask (codes "j") (task_body (codes "x")))
    ∷ at 1 (Take 1)
    ∷ at 1 (AddTask (codes "j") (task_body (codes "y")))
    ∷ at 1 (AddTask (codes "k") (task_body (codes "z")))
    ∷ at 2 (End 1 (Code (pos 0)))
    ∷ []

abbrev pub earlier_job_lines : List Line
earlier_job_lines =
    line (Status 201) (NodeAdded (codes "p") 1 1 ∷ PoolResized (codes "p") Reached ∷ [])
    ∷ line (Status 201) []
    ∷ line (Status 201) []
    ∷ line (Status 201) (TaskPlaced (codes "j") (codes "x") 1 1 ∷ [])
    ∷ line (Status 200) []
    ∷ line (Status 201) []
    ∷ line (Status 201) []
    ∷ line (Status 200) (TaskSettled (codes "j") (codes "x") Success ∷ TaskPlaced (codes "k") (codes "z") 1 2 ∷ [])
    ∷ []

abbrev pub earlier_job_rows : Sheet
earlier_job_rows = record {
  pools = (codes "p", false, Steady, 1, 0) ∷ [];
  nodes = (1, codes "p", 1, Usable) ∷ [];
  jobs = (codes "k", codes "p", JobActive, 0) ∷ (codes "j", codes "p", JobActive, 0) ∷ [];
  tasks =
      (codes "j", codes "x", Completed, 1, 0, None, Some (ByEnding (Code (pos 0)), true, true, 2))
      ∷ (codes "j", codes "y", Active, 0, 0, None, None)
      ∷ (codes "k", codes "z", Placed, 1, 0, None, None)
      ∷ [];
  runs =
      (1, TaskRun, 1, codes "p", (Some (codes "j"), Some (codes "x"), 1), Ended (Code (pos 0)), 0, Some 1, Some 2)
      ∷ (2, TaskRun, 1, codes "p", (Some (codes "k"), Some (codes "z"), 1), Queued, 2, None, None)
      ∷ [];
  moment = 2;
}

-- two tasks in the second of two pools, while the node of the first is free
abbrev pub apart : List Call
apart =
    at 0 (AddPool (pool_body (codes "p") 1))
    ∷ at 0 (AddPool (pool_body (codes "q") 1))
    ∷ at 0 (AddJob (codes "j") (job_body (codes "q")))
    ∷ at 0 (AddTask (codes "j") (task_body (codes "t")))
    ∷ at 0 (AddTask (codes "j") (task_body (codes "u")))
    ∷ at 3 (Take 1)
    ∷ []

abbrev pub apart_lines : List Line
apart_lines =
    line (Status 201) (NodeAdded (codes "p") 1 1 ∷ PoolResized (codes "p") Reached ∷ [])
    ∷ line (Status 201) (NodeAdded (codes "q") 2 2 ∷ PoolResized (codes "q") Reached ∷ [])
    ∷ line (Status 201) []
    ∷ line (Status 201) (TaskPlaced (codes "j") (codes "t") 2 1 ∷ [])
    ∷ line (Status 201) []
    ∷ line (Status 200) []
    ∷ []

abbrev pub apart_rows : Sheet
apart_rows = record {
  pools = (codes "p", false, Steady, 1, 0) ∷ (codes "q", false, Steady, 1, 0) ∷ [];
  nodes = (1, codes "p", 1, Usable) ∷ (2, codes "q", 2, Usable) ∷ [];
  jobs = (codes "j", codes "q", JobActive, 0) ∷ [];
  tasks =
      (codes "j", codes "t", Placed, 1, 0, Some 3, None)
      ∷ (codes "j", codes "u", Active, 0, 0, None, None)
      ∷ [];
  runs = (1, TaskRun, 2, codes "q", (Some (codes "j"), Some (codes "t"), 1), Taken, 0, Some 3, None) ∷ [];
  moment = 3;
}
