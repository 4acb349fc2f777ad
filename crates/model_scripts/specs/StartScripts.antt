-- Start tasks of nodes.
use Rattle.std.specs.Prelude.{ℕ, Bool, List, [], ◌∷◌, Some, None, ℤ, pos, negsuc, codes, true, false}
use Rattle.bt_rows.specs.declared.event.EventKind.TheVariants.{AddPool, AddJob, AddTask, Take, End}
use Rattle.bt_rows.specs.declared.event.PoolSpec.{PoolSpec}
use Rattle.bt_rows.specs.declared.reply.Reply.TheVariants.{Status, Refused}
use Rattle.bt_rows.specs.declared.refusal.Refusal.TheVariants as refusal
use Rattle.bt_rows.specs.declared.due.ResizeEnd.TheVariants.{Reached}
use Rattle.bt_rows.specs.declared.due.Due.TheVariants.{PoolResized, NodeAdded, TaskPlaced}
use Rattle.batch_model.specs.Variants.{Steady, Starting, Usable, StartFailed, JobActive, Active, Placed, Code, NoCode, NotStarted, StartRun, TaskRun, Queued}
use Rattle.batch_model.specs.Variants.{Ended}
use Rattle.model_scripts.specs.Scripts.{Call, at, Line, line, Sheet}
use Rattle.model_scripts.specs.Bodies.{pool_body, job_body, task_body}

-- a pool of so many nodes with a start task, of so many retries, that is waited for or not
abbrev pub start_pool : ℕ → ℤ → Bool → PoolSpec
start_pool target again waited = record (pool_body (codes "p") target) { start = Some (record { line = codes "init"; retries = again; wait = waited }) }

-- the pool's one node is added
abbrev pub one_node_line : Line
one_node_line = line (Status 201) (NodeAdded (codes "p") 1 1 ∷ PoolResized (codes "p") Reached ∷ [])

-- nothing follows
abbrev pub done_line : Line
done_line = line (Status 200) []

abbrev pub added_line : Line
added_line = line (Status 201) []

-- one retry: the first run of the start task fails, and the second one succeeds
abbrev pub second_start : List Call
second_start =
    at 0 (AddPool (start_pool 1 (pos 1) true))
    ∷ at 0 (AddJob (codes "j") (job_body (codes "p")))
    ∷ at 0 (AddTask (codes "j") (task_body (codes "t")))
    ∷ at 1 (Take 1)
    ∷ at 2 (End 1 (Code (pos 1)))
    ∷ at 3 (Take 2)
    ∷ at 4 (End 2 (Code (pos 0)))
    ∷ []

abbrev pub second_start_lines : List Line
second_start_lines =
    one_node_line
    ∷ added_line
    ∷ added_line
    ∷ done_line
    ∷ done_line
    ∷ done_line
    ∷ line (Status 200) (TaskPlaced (codes "j") (codes "t") 1 3 ∷ [])
    ∷ []

abbrev pub second_start_rows : Sheet
second_start_rows = record {
  pools = (codes "p", false, Steady, 1, 0) ∷ [];
  nodes = (1, codes "p", 1, Usable) ∷ [];
  jobs = (codes "j", codes "p", JobActive, 0) ∷ [];
  tasks = (codes "j", codes "t", Placed, 1, 0, None, None) ∷ [];
  runs =
      (1, StartRun, 1, codes "p", (None, None, 0), Ended (Code (pos 1)), 0, Some 1, Some 2)
      ∷ (2, StartRun, 1, codes "p", (None, None, 0), Ended (Code (pos 0)), 2, Some 3, Some 4)
      ∷ (3, TaskRun, 1, codes "p", (Some (codes "j"), Some (codes "t"), 1), Queued, 4, None, None)
      ∷ [];
  moment = 4;
}

abbrev pub second_start_tries : List ℕ
second_start_tries = 1 ∷ []

-- the second one fails too
abbrev pub failed_start : List Call
failed_start =
    at 0 (AddPool (start_pool 1 (pos 1) true))
    ∷ at 0 (AddJob (codes "j") (job_body (codes "p")))
    ∷ at 0 (AddTask (codes "j") (task_body (codes "t")))
    ∷ at 1 (Take 1)
    ∷ at 2 (End 1 (Code (pos 1)))
    ∷ at 3 (Take 2)
    ∷ at 4 (End 2 (Code (pos 1)))
    ∷ []

abbrev pub failed_start_lines : List Line
failed_start_lines = one_node_line ∷ added_line ∷ added_line ∷ done_line ∷ done_line ∷ done_line ∷ done_line ∷ []

abbrev pub failed_start_rows : Sheet
failed_start_rows = record {
  pools = (codes "p", false, Steady, 1, 0) ∷ [];
  nodes = (1, codes "p", 1, StartFailed) ∷ [];
  jobs = (codes "j", codes "p", JobActive, 0) ∷ [];
  tasks = (codes "j", codes "t", Active, 0, 0, None, None) ∷ [];
  runs =
      (1, StartRun, 1, codes "p", (None, None, 0), Ended (Code (pos 1)), 0, Some 1, Some 2)
      ∷ (2, StartRun, 1, codes "p", (None, None, 0), Ended (Code (pos 1)), 2, Some 3, Some 4)
      ∷ [];
  moment = 4;
}

abbrev pub failed_start_tries : List ℕ
failed_start_tries = 2 ∷ []

-- no retries, and a child that was not started
abbrev pub tried_once : List Call
tried_once =
    at 0 (AddPool (start_pool 1 (pos 0) true))
    ∷ at 1 (Take 1)
    ∷ at 2 (End 1 NotStarted)
    ∷ []

abbrev pub tried_once_lines : List Line
tried_once_lines = one_node_line ∷ done_line ∷ done_line ∷ []

abbrev pub tried_once_rows : Sheet
tried_once_rows = record {
  pools = (codes "p", false, Steady, 1, 0) ∷ [];
  nodes = (1, codes "p", 1, StartFailed) ∷ [];
  jobs = [];
  tasks = [];
  runs = (1, StartRun, 1, codes "p", (None, None, 0), Ended NotStarted, 0, Some 1, Some 2) ∷ [];
  moment = 2;
}

abbrev pub tried_once_tries : List ℕ
tried_once_tries = 1 ∷ []

-- the start task is not waited for: a task goes on the node at once, and beside it the start task fails, is run again and
-- fails for the last time
abbrev pub unwaited : List Call
unwaited =
    at 0 (AddPool (start_pool 1 (pos 1) false))
    ∷ at 0 (AddJob (codes "j") (job_body (codes "p")))
    ∷ at 0 (AddTask (codes "j") (task_body (codes "t")))
    ∷ at 1 (Take 1)
    ∷ at 2 (End 1 (Code (pos 1)))
    ∷ at 3 (Take 3)
    ∷ at 4 (End 3 (Code (pos 1)))
    ∷ []

abbrev pub unwaited_lines : List Line
unwaited_lines =
    one_node_line
    ∷ added_line
    ∷ line (Status 201) (TaskPlaced (codes "j") (codes "t") 1 2 ∷ [])
    ∷ done_line
    ∷ done_line
    ∷ done_line
    ∷ done_line
    ∷ []

abbrev pub unwaited_rows : Sheet
unwaited_rows = record {
  pools = (codes "p", false, Steady, 1, 0) ∷ [];
  nodes = (1, codes "p", 1, Usable) ∷ [];
  jobs = (codes "j", codes "p", JobActive, 0) ∷ [];
  tasks = (codes "j", codes "t", Placed, 1, 0, None, None) ∷ [];
  runs =
      (1, StartRun, 1, codes "p", (None, None, 0), Ended (Code (pos 1)), 0, Some 1, Some 2)
      ∷ (2, TaskRun, 1, codes "p", (Some (codes "j"), Some (codes "t"), 1), Queued, 0, None, None)
      ∷ (3, StartRun, 1, codes "p", (None, None, 0), Ended (Code (pos 1)), 2, Some 3, Some 4)
      ∷ [];
  moment = 4;
}

abbrev pub unwaited_tries : List ℕ
unwaited_tries = 2 ∷ []

-- the task alone holds its slot
abbrev pub unwaited_held : List ℕ
unwaited_held = 1 ∷ []

-- without a limit the start task is run again after every failure, while a task waits
abbrev pub over_and_over : List Call
over_and_over =
    at 0 (AddPool (start_pool 1 (negsuc 0) true))
    ∷ at 0 (AddJob (codes "j") (job_body (codes "p")))
    ∷ at 0 (AddTask (codes "j") (task_body (codes "t")))
    ∷ at 1 (Take 1)
    ∷ at 2 (End 1 (Code (negsuc 0)))
    ∷ at 3 (Take 2)
    ∷ at 4 (End 2 NoCode)
    ∷ at 5 (Take 3)
    ∷ at 6 (End 3 NotStarted)
    ∷ at 7 (Take 4)
    ∷ []

abbrev pub over_and_over_lines : List Line
over_and_over_lines =
    one_node_line
    ∷ added_line
    ∷ added_line
    ∷ done_line
    ∷ done_line
    ∷ done_line
    ∷ done_line
    ∷ done_line
    ∷ done_line
    ∷ done_line
    ∷ []

abbrev pub over_and_over_tries : List ℕ
over_and_over_tries = 3 ∷ []

-- nothing is held, though a start run is taken
abbrev pub over_and_over_held : List ℕ
over_and_over_held = 0 ∷ []

-- then it succeeds
abbrev pub at_last : List Call
at_last =
    at 0 (AddPool (start_pool 1 (negsuc 0) true))
    ∷ at 0 (AddJob (codes "j") (job_body (codes "p")))
    ∷ at 0 (AddTask (codes "j") (task_body (codes "t")))
    ∷ at 1 (Take 1)
    ∷ at 2 (End 1 (Code (pos 1)))
    ∷ at 3 (Take 2)
    ∷ at 4 (End 2 (Code (pos 1)))
    ∷ at 5 (Take 3)
    ∷ at 6 (End 3 (Code (pos 0)))
    ∷ []

abbrev pub at_last_lines : List Line
at_last_lines =
    one_node_line
    ∷ added_line
    ∷ added_line
    ∷ done_line
    ∷ done_line
    ∷ done_line
    ∷ done_line
    ∷ done_line
    ∷ line (Status 200) (TaskPlaced (codes "j") (codes "t") 1 4 ∷ [])
    ∷ []

-- what ends a start run: not before it is taken, and once
abbrev pub ended_once : List Call
ended_once =
    at 0 (AddPool (start_pool 1 (pos 5) true))
    ∷ at 1 (End 1 (Code (pos 1)))
    ∷ at 2 (Take 1)
    ∷ at 3 (End 1 (Code (pos 1)))
    ∷ at 4 (End 1 (Code (pos 1)))
    ∷ at 5 (End 1 (Code (pos 0)))
    ∷ []

abbrev pub ended_once_lines : List Line
ended_once_lines =
    one_node_line
    ∷ line (Refused refusal.RunNotTaken) []
    ∷ done_line
    ∷ done_line
    ∷ line (Refused refusal.RunAlreadyEnded) []
    ∷ line (Refused refusal.RunAlreadyEnded) []
    ∷ []

abbrev pub ended_once_rows : Sheet
ended_once_rows = record {
  pools = (codes "p", false, Steady, 1, 0) ∷ [];
  nodes = (1, codes "p", 1, Starting) ∷ [];
  jobs = [];
  tasks = [];
  runs =
      (1, StartRun, 1, codes "p", (None, None, 0), Ended (Code (pos 1)), 0, Some 2, Some 3)
      ∷ (2, StartRun, 1, codes "p", (None, None, 0), Queued, 3, None, None)
      ∷ [];
  moment = 5;
}

abbrev pub ended_once_tries : List ℕ
ended_once_tries = 1 ∷ []

-- of two nodes the second one starts first, and the first one has failed
abbrev pub second_node_first : List Call
second_node_first =
    at 0 (AddPool (start_pool 2 (pos 0) true))
    ∷ at 0 (AddJob (codes "j") (job_body (codes "p")))
    ∷ at 0 (AddTask (codes "j") (task_body (codes "t")))
    ∷ at 0 (AddTask (codes "j") (task_body (codes "u")))
    ∷ at 1 (Take 1)
    ∷ at 1 (Take 2)
    ∷ at 2 (End 2 (Code (pos 0)))
    ∷ at 3 (End 1 (Code (pos 2)))
    ∷ []

abbrev pub second_node_first_lines : List Line
second_node_first_lines =
    line (Status 201) (NodeAdded (codes "p") 1 1 ∷ NodeAdded (codes "p") 2 2 ∷ PoolResized (codes "p") Reached ∷ [])
    ∷ added_line
    ∷ added_line
    ∷ added_line
    ∷ done_line
    ∷ done_line
    ∷ line (Status 200) (TaskPlaced (codes "j") (codes "t") 2 3 ∷ [])
    ∷ done_line
    ∷ []

abbrev pub second_node_first_rows : Sheet
second_node_first_rows = record {
  pools = (codes "p", false, Steady, 2, 0) ∷ [];
  nodes = (1, codes "p", 1, StartFailed) ∷ (2, codes "p", 2, Usable) ∷ [];
  jobs = (codes "j", codes "p", JobActive, 0) ∷ [];
  tasks =
      (codes "j", codes "t", Placed, 1, 0, None, None)
      ∷ (codes "j", codes "u", Active, 0, 0, None, None)
      ∷ [];
  runs =
      (1, StartRun, 1, codes "p", (None, None, 0), Ended (Code (pos 2)), 0, Some 1, Some 3)
      ∷ (2, StartRun, 2, codes "p", (None, None, 0), Ended (Code (pos 0)), 0, Some 1, Some 2)
      ∷ (3, TaskRun, 2, codes "p", (Some (codes "j"), Some (codes "t"), 1), Queued, 2, None, None)
      ∷ [];
  moment = 3;
}

abbrev pub second_node_first_tries : List ℕ
second_node_first_tries = 1 ∷ 0 ∷ []
