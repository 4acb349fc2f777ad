-- Nodes that leave their pools by each option, and what becomes of the runs on them.
use Rattle.std.specs.Prelude.{ℕ, Bool, true, false, List, [], ◌∷◌, ◌++◌, map, codes, Option, Some, None, pos, negsuc}
use Rattle.bt_rows.specs.declared.event.EventKind.TheVariants.{AddPool, DeletePool, Resize, AddJob, AddTask, AddTasks, DeleteTask, Take, End, Tick}
use Rattle.bt_rows.specs.declared.event.JobSpec.{JobSpec}
use Rattle.bt_rows.specs.declared.event.TaskSpec.{TaskSpec}
use Rattle.bt_rows.specs.declared.reply.Element.TheVariants.{Added}
use Rattle.bt_rows.specs.declared.reply.Reply.TheVariants.{Status, Elements}
use Rattle.bt_rows.specs.declared.due.Outcome.TheVariants.{Success, Failure, Again}
use Rattle.bt_rows.specs.declared.due.ResizeEnd.TheVariants.{Removed, Reached, TimedOut}
use Rattle.bt_rows.specs.declared.due.Due.{Due}
use Rattle.bt_rows.specs.declared.due.Due.TheVariants.{TaskSettled, PoolResized, NodeLeaves, NodeDropped}
use Rattle.batch_model.specs.Runs.{new_run}
use Rattle.batch_model.specs.Tasks.{new_task}
use Rattle.batch_model.specs.Dues.{has_retained, due_step}
use Rattle.batch_model.specs.Events.{event_step}
use Rattle.batch_model.specs.Variants.{State, empty_state, Steady, Dealloc, ByRequeue, TaskCompletion, RetainedData, Usable, NodeStage, Leaving, NodeRow, JobActive}
use Rattle.batch_model.specs.Variants.{TaskStage, Active, Placed, Completed, Want, WantRequeue, How, ByEnding, ByTermination, TaskRow, Code, NotStarted, StartRun}
use Rattle.batch_model.specs.Variants.{PrepRun, TaskRun, RunState, Queued, Taken, Ended, Withdrawn, RunRow, PrepState, PrepRunning, PrepFailed, PrepRow}
use Rattle.model_scripts.specs.Scripts.{Call, at, Line, line, Sheet, seat_count, state_after}
use Rattle.model_scripts.specs.Bodies.{pool_body, resize_body, job_body, task_body}
use Rattle.model_scripts.specs.StartScripts.{start_pool, one_node_line, added_line, done_line}
use Rattle.model_scripts.specs.SlotScripts.{two_nodes_line, slotted_pool, put_on}

-- what a leaving node changes: nodes with their stages, the wanted ends of tasks, runs with their states and whether they are asked to
-- stop, and the nodes of preparations with their states
pub record Marks : Type 0 where
  pub nodes : List (ℕ × NodeStage)
  pub tasks : List (Option Want)
  pub runs : List (ℕ × RunState × Bool)
  pub preps : List (ℕ × PrepState)

abbrev pub marks_of : State → Marks
marks_of s = record {
  nodes = map (λ (node : NodeRow). (node.number, node.stage)) s.nodes;
  tasks = map (λ (task : TaskRow). task.wanted) s.tasks;
  runs = map (λ (run : RunRow). (run.number, run.state, run.asked)) s.runs;
  preps = map (λ (prep : PrepRow). (prep.node, prep.state)) s.preps;
}

-- the marks after calls
abbrev pub marks_after : List Call → Marks
marks_after calls = marks_of (state_after calls)

-- the four options

-- a task that is retained for so long
abbrev pub retained_task : Option ℕ → TaskSpec
retained_task long = record (task_body (codes "t")) { retention = long }

-- a task with such a retention time runs on the first of two nodes, and then the pool resizes to no nodes by the option
abbrev pub shrinking : Option ℕ → Dealloc → List Call
shrinking long by =
    at 0 (AddPool (pool_body (codes "p") 2))
    ∷ at 0 (AddJob (codes "j") (job_body (codes "p")))
    ∷ at 0 (AddTask (codes "j") (retained_task long))
    ∷ at 1 (Take 1)
    ∷ at 10 (Resize (codes "p") (resize_body 0 by))
    ∷ []

-- the other node is dropped at once
abbrev pub shrinking_lines : List Line
shrinking_lines =
    two_nodes_line
    ∷ added_line
    ∷ line (Status 201) (put_on (codes "t") 1 1 ∷ [])
    ∷ done_line
    ∷ line (Status 202) (NodeLeaves 2 ∷ NodeLeaves 1 ∷ NodeDropped 2 ∷ [])
    ∷ []

-- the task's node by the option, the end that is wanted, and whether the run is asked to stop
abbrev pub shrinking_marks : Dealloc → Option Want → Bool → Marks
shrinking_marks by want told = record {
  nodes = (1, Leaving by) ∷ [];
  tasks = want ∷ [];
  runs = (1, Taken, told) ∷ [];
  preps = [];
}

-- the task's run ends with success
abbrev pub shrunk : Option ℕ → Dealloc → List Call
shrunk long by = shrinking long by ++ at 20 (End 1 (Code (pos 0))) ∷ []

-- the task is settled so, and its node is dropped
abbrev pub shrunk_lines : Due → List Line
shrunk_lines settled = shrinking_lines ++ line (Status 200) (settled ∷ NodeDropped 1 ∷ PoolResized (codes "p") Reached ∷ []) ∷ []

-- no node is left; the task in this stage, closed so, at this moment
abbrev pub shrunk_rows : TaskStage → Option (How × Bool × Bool × ℕ) → ℕ → Sheet
shrunk_rows stage closing now = record {
  pools = (codes "p", false, Steady, 0, 10) ∷ [];
  nodes = [];
  jobs = (codes "j", codes "p", JobActive, 0) ∷ [];
  tasks = (codes "j", codes "t", stage, 1, 0, None, closing) ∷ [];
  runs = (1, TaskRun, 1, codes "p", (Some (codes "j"), Some (codes "t"), 1), Ended (Code (pos 0)), 0, Some 1, Some 20) ∷ [];
  moment = now;
}

-- by requeue the task is active again
abbrev pub requeued_lines : List Line
requeued_lines = shrunk_lines (TaskSettled (codes "j") (codes "t") (Again 0))

abbrev pub requeued_rows : Sheet
requeued_rows = shrunk_rows Active None 20

-- by terminate it is terminated
abbrev pub terminated_lines : List Line
terminated_lines = shrunk_lines (TaskSettled (codes "j") (codes "t") Failure)

abbrev pub terminated_rows : Sheet
terminated_rows = shrunk_rows Completed (Some (ByTermination, false, false, 20)) 20

-- by the other options it goes on to its end
abbrev pub finished_lines : List Line
finished_lines = shrunk_lines (TaskSettled (codes "j") (codes "t") Success)

abbrev pub finished_rows : ℕ → Sheet
finished_rows now = shrunk_rows Completed (Some (ByEnding (Code (pos 0)), true, true, 20)) now

-- by retained data the node is dropped ten seconds after the run ended, and not a millisecond before
abbrev pub retained : List Call
retained = shrunk (Some 10000) RetainedData ++ at 10019 Tick ∷ at 10020 Tick ∷ []

-- the run has ended, and its node is not dropped yet
abbrev pub kept_lines : List Line
kept_lines = shrinking_lines ++ line (Status 200) (TaskSettled (codes "j") (codes "t") Success ∷ []) ∷ []

abbrev pub retained_lines : List Line
retained_lines = kept_lines ++ done_line ∷ line (Status 200) (NodeDropped 1 ∷ PoolResized (codes "p") Reached ∷ []) ∷ []

-- retention

-- the task is deleted before its retention time is over
abbrev pub deleted_task : List Call
deleted_task = shrunk (Some 10000) RetainedData ++ at 30 (DeleteTask (codes "j") (codes "t")) ∷ []

abbrev pub deleted_task_lines : List Line
deleted_task_lines = kept_lines ++ line (Status 200) (NodeDropped 1 ∷ PoolResized (codes "p") Reached ∷ []) ∷ []

abbrev pub deleted_task_rows : Sheet
deleted_task_rows = record {
  pools = (codes "p", false, Steady, 0, 10) ∷ [];
  nodes = [];
  jobs = (codes "j", codes "p", JobActive, 0) ∷ [];
  tasks = [];
  runs = [];
  moment = 30;
}

-- a run of the task on node 1, in this state, which it had at moment 20
abbrev pub run_in : RunState → RunRow
run_in state = record (new_run empty_state 1 (codes "p") TaskRun (codes "w")) {
  job = Some (codes "j");
  task = Some (codes "t");
  attempt = 1;
  state = state;
  ended = Some 20;
}

-- a run on the node is retained at this moment, by these tasks
abbrev pub is_kept : ℕ → List TaskRow → RunState → Bool
is_kept now rows state = has_retained (record empty_state { tasks = rows; runs = run_in state ∷ []; moment = now }) 1

-- two tasks with ten seconds and one without end
abbrev pub kept_task : TaskRow
kept_task = new_task (codes "J") (retained_task (Some 10000))

abbrev pub other_task : TaskRow
other_task = new_task (codes "j") (record (retained_task (Some 10000)) { id = codes "u" })

abbrev pub endless_task : TaskRow
endless_task = new_task (codes "j") (retained_task None)

-- within ten seconds and after them, after any ending, without end, without a row of its task, and if it was withdrawn
abbrev pub kept : List Bool
kept =
    is_kept 20 (kept_task ∷ []) (Ended (Code (pos 0)))
    ∷ is_kept 10019 (other_task ∷ kept_task ∷ []) (Ended NotStarted)
    ∷ is_kept 10020 (kept_task ∷ []) (Ended (Code (pos 0)))
    ∷ is_kept 200000000000000 (endless_task ∷ []) (Ended (Code (pos 0)))
    ∷ is_kept 20 (other_task ∷ []) (Ended (Code (pos 0)))
    ∷ is_kept 20 [] (Ended (Code (pos 0)))
    ∷ is_kept 20 (kept_task ∷ []) Withdrawn
    ∷ []

abbrev pub all_kept : List Bool
all_kept = true ∷ true ∷ false ∷ true ∷ false ∷ false ∷ false ∷ []

-- a retention without end: the resize times out, and the node goes with its pool
abbrev pub endless : List Call
endless =
    shrunk None RetainedData
    ++ at 900009 Tick
    ∷ at 900010 Tick
    ∷ at 200000000000000 Tick
    ∷ []

abbrev pub endless_lines : List Line
endless_lines = kept_lines ++ done_line ∷ line (Status 200) (PoolResized (codes "p") TimedOut ∷ []) ∷ done_line ∷ []

abbrev pub endless_rows : Sheet
endless_rows = record (finished_rows 200000000000000) { nodes = (1, codes "p", 1, Leaving RetainedData) ∷ [] }

abbrev pub endless_deleted : List Call
endless_deleted = endless ++ at 200000000000001 (DeletePool (codes "p")) ∷ []

abbrev pub endless_deleted_lines : List Line
endless_deleted_lines = endless_lines ++ line (Status 202) (NodeDropped 1 ∷ PoolResized (codes "p") Removed ∷ []) ∷ []

abbrev pub endless_deleted_rows : Sheet
endless_deleted_rows = record (finished_rows 200000000000001) { pools = [] }

-- the task failed on the node that leaves, and its next attempt is on the other one
abbrev pub earlier_attempt : List Call
earlier_attempt =
    at 0 (AddPool (pool_body (codes "p") 2))
    ∷ at 0 (AddJob (codes "j") (job_body (codes "p")))
    ∷ at 0 (AddTasks (codes "j") (task_body (codes "a") ∷ record (retained_task (Some 10000)) { retries = Some (pos 1) } ∷ []))
    ∷ at 1 (Take 1)
    ∷ at 1 (Take 2)
    ∷ at 2 (Resize (codes "p") (resize_body 1 RetainedData))
    ∷ at 5 (End 2 (Code (pos 1)))
    ∷ at 6 (End 1 (Code (pos 0)))
    ∷ at 10004 Tick
    ∷ at 10005 Tick
    ∷ []

abbrev pub earlier_attempt_lines : List Line
earlier_attempt_lines =
    two_nodes_line
    ∷ added_line
    ∷ line (Elements (Added (codes "a") ∷ Added (codes "t") ∷ [])) (put_on (codes "a") 1 1 ∷ put_on (codes "t") 2 2 ∷ [])
    ∷ done_line
    ∷ done_line
    ∷ line (Status 202) (NodeLeaves 2 ∷ [])
    ∷ line (Status 200) (TaskSettled (codes "j") (codes "t") (Again 1) ∷ [])
    ∷ line (Status 200) (TaskSettled (codes "j") (codes "a") Success ∷ put_on (codes "t") 1 3 ∷ [])
    ∷ done_line
    ∷ line (Status 200) (NodeDropped 2 ∷ PoolResized (codes "p") Reached ∷ [])
    ∷ []

abbrev pub earlier_attempt_rows : Sheet
earlier_attempt_rows = record {
  pools = (codes "p", false, Steady, 1, 2) ∷ [];
  nodes = (1, codes "p", 1, Usable) ∷ [];
  jobs = (codes "j", codes "p", JobActive, 0) ∷ [];
  tasks =
      (codes "j", codes "a", Completed, 1, 0, None, Some (ByEnding (Code (pos 0)), true, true, 6))
      ∷ (codes "j", codes "t", Placed, 2, 1, None, None)
      ∷ [];
  runs =
      (1, TaskRun, 1, codes "p", (Some (codes "j"), Some (codes "a"), 1), Ended (Code (pos 0)), 0, Some 1, Some 6)
      ∷ (2, TaskRun, 2, codes "p", (Some (codes "j"), Some (codes "t"), 1), Ended (Code (pos 1)), 0, Some 1, Some 5)
      ∷ (3, TaskRun, 1, codes "p", (Some (codes "j"), Some (codes "t"), 2), Queued, 6, None, None)
      ∷ [];
  moment = 10005;
}

-- a task goes on another node

-- of two nodes with a task each one leaves by requeue
abbrev pub moved_task : List Call
moved_task =
    at 0 (AddPool (slotted_pool 2 2))
    ∷ at 0 (AddJob (codes "j") (job_body (codes "p")))
    ∷ at 0 (AddTasks (codes "j") (task_body (codes "a") ∷ task_body (codes "b") ∷ []))
    ∷ at 1 (Resize (codes "p") (resize_body 1 ByRequeue))
    ∷ []

abbrev pub moved_task_lines : List Line
moved_task_lines =
    two_nodes_line
    ∷ added_line
    ∷ line (Elements (Added (codes "a") ∷ Added (codes "b") ∷ [])) (put_on (codes "a") 1 1 ∷ put_on (codes "b") 2 2 ∷ [])
    ∷ line (Status 202)
    (NodeLeaves 2
    ∷ TaskSettled (codes "j") (codes "b") (Again 0)
    ∷ NodeDropped 2
    ∷ PoolResized (codes "p") Reached
    ∷ put_on (codes "b") 1 3
    ∷ [])
    ∷ []

abbrev pub moved_task_rows : Sheet
moved_task_rows = record {
  pools = (codes "p", false, Steady, 1, 1) ∷ [];
  nodes = (1, codes "p", 1, Usable) ∷ [];
  jobs = (codes "j", codes "p", JobActive, 0) ∷ [];
  tasks =
      (codes "j", codes "a", Placed, 1, 0, None, None)
      ∷ (codes "j", codes "b", Placed, 2, 0, None, None)
      ∷ [];
  runs =
      (1, TaskRun, 1, codes "p", (Some (codes "j"), Some (codes "a"), 1), Queued, 0, None, None)
      ∷ (2, TaskRun, 2, codes "p", (Some (codes "j"), Some (codes "b"), 1), Withdrawn, 0, None, Some 1)
      ∷ (3, TaskRun, 1, codes "p", (Some (codes "j"), Some (codes "b"), 2), Queued, 1, None, None)
      ∷ [];
  moment = 1;
}

-- start runs

-- the start run of a node runs when the node leaves, and then fails; it has retries without limit
abbrev pub leaving_start : List Call
leaving_start =
    at 0 (AddPool (start_pool 1 (negsuc 0) true))
    ∷ at 1 (Take 1)
    ∷ at 2 (Resize (codes "p") (resize_body 0 TaskCompletion))
    ∷ []

abbrev pub leaving_start_marks : Marks
leaving_start_marks = record { nodes = (1, Leaving TaskCompletion) ∷ []; tasks = []; runs = (1, Taken, true) ∷ []; preps = [] }

abbrev pub failed_leaving : List Call
failed_leaving = leaving_start ++ at 3 (End 1 (Code (pos 1))) ∷ []

abbrev pub failed_leaving_lines : List Line
failed_leaving_lines =
    one_node_line
    ∷ done_line
    ∷ line (Status 202) (NodeLeaves 1 ∷ [])
    ∷ line (Status 200) (NodeDropped 1 ∷ PoolResized (codes "p") Reached ∷ [])
    ∷ []

abbrev pub failed_leaving_rows : Sheet
failed_leaving_rows = record {
  pools = (codes "p", false, Steady, 0, 2) ∷ [];
  nodes = [];
  jobs = [];
  tasks = [];
  runs = (1, StartRun, 1, codes "p", (None, None, 0), Ended (Code (pos 1)), 0, Some 1, Some 3) ∷ [];
  moment = 3;
}

-- one that is queued is withdrawn
abbrev pub queued_start : List Call
queued_start =
    at 0 (AddPool (start_pool 1 (negsuc 0) true))
    ∷ at 1 (Resize (codes "p") (resize_body 0 TaskCompletion))
    ∷ []

-- the node leaves and is dropped at once
abbrev pub dropped_line : Line
dropped_line = line (Status 202) (NodeLeaves 1 ∷ NodeDropped 1 ∷ PoolResized (codes "p") Reached ∷ [])

abbrev pub queued_start_lines : List Line
queued_start_lines = one_node_line ∷ dropped_line ∷ []

abbrev pub queued_start_rows : Sheet
queued_start_rows = record {
  pools = (codes "p", false, Steady, 0, 1) ∷ [];
  nodes = [];
  jobs = [];
  tasks = [];
  runs = (1, StartRun, 1, codes "p", (None, None, 0), Withdrawn, 0, None, Some 1) ∷ [];
  moment = 1;
}

-- one that has ended retains nothing
abbrev pub ended_start : List Call
ended_start =
    at 0 (AddPool (start_pool 1 (negsuc 0) true))
    ∷ at 1 (Take 1)
    ∷ at 2 (End 1 (Code (pos 0)))
    ∷ at 3 (Resize (codes "p") (resize_body 0 RetainedData))
    ∷ []

abbrev pub ended_start_lines : List Line
ended_start_lines = one_node_line ∷ done_line ∷ done_line ∷ dropped_line ∷ []

-- preparations

-- a job with a preparation, which is tried again without limit
abbrev pub prepared_job : JobSpec
prepared_job = record (job_body (codes "p")) { prep = Some (record { line = codes "prep"; retries = negsuc 0; wait = true }) }

-- the run of a task waits for it on a pool's one node
abbrev pub preparing : List Call
preparing =
    at 0 (AddPool (pool_body (codes "p") 1))
    ∷ at 0 (AddJob (codes "j") prepared_job)
    ∷ at 0 (AddTask (codes "j") (task_body (codes "t")))
    ∷ []

abbrev pub preparing_lines : List Line
preparing_lines = one_node_line ∷ added_line ∷ line (Status 201) (put_on (codes "t") 1 2 ∷ []) ∷ []

-- the node leaves by requeue while the preparation is queued
abbrev pub queued_preparation : List Call
queued_preparation = preparing ++ at 1 (Resize (codes "p") (resize_body 0 ByRequeue)) ∷ []

abbrev pub queued_preparation_lines : List Line
queued_preparation_lines =
    preparing_lines
    ++ line (Status 202)
    (NodeLeaves 1
    ∷ TaskSettled (codes "j") (codes "t") (Again 0)
    ∷ NodeDropped 1
    ∷ PoolResized (codes "p") Reached
    ∷ [])
    ∷ []

-- the pool is empty, and the preparation and the task's run came to this
abbrev pub unprepared_rows : ℕ → RunState → Option ℕ → ℕ → Sheet
unprepared_rows from prep_state prep_taken now = record {
  pools = (codes "p", false, Steady, 0, from) ∷ [];
  nodes = [];
  jobs = (codes "j", codes "p", JobActive, 0) ∷ [];
  tasks = (codes "j", codes "t", Active, 1, 0, None, None) ∷ [];
  runs =
      (1, PrepRun, 1, codes "p", (Some (codes "j"), None, 0), prep_state, 0, prep_taken, Some now)
      ∷ (2, TaskRun, 1, codes "p", (Some (codes "j"), Some (codes "t"), 1), Withdrawn, 0, None, Some from)
      ∷ [];
  moment = now;
}

abbrev pub queued_preparation_rows : Sheet
queued_preparation_rows = unprepared_rows 1 Withdrawn None 1

-- the tables after one due step, and these if there is none
abbrev pub after_due : State → State
after_due s = elim (due_step seat_count s) [ None ↦ s | Some step ↦ step.state ]

-- when the node has begun to leave the preparation has failed, and the task is not settled yet
abbrev pub unprepared_marks : Marks
unprepared_marks = marks_of (after_due (event_step 1 (Resize (codes "p") (resize_body 0 ByRequeue)) (state_after preparing)).state)

abbrev pub all_unprepared : Marks
all_unprepared = record {
  nodes = (1, Leaving ByRequeue) ∷ [];
  tasks = Some WantRequeue ∷ [];
  runs = (1, Withdrawn, false) ∷ (2, Withdrawn, false) ∷ [];
  preps = (1, PrepFailed) ∷ [];
}

-- the node leaves by requeue while the preparation runs
abbrev pub taken_preparation : List Call
taken_preparation = preparing ++ at 1 (Take 1) ∷ at 2 (Resize (codes "p") (resize_body 0 ByRequeue)) ∷ []

abbrev pub taken_preparation_marks : Marks
taken_preparation_marks = record {
  nodes = (1, Leaving ByRequeue) ∷ [];
  tasks = None ∷ [];
  runs = (1, Taken, true) ∷ (2, Withdrawn, false) ∷ [];
  preps = (1, PrepRunning) ∷ [];
}

abbrev pub failed_preparation : List Call
failed_preparation = taken_preparation ++ at 3 (End 1 (Code (pos 1))) ∷ []

abbrev pub failed_preparation_lines : List Line
failed_preparation_lines =
    preparing_lines
    ++ done_line
    ∷ line (Status 202) (NodeLeaves 1 ∷ TaskSettled (codes "j") (codes "t") (Again 0) ∷ [])
    ∷ line (Status 200) (NodeDropped 1 ∷ PoolResized (codes "p") Reached ∷ [])
    ∷ []

abbrev pub failed_preparation_rows : Sheet
failed_preparation_rows = unprepared_rows 2 (Ended (Code (pos 1))) (Some 1) 3

-- by the option by which tasks go on, so do preparations
abbrev pub going_on : List Call
going_on =
    preparing
    ++ at 1 (Resize (codes "p") (resize_body 0 TaskCompletion))
    ∷ at 2 (Take 1)
    ∷ at 3 (End 1 (Code (pos 0)))
    ∷ at 4 (Take 2)
    ∷ at 5 (End 2 (Code (pos 0)))
    ∷ []

abbrev pub going_on_lines : List Line
going_on_lines =
    preparing_lines
    ++ line (Status 202) (NodeLeaves 1 ∷ [])
    ∷ done_line
    ∷ done_line
    ∷ done_line
    ∷ line (Status 200) (TaskSettled (codes "j") (codes "t") Success ∷ NodeDropped 1 ∷ PoolResized (codes "p") Reached ∷ [])
    ∷ []
