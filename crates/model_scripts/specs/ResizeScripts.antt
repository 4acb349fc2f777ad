-- Resizes of pools: how they are refused and stopped, and which nodes come and leave.
use Rattle.std.specs.Prelude.{ℕ, true, false, List, [], ◌∷◌, ◌++◌, map, codes, Option, Some, None, pos}
use Rattle.bt_rows.specs.declared.event.EventKind.{EventKind}
use Rattle.bt_rows.specs.declared.event.EventKind.TheVariants.{AddPool, DeletePool, Resize, StopResize, AddJob, AddTask, AddTasks, Take, End, Tick}
use Rattle.bt_rows.specs.declared.reply.Reply.{Reply}
use Rattle.bt_rows.specs.declared.reply.Reply.TheVariants.{Status, Refused}
use Rattle.bt_rows.specs.declared.refusal.Refusal.TheVariants as refusal
use Rattle.bt_rows.specs.declared.due.Outcome.TheVariants.{Success}
use Rattle.bt_rows.specs.declared.due.ResizeEnd.TheVariants.{Reached, TimedOut, Stopped}
use Rattle.bt_rows.specs.declared.due.Due.TheVariants.{TaskSettled, PoolResized, NodeLeaves, NodeDropped, NodeAdded}
use Rattle.batch_model.specs.Variants.{State, empty_state, Alloc, Steady, Resizing, Stopping, ResizeError, ResizeStopped, AllocationTimedOut, Dealloc, ByRequeue}
use Rattle.batch_model.specs.Variants.{TaskCompletion, RetainedData, PoolRow, Usable, Leaving, JobActive, Placed, Completed, ByEnding, Code}
use Rattle.batch_model.specs.Variants.{TaskRun, Queued, Taken, Ended, ScaleRow}
use Rattle.model_scripts.specs.Scripts.{Call, at, Line, line, Sheet, state_after}
use Rattle.model_scripts.specs.Bodies.{pool_body, resize_body, job_body, task_body}
use Rattle.model_scripts.specs.StartScripts.{one_node_line, added_line, done_line}
use Rattle.model_scripts.specs.SlotScripts.{two_nodes_line, four_added, put_on, slotted_pool, wide_task}
use Rattle.model_scripts.specs.ByHand.{reply_to, with_pools_in, with_pools_deleted}

-- stopped resizes

-- eight seats for forty nodes: the resize is stopped
abbrev pub stopped : List Call
stopped =
    at 0 (AddPool (pool_body (codes "p") 40))
    ∷ at 0 (Resize (codes "p") (resize_body 1 ByRequeue))
    ∷ at 1 (StopResize (codes "p"))
    ∷ at 1 (StopResize (codes "p"))
    ∷ []

abbrev pub eight_added : Line
eight_added =
    line (Status 201)
    (NodeAdded (codes "p") 1 1
    ∷ NodeAdded (codes "p") 2 2
    ∷ NodeAdded (codes "p") 3 3
    ∷ NodeAdded (codes "p") 4 4
    ∷ NodeAdded (codes "p") 5 5
    ∷ NodeAdded (codes "p") 6 6
    ∷ NodeAdded (codes "p") 7 7
    ∷ NodeAdded (codes "p") 8 8
    ∷ [])

abbrev pub stopped_lines : List Line
stopped_lines =
    eight_added
    ∷ line (Refused refusal.PoolBeingResized) []
    ∷ line (Status 202) (PoolResized (codes "p") Stopped ∷ [])
    ∷ line (Refused refusal.PoolNotResizing) []
    ∷ []

-- the pool in this state, its target, since when it resizes, the eight nodes, and the moment
abbrev pub eight_rows : Alloc → ℕ → ℕ → Sheet
eight_rows state from now = record {
  pools = (codes "p", false, state, 40, from) ∷ [];
  nodes =
      (1, codes "p", 1, Usable)
      ∷ (2, codes "p", 2, Usable)
      ∷ (3, codes "p", 3, Usable)
      ∷ (4, codes "p", 4, Usable)
      ∷ (5, codes "p", 5, Usable)
      ∷ (6, codes "p", 6, Usable)
      ∷ (7, codes "p", 7, Usable)
      ∷ (8, codes "p", 8, Usable)
      ∷ [];
  jobs = [];
  tasks = [];
  runs = [];
  moment = now;
}

-- the options of pools, their timeouts, the usual and the present one, and their errors
abbrev pub resizes_after : List Call → List (Dealloc × ℕ × ℕ × Option ResizeError)
resizes_after calls = map (λ (pool : PoolRow). (pool.option, pool.usual_timeout, pool.timeout, pool.error)) (state_after calls).pools

abbrev pub stopped_resizes : List (Dealloc × ℕ × ℕ × Option ResizeError)
stopped_resizes = (ByRequeue, 900000, 900000, Some ResizeStopped) ∷ []

-- it begins again without a new target, and with a shorter timeout
abbrev pub begun_again : List Call
begun_again = stopped ++ at 2 (Resize (codes "p") (record { dedicated = None; low = Some 0; timeout = 300000; option = RetainedData })) ∷ []

abbrev pub begun_again_resizes : List (Dealloc × ℕ × ℕ × Option ResizeError)
begun_again_resizes = (RetainedData, 900000, 300000, None) ∷ []

-- and times out
abbrev pub late_again : List Call
late_again = begun_again ++ at 300001 Tick ∷ at 300002 Tick ∷ []

abbrev pub late_again_lines : List Line
late_again_lines = stopped_lines ++ line (Status 202) [] ∷ done_line ∷ line (Status 200) (PoolResized (codes "p") TimedOut ∷ []) ∷ []

abbrev pub late_again_resizes : List (Dealloc × ℕ × ℕ × Option ResizeError)
late_again_resizes = (RetainedData, 900000, 300000, Some AllocationTimedOut) ∷ []

-- more nodes

-- from one node to three, and then to as many
abbrev pub grown : List Call
grown =
    at 0 (AddPool (pool_body (codes "p") 1))
    ∷ at 5 (Resize (codes "p") (resize_body 3 ByRequeue))
    ∷ at 6 (Resize (codes "p") (resize_body 3 ByRequeue))
    ∷ []

abbrev pub grown_lines : List Line
grown_lines =
    one_node_line
    ∷ line (Status 202) (NodeAdded (codes "p") 2 2 ∷ NodeAdded (codes "p") 3 3 ∷ PoolResized (codes "p") Reached ∷ [])
    ∷ line (Status 202) (PoolResized (codes "p") Reached ∷ [])
    ∷ []

abbrev pub grown_rows : Sheet
grown_rows = record {
  pools = (codes "p", false, Steady, 3, 6) ∷ [];
  nodes = (1, codes "p", 1, Usable) ∷ (2, codes "p", 2, Usable) ∷ (3, codes "p", 3, Usable) ∷ [];
  jobs = [];
  tasks = [];
  runs = [];
  moment = 6;
}

-- a node still leaves when the pool gets new nodes
abbrev pub grown_while_leaving : List Call
grown_while_leaving =
    at 0 (AddPool (pool_body (codes "p") 2))
    ∷ at 0 (AddJob (codes "j") (job_body (codes "p")))
    ∷ at 0 (AddTask (codes "j") (task_body (codes "t")))
    ∷ at 1 (Take 1)
    ∷ at 2 (Resize (codes "p") (resize_body 0 TaskCompletion))
    ∷ at 3 (StopResize (codes "p"))
    ∷ at 4 (Resize (codes "p") (resize_body 2 ByRequeue))
    ∷ at 5 (End 1 (Code (pos 0)))
    ∷ []

abbrev pub grown_while_leaving_lines : List Line
grown_while_leaving_lines =
    two_nodes_line
    ∷ added_line
    ∷ line (Status 201) (put_on (codes "t") 1 1 ∷ [])
    ∷ done_line
    ∷ line (Status 202) (NodeLeaves 2 ∷ NodeLeaves 1 ∷ NodeDropped 2 ∷ [])
    ∷ line (Status 202) (PoolResized (codes "p") Stopped ∷ [])
    ∷ line (Status 202) (NodeAdded (codes "p") 3 2 ∷ NodeAdded (codes "p") 4 3 ∷ [])
    ∷ line (Status 200) (TaskSettled (codes "j") (codes "t") Success ∷ NodeDropped 1 ∷ PoolResized (codes "p") Reached ∷ [])
    ∷ []

abbrev pub grown_while_leaving_rows : Sheet
grown_while_leaving_rows = record {
  pools = (codes "p", false, Steady, 2, 4) ∷ [];
  nodes = (3, codes "p", 2, Usable) ∷ (4, codes "p", 3, Usable) ∷ [];
  jobs = (codes "j", codes "p", JobActive, 0) ∷ [];
  tasks = (codes "j", codes "t", Completed, 1, 0, None, Some (ByEnding (Code (pos 0)), true, true, 5)) ∷ [];
  runs = (1, TaskRun, 1, codes "p", (Some (codes "j"), Some (codes "t"), 1), Ended (Code (pos 0)), 0, Some 1, Some 5) ∷ [];
  moment = 5;
}

-- fewer nodes

-- four nodes that hold two slots, one, one and two
abbrev pub fewest_slots : List Call
fewest_slots =
    at 0 (AddPool (slotted_pool 4 2))
    ∷ at 0 (AddJob (codes "j") (job_body (codes "p")))
    ∷ at 0 (AddTasks (codes "j") (wide_task (codes "a") 2 ∷ task_body (codes "b") ∷ task_body (codes "c") ∷ wide_task (codes "d") 2 ∷ []))
    ∷ at 1 (Resize (codes "p") (resize_body 1 TaskCompletion))
    ∷ at 2 (Take 3)
    ∷ at 3 (End 3 (Code (pos 0)))
    ∷ []

abbrev pub fewest_slots_lines : List Line
fewest_slots_lines =
    line (Status 201)
    (NodeAdded (codes "p") 1 1
    ∷ NodeAdded (codes "p") 2 2
    ∷ NodeAdded (codes "p") 3 3
    ∷ NodeAdded (codes "p") 4 4
    ∷ PoolResized (codes "p") Reached
    ∷ [])
    ∷ added_line
    ∷ line four_added (put_on (codes "a") 1 1 ∷ put_on (codes "b") 2 2 ∷ put_on (codes "c") 3 3 ∷ put_on (codes "d") 4 4 ∷ [])
    ∷ line (Status 202) (NodeLeaves 3 ∷ NodeLeaves 2 ∷ NodeLeaves 4 ∷ [])
    ∷ done_line
    ∷ line (Status 200) (TaskSettled (codes "j") (codes "c") Success ∷ NodeDropped 3 ∷ [])
    ∷ []

abbrev pub fewest_slots_rows : Sheet
fewest_slots_rows = record {
  pools = (codes "p", false, Resizing, 1, 1) ∷ [];
  nodes = (1, codes "p", 1, Usable) ∷ (2, codes "p", 2, Leaving TaskCompletion) ∷ (4, codes "p", 4, Leaving TaskCompletion) ∷ [];
  jobs = (codes "j", codes "p", JobActive, 0) ∷ [];
  tasks =
      (codes "j", codes "a", Placed, 1, 0, None, None)
      ∷ (codes "j", codes "b", Placed, 1, 0, None, None)
      ∷ (codes "j", codes "c", Completed, 1, 0, None, Some (ByEnding (Code (pos 0)), true, true, 3))
      ∷ (codes "j", codes "d", Placed, 1, 0, None, None)
      ∷ [];
  runs =
      (1, TaskRun, 1, codes "p", (Some (codes "j"), Some (codes "a"), 1), Queued, 0, None, None)
      ∷ (2, TaskRun, 2, codes "p", (Some (codes "j"), Some (codes "b"), 1), Queued, 0, None, None)
      ∷ (3, TaskRun, 3, codes "p", (Some (codes "j"), Some (codes "c"), 1), Ended (Code (pos 0)), 0, Some 2, Some 3)
      ∷ (4, TaskRun, 4, codes "p", (Some (codes "j"), Some (codes "d"), 1), Queued, 0, None, None)
      ∷ [];
  moment = 3;
}

-- of two pools one is emptied by requeue, while a task runs in the other
abbrev pub other_pool : List Call
other_pool =
    at 0 (AddPool (pool_body (codes "p") 1))
    ∷ at 0 (AddPool (pool_body (codes "q") 1))
    ∷ at 0 (AddJob (codes "j") (job_body (codes "q")))
    ∷ at 0 (AddTask (codes "j") (task_body (codes "t")))
    ∷ at 1 (Take 1)
    ∷ at 2 (Resize (codes "p") (resize_body 0 ByRequeue))
    ∷ []

abbrev pub other_pool_lines : List Line
other_pool_lines =
    one_node_line
    ∷ line (Status 201) (NodeAdded (codes "q") 2 2 ∷ PoolResized (codes "q") Reached ∷ [])
    ∷ added_line
    ∷ line (Status 201) (put_on (codes "t") 2 1 ∷ [])
    ∷ done_line
    ∷ line (Status 202) (NodeLeaves 1 ∷ NodeDropped 1 ∷ PoolResized (codes "p") Reached ∷ [])
    ∷ []

abbrev pub other_pool_rows : Sheet
other_pool_rows = record {
  pools = (codes "p", false, Steady, 0, 2) ∷ (codes "q", false, Steady, 1, 0) ∷ [];
  nodes = (2, codes "q", 2, Usable) ∷ [];
  jobs = (codes "j", codes "q", JobActive, 0) ∷ [];
  tasks = (codes "j", codes "t", Placed, 1, 0, Some 1, None) ∷ [];
  runs = (1, TaskRun, 2, codes "q", (Some (codes "j"), Some (codes "t"), 1), Taken, 0, Some 1, None) ∷ [];
  moment = 2;
}

-- refusals

-- a steady pool without a target
abbrev pub empty_pool : State
empty_pool = state_after (at 0 (AddPool (pool_body (codes "p") 0)) ∷ [])

-- the formula of a pool, which is not evaluated in the first 15 minutes
abbrev pub scale_of : List ℕ → ScaleRow
scale_of in_pool = record { pool = in_pool; formula = codes "1"; interval = 900000; next = 900000; last = None }

-- the pool scales automatically
abbrev pub with_scale : State → State
with_scale s = record s { scales = scale_of (codes "p") ∷ [] }

-- no pool, a steady, a resizing and a stopping one, two that scale automatically, and two that are being deleted
abbrev pub pool_states : List State
pool_states =
    empty_state
    ∷ empty_pool
    ∷ with_pools_in Resizing empty_pool
    ∷ with_pools_in Stopping empty_pool
    ∷ with_scale empty_pool
    ∷ with_scale (with_pools_in Resizing empty_pool)
    ∷ with_pools_deleted (with_pools_in Resizing empty_pool)
    ∷ with_pools_deleted (with_scale (with_pools_in Resizing empty_pool))
    ∷ []

-- the replies to the event
abbrev pub replies_by_pool : EventKind → List Reply
replies_by_pool event = map (λ s. reply_to s event) pool_states

abbrev pub replies_to_resize : List Reply
replies_to_resize = replies_by_pool (Resize (codes "P") (resize_body 1 ByRequeue))

abbrev pub all_to_resize : List Reply
all_to_resize =
    Refused refusal.PoolNotFound
    ∷ Status 202
    ∷ Refused refusal.PoolBeingResized
    ∷ Refused refusal.PoolBeingResized
    ∷ Refused refusal.PoolScalesAutomatically
    ∷ Refused refusal.PoolScalesAutomatically
    ∷ Refused refusal.PoolBeingDeleted
    ∷ Refused refusal.PoolBeingDeleted
    ∷ []

abbrev pub replies_to_stop : List Reply
replies_to_stop = replies_by_pool (StopResize (codes "P"))

abbrev pub all_to_stop : List Reply
all_to_stop =
    Refused refusal.PoolNotFound
    ∷ Refused refusal.PoolNotResizing
    ∷ Status 202
    ∷ Refused refusal.PoolNotResizing
    ∷ Refused refusal.PoolNotResizing
    ∷ Status 202
    ∷ Refused refusal.PoolBeingDeleted
    ∷ Refused refusal.PoolBeingDeleted
    ∷ []

abbrev pub replies_to_delete : List Reply
replies_to_delete = replies_by_pool (DeletePool (codes "P"))

abbrev pub all_to_delete : List Reply
all_to_delete =
    Refused refusal.PoolNotFound
    ∷ Status 202
    ∷ Status 202
    ∷ Status 202
    ∷ Status 202
    ∷ Status 202
    ∷ Refused refusal.PoolBeingDeleted
    ∷ Refused refusal.PoolBeingDeleted
    ∷ []
