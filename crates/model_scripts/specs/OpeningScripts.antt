-- Tables that an earlier run left, and what comes of them once they are opened.
use Rattle.std.specs.Prelude.{ℕ, Bool, true, false, List, [], ◌∷◌, map, codes, pos, Option, Some, None}
use Rattle.bt_rows.specs.declared.event.EventKind.TheVariants.{AddPool, AddJob, AddTask, Take, End, Tick}
use Rattle.bt_rows.specs.declared.reply.Reply.TheVariants.{Status, Refused}
use Rattle.bt_rows.specs.declared.refusal.Refusal.TheVariants as refusal
use Rattle.bt_rows.specs.declared.due.Outcome.TheVariants.{Success, Again}
use Rattle.bt_rows.specs.declared.due.ResizeEnd.TheVariants.{Reached}
use Rattle.bt_rows.specs.declared.due.Due.TheVariants.{TaskSettled, PoolResized, NodeAdded, TaskPlaced}
use Rattle.batch_model.specs.Variants.{State, empty_state, Alloc, Steady, Resizing, Stopping, ResizeError, AllocationTimedOut, ResizeStopped, PoolRow, Starting}
use Rattle.batch_model.specs.Variants.{Usable, JobActive, Placed, Code, Want, WantRequeue, WantTerminate, TaskRow, StartRun, TaskRun, Queued, Ended, Withdrawn}
use Rattle.batch_model.specs.Pools.{new_pool}
use Rattle.batch_model.specs.Events.{event_step}
use Rattle.batch_model.specs.Opening.{opening}
use Rattle.model_scripts.specs.Scripts.{Call, at, Line, line, Sheet, state_after, seat_count, run}
use Rattle.model_scripts.specs.StartScripts.{start_pool}
use Rattle.model_scripts.specs.Bodies.{pool_body, job_body, task_body}

-- a run is taken
abbrev pub taken : List Call
taken =
    at 0 (AddPool (pool_body (codes "p") 1))
    ∷ at 0 (AddJob (codes "j") (job_body (codes "p")))
    ∷ at 0 (AddTask (codes "j") (task_body (codes "t")))
    ∷ at 5 (Take 1)
    ∷ []

-- a tick, and then the end of the run that was taken before
abbrev pub after_taken : List Call
after_taken = at 20 Tick ∷ at 21 (End 1 (Code (pos 0))) ∷ []

abbrev pub after_taken_lines : List Line
after_taken_lines =
    line (Status 200)
    (TaskSettled (codes "j") (codes "t") (Again 0)
    ∷ NodeAdded (codes "p") 2 1
    ∷ PoolResized (codes "p") Reached
    ∷ TaskPlaced (codes "j") (codes "t") 2 2
    ∷ [])
    ∷ line (Refused refusal.RunWithdrawn) []
    ∷ []

abbrev pub after_taken_rows : Sheet
after_taken_rows = record {
  pools = (codes "p", false, Steady, 1, 5) ∷ [];
  nodes = (2, codes "p", 1, Usable) ∷ [];
  jobs = (codes "j", codes "p", JobActive, 0) ∷ [];
  tasks = (codes "j", codes "t", Placed, 2, 0, None, None) ∷ [];
  runs =
      (1, TaskRun, 1, codes "p", (Some (codes "j"), Some (codes "t"), 1), Withdrawn, 0, Some 5, Some 5)
      ∷ (2, TaskRun, 2, codes "p", (Some (codes "j"), Some (codes "t"), 2), Queued, 20, None, None)
      ∷ [];
  moment = 21;
}

-- the opened tables themselves
abbrev pub opened_rows : Sheet
opened_rows = record {
  pools = (codes "p", false, Resizing, 1, 5) ∷ [];
  nodes = [];
  jobs = (codes "j", codes "p", JobActive, 0) ∷ [];
  tasks = (codes "j", codes "t", Placed, 1, 0, Some 5, None) ∷ [];
  runs = (1, TaskRun, 1, codes "p", (Some (codes "j"), Some (codes "t"), 1), Withdrawn, 0, Some 5, Some 5) ∷ [];
  moment = 5;
}

-- the run has ended, and its task is not settled yet
abbrev pub unsettled : State
unsettled = (event_step 9 (End 1 (Code (pos 0))) (state_after taken)).state

-- the lines of calls from its opening
abbrev pub lines_of_unsettled : List Call → List Line
lines_of_unsettled calls = (run seat_count calls (opening unsettled)).lines

abbrev pub one_tick : List Call
one_tick = at 20 Tick ∷ []

abbrev pub settled_lines : List Line
settled_lines =
    line (Status 200)
    (TaskSettled (codes "j") (codes "t") Success
    ∷ NodeAdded (codes "p") 2 1
    ∷ PoolResized (codes "p") Reached
    ∷ [])
    ∷ []

-- tasks

-- each task with this wanted end
abbrev pub with_wanted : Option Want → State → State
with_wanted want s = record s { tasks = map (λ (task : TaskRow). record task { wanted = want }) s.tasks }

abbrev pub wanted_in : State → List (Option Want)
wanted_in s = map (λ (task : TaskRow). task.wanted) s.tasks

-- a task that was cut short, one that has another end, and one whose main run has ended
abbrev pub wanted_opened : List (List (Option Want))
wanted_opened =
    wanted_in (opening (state_after taken))
    ∷ wanted_in (opening (with_wanted (Some WantTerminate) (state_after taken)))
    ∷ wanted_in (opening unsettled)
    ∷ []

abbrev pub all_wanted : List (List (Option Want))
all_wanted = (Some WantRequeue ∷ []) ∷ (Some WantTerminate ∷ []) ∷ (None ∷ []) ∷ []

-- pools

-- deleting, allocation, target, the timeout now, and the error
abbrev pub left_pool : Bool → Alloc → ℕ → ℕ → Option ResizeError → PoolRow
left_pool deleted at_alloc target now_timeout why = record (new_pool 3 (pool_body (codes "p") target)) {
  deleting = deleted;
  alloc = at_alloc;
  timeout = now_timeout;
  error = why;
}

-- steady and stopping ones with a target and without one, and one that is being deleted
abbrev pub left_pools : State
left_pools = record empty_state {
  pools =
      left_pool false Steady 2 300000 (Some AllocationTimedOut)
      ∷ left_pool false Stopping 2 300000 (Some ResizeStopped)
      ∷ left_pool false Steady 0 300000 (Some ResizeStopped)
      ∷ left_pool false Stopping 0 300000 (Some ResizeStopped)
      ∷ left_pool true Resizing 0 300000 None
      ∷ [];
  moment = 8;
}

-- allocation, the beginning of the resize, the timeout now, and the error
abbrev pub resize_row : PoolRow → Alloc × ℕ × ℕ × Option ResizeError
resize_row pool = (pool.alloc, pool.began, pool.timeout, pool.error)

abbrev pub pools_opened : List (Alloc × ℕ × ℕ × Option ResizeError)
pools_opened = map resize_row (opening left_pools).pools

abbrev pub all_pools : List (Alloc × ℕ × ℕ × Option ResizeError)
all_pools =
    (Resizing, 8, 900000, None)
    ∷ (Resizing, 8, 900000, None)
    ∷ (Steady, 3, 300000, Some ResizeStopped)
    ∷ (Steady, 3, 300000, Some ResizeStopped)
    ∷ (Resizing, 3, 300000, None)
    ∷ []

-- empty tables

abbrev pub empty_opened : State
empty_opened = opening empty_state

-- start tasks

-- a start run is taken, and another one has made its node usable
abbrev pub starting : List Call
starting =
    at 0 (AddPool (start_pool 2 (pos 3) true))
    ∷ at 1 (Take 1)
    ∷ at 2 (Take 2)
    ∷ at 3 (End 2 (Code (pos 0)))
    ∷ []

-- the nodes begin anew, and the run that was taken can't be ended any more
abbrev pub after_starting : List Call
after_starting = at 5 Tick ∷ at 6 (End 1 (Code (pos 0))) ∷ at 7 (Take 3) ∷ at 8 (End 3 (Code (pos 0))) ∷ []

abbrev pub after_starting_lines : List Line
after_starting_lines =
    line (Status 200) (NodeAdded (codes "p") 3 1 ∷ NodeAdded (codes "p") 4 2 ∷ PoolResized (codes "p") Reached ∷ [])
    ∷ line (Refused refusal.RunWithdrawn) []
    ∷ line (Status 200) []
    ∷ line (Status 200) []
    ∷ []

abbrev pub after_starting_rows : Sheet
after_starting_rows = record {
  pools = (codes "p", false, Steady, 2, 3) ∷ [];
  nodes = (3, codes "p", 1, Usable) ∷ (4, codes "p", 2, Starting) ∷ [];
  jobs = [];
  tasks = [];
  runs =
      (1, StartRun, 1, codes "p", (None, None, 0), Withdrawn, 0, Some 1, Some 3)
      ∷ (2, StartRun, 2, codes "p", (None, None, 0), Ended (Code (pos 0)), 0, Some 2, Some 3)
      ∷ (3, StartRun, 3, codes "p", (None, None, 0), Ended (Code (pos 0)), 5, Some 7, Some 8)
      ∷ (4, StartRun, 4, codes "p", (None, None, 0), Queued, 5, None, None)
      ∷ [];
  moment = 8;
}
