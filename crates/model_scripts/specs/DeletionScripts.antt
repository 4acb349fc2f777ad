-- Pools that are deleted.
use Rattle.std.specs.Prelude.{ℕ, true, false, List, [], ◌∷◌, ◌++◌, map, codes, Some, None, pos}
use Rattle.bt_rows.specs.declared.event.EventKind.TheVariants.{AddPool, DeletePool, Resize, StopResize, AddJob, AddTask, Take, End, Tick}
use Rattle.bt_rows.specs.declared.reply.Reply.TheVariants.{Status, Refused}
use Rattle.bt_rows.specs.declared.refusal.Refusal.TheVariants as refusal
use Rattle.bt_rows.specs.declared.due.Outcome.TheVariants.{Again}
use Rattle.bt_rows.specs.declared.due.ResizeEnd.TheVariants.{Removed, Reached}
use Rattle.bt_rows.specs.declared.due.Due.TheVariants.{TaskSettled, PoolResized, NodeLeaves, NodeDropped, NodeAdded}
use Rattle.batch_model.specs.Variants.{State, empty_state, Steady, Resizing, Dealloc, ByRequeue, TaskCompletion, PoolRow, Usable, Leaving, JobActive, Active, Placed, WantRequeue}
use Rattle.batch_model.specs.Variants.{Code, TaskRun, Queued, Taken, Ended, Withdrawn, RunRow, ActiveTasks, SampleRow, ScaleRow}
use Rattle.model_scripts.specs.Scripts.{Call, at, Line, line, Sheet, seat_count, state_after, run}
use Rattle.model_scripts.specs.Bodies.{pool_body, resize_body, job_body, task_body}
use Rattle.model_scripts.specs.StartScripts.{start_pool, one_node_line, added_line, done_line}
use Rattle.model_scripts.specs.SlotScripts.{two_nodes_line, put_on}
use Rattle.model_scripts.specs.LeavingScripts.{Marks}
use Rattle.model_scripts.specs.ResizeScripts.{scale_of}

-- a task runs in a pool of two nodes, which is deleted
abbrev pub being_deleted : List Call
being_deleted =
    at 0 (AddPool (pool_body (codes "p") 2))
    ∷ at 0 (AddJob (codes "j") (job_body (codes "p")))
    ∷ at 0 (AddTask (codes "j") (task_body (codes "t")))
    ∷ at 1 (Take 1)
    ∷ at 2 (DeletePool (codes "p"))
    ∷ []

abbrev pub being_deleted_lines : List Line
being_deleted_lines =
    two_nodes_line
    ∷ added_line
    ∷ line (Status 201) (put_on (codes "t") 1 1 ∷ [])
    ∷ done_line
    ∷ line (Status 202) (NodeLeaves 2 ∷ NodeLeaves 1 ∷ NodeDropped 2 ∷ [])
    ∷ []

-- when it began to resize stays
abbrev pub being_deleted_rows : Sheet
being_deleted_rows = record {
  pools = (codes "p", true, Resizing, 0, 0) ∷ [];
  nodes = (1, codes "p", 1, Leaving ByRequeue) ∷ [];
  jobs = (codes "j", codes "p", JobActive, 0) ∷ [];
  tasks = (codes "j", codes "t", Placed, 1, 0, Some 1, None) ∷ [];
  runs = (1, TaskRun, 1, codes "p", (Some (codes "j"), Some (codes "t"), 1), Taken, 0, Some 1, None) ∷ [];
  moment = 2;
}

-- events that it refuses, and the end of the task's run, with which the pool goes
abbrev pub deleted : List Call
deleted =
    being_deleted
    ++ at 3 (DeletePool (codes "P"))
    ∷ at 3 (Resize (codes "p") (resize_body 1 ByRequeue))
    ∷ at 3 (StopResize (codes "p"))
    ∷ at 3 (AddJob (codes "k") (job_body (codes "p")))
    ∷ at 3 (AddPool (pool_body (codes "p") 1))
    ∷ at 4 (End 1 (Code (pos 0)))
    ∷ at 5 (AddJob (codes "k") (job_body (codes "p")))
    ∷ []

abbrev pub deleted_lines : List Line
deleted_lines =
    being_deleted_lines
    ++ line (Refused refusal.PoolBeingDeleted) []
    ∷ line (Refused refusal.PoolBeingDeleted) []
    ∷ line (Refused refusal.PoolBeingDeleted) []
    ∷ line (Refused refusal.PoolBeingDeleted) []
    ∷ line (Refused refusal.PoolExists) []
    ∷ line (Status 200) (TaskSettled (codes "j") (codes "t") (Again 0) ∷ NodeDropped 1 ∷ PoolResized (codes "p") Removed ∷ [])
    ∷ line (Refused refusal.PoolNotFound) []
    ∷ []

-- no pool is left, and this run of the task; the moment
abbrev pub deleted_rows : Sheet
deleted_rows = record {
  pools = [];
  nodes = [];
  jobs = (codes "j", codes "p", JobActive, 0) ∷ [];
  tasks = (codes "j", codes "t", Active, 1, 0, None, None) ∷ [];
  runs = (1, TaskRun, 1, codes "p", (Some (codes "j"), Some (codes "t"), 1), Ended (Code (pos 0)), 0, Some 1, Some 4) ∷ [];
  moment = 5;
}

-- a pool without nodes goes at once
abbrev pub empty_deleted : List Call
empty_deleted =
    at 0 (AddPool (pool_body (codes "p") 0))
    ∷ at 1 (DeletePool (codes "p"))
    ∷ at 2 (DeletePool (codes "p"))
    ∷ []

abbrev pub empty_deleted_lines : List Line
empty_deleted_lines =
    added_line
    ∷ line (Status 202) (PoolResized (codes "p") Removed ∷ [])
    ∷ line (Refused refusal.PoolNotFound) []
    ∷ []

-- deleted while nodes leave

-- the nodes leave as their tasks end when the pool is deleted
abbrev pub deleted_while_leaving : List Call
deleted_while_leaving =
    at 0 (AddPool (pool_body (codes "p") 2))
    ∷ at 0 (AddJob (codes "j") (job_body (codes "p")))
    ∷ at 0 (AddTask (codes "j") (task_body (codes "t")))
    ∷ at 1 (Take 1)
    ∷ at 2 (Resize (codes "p") (resize_body 0 TaskCompletion))
    ∷ at 3 (DeletePool (codes "p"))
    ∷ []

-- the task's node leaves by requeue from then on
abbrev pub deleted_while_leaving_marks : Marks
deleted_while_leaving_marks = record {
  nodes = (1, Leaving ByRequeue) ∷ [];
  tasks = Some WantRequeue ∷ [];
  runs = (1, Taken, true) ∷ [];
  preps = [];
}

-- the options and timeouts of pools
abbrev pub options_after : List Call → List (Dealloc × ℕ)
options_after calls = map (λ (pool : PoolRow). (pool.option, pool.timeout)) (state_after calls).pools

abbrev pub requeue_option : List (Dealloc × ℕ)
requeue_option = (ByRequeue, 900000) ∷ []

-- its timeout does not count any more, and the pool goes with the task's run
abbrev pub deleted_then_ended : List Call
deleted_then_ended = deleted_while_leaving ++ at 900002 Tick ∷ at 900003 (End 1 (Code (pos 0))) ∷ []

abbrev pub deleted_then_ended_lines : List Line
deleted_then_ended_lines =
    two_nodes_line
    ∷ added_line
    ∷ line (Status 201) (put_on (codes "t") 1 1 ∷ [])
    ∷ done_line
    ∷ line (Status 202) (NodeLeaves 2 ∷ NodeLeaves 1 ∷ NodeDropped 2 ∷ [])
    ∷ line (Status 202) []
    ∷ done_line
    ∷ line (Status 200) (TaskSettled (codes "j") (codes "t") (Again 0) ∷ NodeDropped 1 ∷ PoolResized (codes "p") Removed ∷ [])
    ∷ []

-- the id is used again

-- the job of the first pool has its task in the second one, whose id is the same but for case
abbrev pub added_again : List Call
added_again =
    at 0 (AddPool (pool_body (codes "p") 1))
    ∷ at 0 (AddJob (codes "j") (job_body (codes "p")))
    ∷ at 0 (AddTask (codes "j") (task_body (codes "t")))
    ∷ at 1 (DeletePool (codes "p"))
    ∷ at 2 (AddPool (pool_body (codes "P") 1))
    ∷ []

abbrev pub added_again_lines : List Line
added_again_lines =
    one_node_line
    ∷ added_line
    ∷ line (Status 201) (put_on (codes "t") 1 1 ∷ [])
    ∷ line (Status 202) (NodeLeaves 1 ∷ TaskSettled (codes "j") (codes "t") (Again 0) ∷ NodeDropped 1 ∷ PoolResized (codes "p") Removed ∷ [])
    ∷ line (Status 201) (NodeAdded (codes "P") 2 1 ∷ PoolResized (codes "P") Reached ∷ put_on (codes "t") 2 2 ∷ [])
    ∷ []

abbrev pub added_again_rows : Sheet
added_again_rows = record {
  pools = (codes "P", false, Steady, 1, 2) ∷ [];
  nodes = (2, codes "P", 1, Usable) ∷ [];
  jobs = (codes "j", codes "p", JobActive, 0) ∷ [];
  tasks = (codes "j", codes "t", Placed, 2, 0, None, None) ∷ [];
  runs =
      (1, TaskRun, 1, codes "p", (Some (codes "j"), Some (codes "t"), 1), Withdrawn, 0, None, Some 1)
      ∷ (2, TaskRun, 2, codes "P", (Some (codes "j"), Some (codes "t"), 2), Queued, 2, None, None)
      ∷ [];
  moment = 2;
}

-- what goes with a pool

-- a sample of the pool, after which no more are taken in the first half minute
abbrev pub sample_of : List ℕ → SampleRow
sample_of in_pool = record { pool = in_pool; metric = ActiveTasks; label = 0; value = pos 0 }

-- a formula and a sample of each of two pools
abbrev pub with_rows : State
with_rows = record empty_state {
  scales = scale_of (codes "p") ∷ scale_of (codes "q") ∷ [];
  samples = sample_of (codes "p") ∷ sample_of (codes "q") ∷ [];
}

-- the two pools, each with a start run that runs
abbrev pub two_starts : List Call
two_starts =
    at 0 (AddPool (start_pool 1 (pos 0) true))
    ∷ at 0 (AddPool (record (start_pool 1 (pos 0) true) { id = codes "q" }))
    ∷ at 0 (Take 1)
    ∷ at 0 (Take 2)
    ∷ []

-- the tables after these and other calls
abbrev pub after_starts : List Call → State
after_starts calls = (run seat_count (two_starts ++ calls) with_rows).state

-- the pools of rows
pub record PoolsOfRows : Type 0 where
  pub pools : List (List ℕ)
  pub starts : List (List ℕ)
  pub scales : List (List ℕ)
  pub samples : List (List ℕ)

abbrev pub pools_of : State → PoolsOfRows
pools_of s = record {
  pools = map (λ (pool : PoolRow). pool.id) s.pools;
  starts = map (λ (run : RunRow). run.pool) s.runs;
  scales = map (λ (scale : ScaleRow). scale.pool) s.scales;
  samples = map (λ (sample : SampleRow). sample.pool) s.samples;
}

-- the pools after calls
abbrev pub pools_after : List Call → PoolsOfRows
pools_after calls = pools_of (after_starts calls)

-- the first pool is deleted
abbrev pub first_deleted : List Call
first_deleted = at 1 (DeletePool (codes "p")) ∷ []

-- its formula goes at once
abbrev pub deleting_pools : PoolsOfRows
deleting_pools = record {
  pools = codes "p" ∷ codes "q" ∷ [];
  starts = codes "p" ∷ codes "q" ∷ [];
  scales = codes "q" ∷ [];
  samples = codes "p" ∷ codes "q" ∷ [];
}

-- its start run ends
abbrev pub first_removed : List Call
first_removed = first_deleted ++ at 2 (End 1 (Code (pos 0))) ∷ []

-- and with it the pool goes, with its run and its sample
abbrev pub removed_pools : PoolsOfRows
removed_pools = record {
  pools = codes "q" ∷ [];
  starts = codes "q" ∷ [];
  scales = codes "q" ∷ [];
  samples = codes "q" ∷ [];
}

-- opened tables

-- a task runs in a pool that is being deleted, and in one whose node leaves as the task ends
abbrev pub leaving_both : List Call
leaving_both =
    at 0 (AddPool (pool_body (codes "p") 1))
    ∷ at 0 (AddPool (pool_body (codes "q") 1))
    ∷ at 0 (AddJob (codes "j") (job_body (codes "p")))
    ∷ at 0 (AddJob (codes "k") (job_body (codes "q")))
    ∷ at 0 (AddTask (codes "j") (task_body (codes "t")))
    ∷ at 0 (AddTask (codes "k") (task_body (codes "u")))
    ∷ at 1 (Take 1)
    ∷ at 1 (Take 2)
    ∷ at 2 (DeletePool (codes "p"))
    ∷ at 3 (Resize (codes "q") (resize_body 0 TaskCompletion))
    ∷ []

abbrev pub after_leaving_both : List Call
after_leaving_both = at 4 Tick ∷ []

abbrev pub after_leaving_both_lines : List Line
after_leaving_both_lines =
    line (Status 200)
    (TaskSettled (codes "j") (codes "t") (Again 0)
    ∷ TaskSettled (codes "k") (codes "u") (Again 0)
    ∷ PoolResized (codes "p") Removed
    ∷ PoolResized (codes "q") Reached
    ∷ [])
    ∷ []

abbrev pub after_leaving_both_rows : Sheet
after_leaving_both_rows = record {
  pools = (codes "q", false, Steady, 0, 3) ∷ [];
  nodes = [];
  jobs = (codes "j", codes "p", JobActive, 0) ∷ (codes "k", codes "q", JobActive, 0) ∷ [];
  tasks =
      (codes "j", codes "t", Active, 1, 0, None, None)
      ∷ (codes "k", codes "u", Active, 1, 0, None, None)
      ∷ [];
  runs =
      (1, TaskRun, 1, codes "p", (Some (codes "j"), Some (codes "t"), 1), Withdrawn, 0, Some 1, Some 3)
      ∷ (2, TaskRun, 2, codes "q", (Some (codes "k"), Some (codes "u"), 1), Withdrawn, 0, Some 1, Some 3)
      ∷ [];
  moment = 4;
}
