-- Slots of nodes and the fill types of pools.
use Rattle.std.specs.Prelude.{ℕ, List, [], ◌∷◌, map, replicate, Some, None, pos, codes, true, false}
use Rattle.bt_rows.specs.declared.event.EventKind.{EventKind}
use Rattle.bt_rows.specs.declared.event.EventKind.TheVariants.{AddPool, AddJob, AddTask, AddTasks, Take, End}
use Rattle.bt_rows.specs.declared.event.PoolSpec.{PoolSpec}
use Rattle.bt_rows.specs.declared.event.TaskSpec.{TaskSpec}
use Rattle.bt_rows.specs.declared.reply.Element.TheVariants.{Added}
use Rattle.bt_rows.specs.declared.reply.Reply.{Reply}
use Rattle.bt_rows.specs.declared.reply.Reply.TheVariants.{Status, Elements}
use Rattle.bt_rows.specs.declared.due.Outcome.TheVariants.{Success}
use Rattle.bt_rows.specs.declared.due.ResizeEnd.TheVariants.{Reached}
use Rattle.bt_rows.specs.declared.due.Due.{Due}
use Rattle.bt_rows.specs.declared.due.Due.TheVariants.{TaskSettled, PoolResized, NodeAdded, TaskPlaced}
use Rattle.batch_model.specs.Variants.{State, Steady, Usable, JobActive, TaskStage, Active, Placed, Completed, TaskRow, ByEnding, Code, TaskRun, Queued, Ended}
use Rattle.batch_model.specs.Variants.{Pack}
use Rattle.batch_model.specs.Slots.{held_slots}
use Rattle.model_scripts.specs.Scripts.{Call, at, Line, line, Sheet}
use Rattle.model_scripts.specs.ByHand.{placed_task, with_runs_in, run_states}
use Rattle.model_scripts.specs.Bodies.{pool_body, job_body, task_body}

-- a pool of so many nodes, each of so many slots, which are spread over
abbrev pub slotted_pool : ℕ → ℕ → PoolSpec
slotted_pool target each = record (pool_body (codes "p") target) { slots = each }

-- the same, but packed
abbrev pub packed_pool : ℕ → ℕ → PoolSpec
packed_pool target each = record (slotted_pool target each) { fill = Pack }

-- a task of so many slots
abbrev pub wide_task : List ℕ → ℕ → TaskSpec
wide_task name each = record (task_body name) { slots = each }

-- the tasks, added at once to the job
abbrev pub add_to_job : List TaskSpec → EventKind
add_to_job specs = AddTasks (codes "j") specs

-- both of a pool's two nodes are added
abbrev pub two_nodes_line : Line
two_nodes_line = line (Status 201) (NodeAdded (codes "p") 1 1 ∷ NodeAdded (codes "p") 2 2 ∷ PoolResized (codes "p") Reached ∷ [])

-- a pool's one node is added
abbrev pub one_node_line : Line
one_node_line = line (Status 201) (NodeAdded (codes "p") 1 1 ∷ PoolResized (codes "p") Reached ∷ [])

-- the tasks a, b, c and d were added
abbrev pub four_added : Reply
four_added = Elements (Added (codes "a") ∷ Added (codes "b") ∷ Added (codes "c") ∷ Added (codes "d") ∷ [])

-- a task of the job is placed on the node, by the run
abbrev pub put_on : List ℕ → ℕ → ℕ → Due
put_on task node run = TaskPlaced (codes "j") task node run

-- three tasks of one slot and, as the third, one of two
abbrev pub four_tasks : EventKind
four_tasks = add_to_job (task_body (codes "a") ∷ task_body (codes "b") ∷ wide_task (codes "c") 2 ∷ task_body (codes "d") ∷ [])

-- they are spread over two nodes of two slots
abbrev pub spread : List Call
spread =
    at 0 (AddPool (slotted_pool 2 2))
    ∷ at 0 (AddJob (codes "j") (job_body (codes "p")))
    ∷ at 0 four_tasks
    ∷ []

abbrev pub spread_lines : List Line
spread_lines =
    two_nodes_line
    ∷ line (Status 201) []
    ∷ line four_added (put_on (codes "a") 1 1 ∷ put_on (codes "b") 2 2 ∷ put_on (codes "d") 1 3 ∷ [])
    ∷ []

abbrev pub spread_rows : Sheet
spread_rows = record {
  pools = (codes "p", false, Steady, 2, 0) ∷ [];
  nodes = (1, codes "p", 1, Usable) ∷ (2, codes "p", 2, Usable) ∷ [];
  jobs = (codes "j", codes "p", JobActive, 0) ∷ [];
  tasks =
      (codes "j", codes "a", Placed, 1, 0, None, None)
      ∷ (codes "j", codes "b", Placed, 1, 0, None, None)
      ∷ (codes "j", codes "c", Active, 0, 0, None, None)
      ∷ (codes "j", codes "d", Placed, 1, 0, None, None)
      ∷ [];
  runs =
      (1, TaskRun, 1, codes "p", (Some (codes "j"), Some (codes "a"), 1), Queued, 0, None, None)
      ∷ (2, TaskRun, 2, codes "p", (Some (codes "j"), Some (codes "b"), 1), Queued, 0, None, None)
      ∷ (3, TaskRun, 1, codes "p", (Some (codes "j"), Some (codes "d"), 1), Queued, 0, None, None)
      ∷ [];
  moment = 0;
}

abbrev pub spread_held : List ℕ
spread_held = 2 ∷ 1 ∷ []

-- they are packed on them
abbrev pub pack : List Call
pack =
    at 0 (AddPool (packed_pool 2 2))
    ∷ at 0 (AddJob (codes "j") (job_body (codes "p")))
    ∷ at 0 four_tasks
    ∷ []

abbrev pub pack_lines : List Line
pack_lines =
    two_nodes_line
    ∷ line (Status 201) []
    ∷ line four_added (put_on (codes "a") 1 1 ∷ put_on (codes "b") 1 2 ∷ put_on (codes "c") 2 3 ∷ [])
    ∷ []

abbrev pub pack_rows : Sheet
pack_rows = record {
  pools = (codes "p", false, Steady, 2, 0) ∷ [];
  nodes = (1, codes "p", 1, Usable) ∷ (2, codes "p", 2, Usable) ∷ [];
  jobs = (codes "j", codes "p", JobActive, 0) ∷ [];
  tasks =
      (codes "j", codes "a", Placed, 1, 0, None, None)
      ∷ (codes "j", codes "b", Placed, 1, 0, None, None)
      ∷ (codes "j", codes "c", Placed, 1, 0, None, None)
      ∷ (codes "j", codes "d", Active, 0, 0, None, None)
      ∷ [];
  runs =
      (1, TaskRun, 1, codes "p", (Some (codes "j"), Some (codes "a"), 1), Queued, 0, None, None)
      ∷ (2, TaskRun, 1, codes "p", (Some (codes "j"), Some (codes "b"), 1), Queued, 0, None, None)
      ∷ (3, TaskRun, 2, codes "p", (Some (codes "j"), Some (codes "c"), 1), Queued, 0, None, None)
      ∷ [];
  moment = 0;
}

abbrev pub pack_held : List ℕ
pack_held = 2 ∷ 2 ∷ []

-- tasks of two, three, one and one slots, on two nodes of four: when the third comes, the second node is the fuller one
abbrev pub uneven_tasks : EventKind
uneven_tasks = add_to_job (wide_task (codes "a") 2 ∷ wide_task (codes "b") 3 ∷ task_body (codes "c") ∷ task_body (codes "d") ∷ [])

abbrev pub fuller : List Call
fuller =
    at 0 (AddPool (packed_pool 2 4))
    ∷ at 0 (AddJob (codes "j") (job_body (codes "p")))
    ∷ at 0 uneven_tasks
    ∷ []

abbrev pub fuller_lines : List Line
fuller_lines =
    two_nodes_line
    ∷ line (Status 201) []
    ∷ line four_added (put_on (codes "a") 1 1 ∷ put_on (codes "b") 2 2 ∷ put_on (codes "c") 2 3 ∷ put_on (codes "d") 1 4 ∷ [])
    ∷ []

abbrev pub fuller_held : List ℕ
fuller_held = 3 ∷ 4 ∷ []

-- the same, spread over them
abbrev pub emptier : List Call
emptier =
    at 0 (AddPool (slotted_pool 2 4))
    ∷ at 0 (AddJob (codes "j") (job_body (codes "p")))
    ∷ at 0 uneven_tasks
    ∷ []

abbrev pub emptier_lines : List Line
emptier_lines =
    two_nodes_line
    ∷ line (Status 201) []
    ∷ line four_added (put_on (codes "a") 1 1 ∷ put_on (codes "b") 2 2 ∷ put_on (codes "c") 1 3 ∷ put_on (codes "d") 1 4 ∷ [])
    ∷ []

abbrev pub emptier_held : List ℕ
emptier_held = 4 ∷ 3 ∷ []

-- when the third task is packed, both nodes hold three slots
abbrev pub equally_full : List Call
equally_full =
    at 0 (AddPool (packed_pool 2 4))
    ∷ at 0 (AddJob (codes "j") (job_body (codes "p")))
    ∷ at 0 (add_to_job (wide_task (codes "a") 3 ∷ wide_task (codes "b") 3 ∷ task_body (codes "c") ∷ task_body (codes "d") ∷ []))
    ∷ []

abbrev pub equally_full_lines : List Line
equally_full_lines =
    two_nodes_line
    ∷ line (Status 201) []
    ∷ line four_added (put_on (codes "a") 1 1 ∷ put_on (codes "b") 2 2 ∷ put_on (codes "c") 1 3 ∷ put_on (codes "d") 2 4 ∷ [])
    ∷ []

abbrev pub equally_full_held : List ℕ
equally_full_held = 4 ∷ 4 ∷ []

-- a task of one slot, one of two and one of one, on one node of two slots; then the other two end
abbrev pub passed_over : List Call
passed_over =
    at 0 (AddPool (slotted_pool 1 2))
    ∷ at 0 (AddJob (codes "j") (job_body (codes "p")))
    ∷ at 0 (add_to_job (task_body (codes "a") ∷ wide_task (codes "b") 2 ∷ task_body (codes "c") ∷ []))
    ∷ at 1 (Take 1)
    ∷ at 1 (Take 2)
    ∷ at 2 (End 1 (Code (pos 0)))
    ∷ at 3 (End 2 (Code (pos 0)))
    ∷ []

abbrev pub passed_over_lines : List Line
passed_over_lines =
    one_node_line
    ∷ line (Status 201) []
    ∷ line (Elements (Added (codes "a") ∷ Added (codes "b") ∷ Added (codes "c") ∷ [])) (put_on (codes "a") 1 1 ∷ put_on (codes "c") 1 2 ∷ [])
    ∷ line (Status 200) []
    ∷ line (Status 200) []
    ∷ line (Status 200) (TaskSettled (codes "j") (codes "a") Success ∷ [])
    ∷ line (Status 200) (TaskSettled (codes "j") (codes "c") Success ∷ put_on (codes "b") 1 3 ∷ [])
    ∷ []

abbrev pub passed_over_rows : Sheet
passed_over_rows = record {
  pools = (codes "p", false, Steady, 1, 0) ∷ [];
  nodes = (1, codes "p", 1, Usable) ∷ [];
  jobs = (codes "j", codes "p", JobActive, 0) ∷ [];
  tasks =
      (codes "j", codes "a", Completed, 1, 0, None, Some (ByEnding (Code (pos 0)), true, true, 2))
      ∷ (codes "j", codes "b", Placed, 1, 0, None, None)
      ∷ (codes "j", codes "c", Completed, 1, 0, None, Some (ByEnding (Code (pos 0)), true, true, 3))
      ∷ [];
  runs =
      (1, TaskRun, 1, codes "p", (Some (codes "j"), Some (codes "a"), 1), Ended (Code (pos 0)), 0, Some 1, Some 2)
      ∷ (2, TaskRun, 1, codes "p", (Some (codes "j"), Some (codes "c"), 1), Ended (Code (pos 0)), 0, Some 1, Some 3)
      ∷ (3, TaskRun, 1, codes "p", (Some (codes "j"), Some (codes "b"), 1), Queued, 3, None, None)
      ∷ [];
  moment = 3;
}

abbrev pub passed_over_held : List ℕ
passed_over_held = 2 ∷ []

-- in pools of one-slot nodes a task of two slots fits nowhere, and the task of a later job goes before it
abbrev pub too_wide : List Call
too_wide =
    at 0 (AddPool (pool_body (codes "p") 2))
    ∷ at 0 (AddJob (codes "j") (job_body (codes "p")))
    ∷ at 0 (AddJob (codes "k") (job_body (codes "p")))
    ∷ at 0 (AddTask (codes "j") (wide_task (codes "a") 2))
    ∷ at 0 (AddTask (codes "k") (task_body (codes "b")))
    ∷ []

abbrev pub too_wide_lines : List Line
too_wide_lines =
    two_nodes_line
    ∷ line (Status 201) []
    ∷ line (Status 201) []
    ∷ line (Status 201) []
    ∷ line (Status 201) (TaskPlaced (codes "k") (codes "b") 1 1 ∷ [])
    ∷ []

abbrev pub too_wide_held : List ℕ
too_wide_held = 1 ∷ 0 ∷ []

-- what holds slots: a task is placed on node 1 in its first attempt

-- however far its run is
abbrev pub held_by_run_state : List ℕ
held_by_run_state = map (λ one. held_slots (with_runs_in one placed_task) 1) run_states

abbrev pub all_held : List ℕ
all_held = replicate 5 1

-- the tasks in this stage and attempt
abbrev pub with_tasks_in : TaskStage → ℕ → State → State
with_tasks_in one n s = record s { tasks = map (λ (task : TaskRow). record task { stage = one; attempt = n }) s.tasks }

-- not on another node, of a task that is active again, of one that is completed, and of an earlier attempt
abbrev pub not_held : List ℕ
not_held =
    held_slots placed_task 2
    ∷ held_slots (with_tasks_in Active 1 placed_task) 1
    ∷ held_slots (with_tasks_in Completed 1 placed_task) 1
    ∷ held_slots (with_tasks_in Placed 2 placed_task) 1
    ∷ []

abbrev pub none_held : List ℕ
none_held = replicate 4 0
