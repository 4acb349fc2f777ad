-- What is not built yet.
use Rattle.std.specs.Prelude.{List, [], ◌∷◌, Some, None, codes, false}
use Rattle.bt_rows.specs.declared.event.EventKind.TheVariants.{AddPool, AddJob}
use Rattle.bt_rows.specs.declared.event.EventKind.TheVariants.{AddTask, AddTasks}
use Rattle.bt_rows.specs.declared.reply.Element.TheVariants.{Added, NotAdded}
use Rattle.bt_rows.specs.declared.reply.Reply.TheVariants.{Status, Refused, Elements}
use Rattle.bt_rows.specs.declared.refusal.Refusal.TheVariants as refusal
use Rattle.bt_rows.specs.declared.due.ResizeEnd.TheVariants.{Reached}
use Rattle.bt_rows.specs.declared.due.Due.TheVariants.{PoolResized, NodeAdded, TaskPlaced}
use Rattle.batch_model.specs.Variants.{Steady, Usable, JobActive, Active, Placed, TaskRun, Queued}
use Rattle.model_scripts.specs.Scripts.{Call, at, Line, line, Sheet}
use Rattle.model_scripts.specs.Bodies.{pool_body, job_body, task_body}

-- a task with instances, then one without, and then a list of one of each
abbrev pub instance_tasks : List Call
instance_tasks =
    at 0 (AddPool (pool_body (codes "p") 1))
    ∷ at 0 (AddJob (codes "j") (job_body (codes "p")))
    ∷ at 0 (AddTask (codes "j") (record (task_body (codes "d")) { multi = Some (record { count = 1; line = codes "w" }) }))
    ∷ at 0 (AddTask (codes "j") (task_body (codes "e")))
    ∷ at 0 (AddTasks (codes "j") (record (task_body (codes "e")) { multi = Some (record { count = 2; line = codes "w" }) } ∷ task_body (codes "f") ∷ []))
    ∷ []

abbrev pub instance_tasks_lines : List Line
instance_tasks_lines =
    line (Status 201) (NodeAdded (codes "p") 1 1 ∷ PoolResized (codes "p") Reached ∷ [])
    ∷ line (Status 201) []
    ∷ line (Refused refusal.UnreadableBody) []
    ∷ line (Status 201) (TaskPlaced (codes "j") (codes "e") 1 1 ∷ [])
    ∷ line (Elements (NotAdded (codes "e") refusal.UnreadableBody ∷ Added (codes "f") ∷ [])) []
    ∷ []

abbrev pub instance_tasks_rows : Sheet
instance_tasks_rows = record {
  pools = (codes "p", false, Steady, 1, 0) ∷ [];
  nodes = (1, codes "p", 1, Usable) ∷ [];
  jobs = (codes "j", codes "p", JobActive, 0) ∷ [];
  tasks =
      (codes "j", codes "e", Placed, 1, 0, None, None)
      ∷ (codes "j", codes "f", Active, 0, 0, None, None)
      ∷ [];
  runs = (1, TaskRun, 1, codes "p", (Some (codes "j"), Some (codes "e"), 1), Queued, 0, None, None) ∷ [];
  moment = 0;
}
