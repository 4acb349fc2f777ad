-- Collections of tasks, up to an element.
use Rattle.std.specs.Prelude.{◌≡◌, List, [], ◌∷◌, ◌++◌, map, Option, Some, None}
use Rattle.bt_rows.specs.Changes.{apply_changes}
use Rattle.bt_rows.specs.declared.event.TaskSpec.{TaskSpec}
use Rattle.bt_rows.specs.declared.refusal.Refusal.{Refusal}
use Rattle.bt_rows.specs.declared.reply.Element.{Element}
use Rattle.bt_rows.specs.declared.tables.Change.TheVariants.{PutTask}
use Rattle.batch_model.specs.Events.{add_each, task_refusals}
use Rattle.batch_model.specs.Finding.{first_of}
use Rattle.batch_model.specs.Tasks.{new_task}
use Rattle.batch_model.specs.Variants.{State, JobRow, TaskRow}

-- the tables with these tasks after their own
abbrev pub with_tasks : List TaskRow → State → State
with_tasks added s = record s { tasks = s.tasks ++ added }

-- what an element adds: a task, or nothing if it is refused
abbrev pub added_by : JobRow → TaskSpec → Option Refusal → List TaskRow
added_by job spec None = new_task job.id spec ∷ []
added_by job spec (Some refusal) = []

-- why the element is refused beside the tasks that are added before it, if it is
abbrev pub refusal_beside : List TaskRow → State → JobRow → TaskSpec → Option Refusal
refusal_beside added s job spec = first_of (task_refusals (with_tasks added s) job spec)

-- all elements are answered so, and these tasks are added: the puts of the tasks lead to the tables after the elements
pub record IsAnswered (s : State) (job : JobRow) (specs : List TaskSpec) (answers : List Element) (added : List TaskRow) : Type 0 where
  pub elements : answers ≡ (add_each s job specs).elements
  pub state : apply_changes (map PutTask added) s ≡ (add_each s job specs).state

-- up to the elements that are left: what is answered and what is left make the whole
pub record IsAnsweredTo (s : State) (job : JobRow) (specs rest : List TaskSpec) (answers : List Element) (added : List TaskRow) : Type 0 where
  pub elements : answers ++ (add_each (with_tasks added s) job rest).elements ≡ (add_each s job specs).elements
  pub state : (add_each (with_tasks added s) job rest).state ≡ (add_each s job specs).state
  pub puts : apply_changes (map PutTask added) s ≡ with_tasks added s
