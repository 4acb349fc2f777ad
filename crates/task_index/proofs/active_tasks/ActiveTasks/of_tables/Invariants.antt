use Rattle.std.proofs.Common.{take}
use Rattle.task_index.specs.Active.{AreItemsOf}
use Rattle.task_index.proofs.active_tasks.ActiveTasks.of_tables.Given as goal

abbrev pub invariant-loop-place : goal.invariant-loop-place
invariant-loop-place l = AreItemsOf (take l.place l.fn.tables.task_slots) l.active.items
