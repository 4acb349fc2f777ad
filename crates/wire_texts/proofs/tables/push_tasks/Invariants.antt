use Rattle.std.proofs.Common.{◌≡◌, ◌++◌, string_bytes}
use Rattle.std.specs.Prelude.{flat_map}
use Rattle.wire_texts.specs.Tables.{task_line}
use Rattle.wire_texts.proofs.tables.push_tasks.Given as goal

abbrev pub invariant-loop-task : goal.invariant-loop-task
invariant-loop-task l = string_bytes l.out ++ flat_map (task_line l.tables.state) l.task-iterator ≡ string_bytes l.fn.out ++ flat_map (task_line l.tables.state) l.tables.state.tasks
