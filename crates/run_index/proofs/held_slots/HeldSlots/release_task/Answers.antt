use Rattle.std.proofs.Common.{List, sym, subst}
use Rattle.batch_model.specs.Variants.{TaskRow}
use Rattle.run_index.specs.Held.{HasHeld}
use Rattle.run_index.proofs.HeldTasks.{rows_free, task_released, task_enough}
use Rattle.run_index.proofs.held_slots.HeldSlots.release_task.Goals as goal

pub take_task-requires-clause-enough : goal.take_task-requires-clause-enough
take_task-requires-clause-enough c = λ node.
    let t = c.args.tables.now in
    task_enough c.args.self.now t.task_slots c.args.place c.in-Some.task.now t.run_slots node c.requires.apart (sym c.in-Some.ensures) c.requires.held

pub returns-in-None-clause-held : goal.returns-in-None-clause-held
returns-in-None-clause-held c =
    let t = c.args.tables.now in
    subst (λ (ts : List TaskRow). HasHeld c.args.self.now ts t.run_slots) (sym (rows_free t.task_slots c.args.place (sym c.in-None.ensures))) c.requires.held

pub returns-in-Some-clause-held : goal.returns-in-Some-clause-held
returns-in-Some-clause-held c =
    let t = c.args.tables.now in
    task_released c.args.self.now c.take_task.new.self t.task_slots c.args.place c.in-Some.task.now t.run_slots c.requires.apart (sym c.in-Some.ensures)
    c.take_task.ensures.sums c.take_task.ensures.counted c.requires.held
