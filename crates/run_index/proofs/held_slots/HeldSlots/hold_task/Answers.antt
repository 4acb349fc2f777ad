use Rattle.std.proofs.Common.{List, sym, subst}
use Rattle.batch_model.specs.Variants.{TaskRow}
use Rattle.run_index.specs.Held.{HasHeld}
use Rattle.run_index.proofs.HeldTasks.{rows_free, task_added, task_small}
use Rattle.run_index.proofs.held_slots.HeldSlots.hold_task.Goals as goal

pub add_task-requires-clause-small : goal.add_task-requires-clause-small
add_task-requires-clause-small c = λ node.
    let t = c.args.tables.now in
    task_small c.args.self.now t.task_slots c.args.place c.in-Some.task.now t.run_slots node c.requires.apart (sym c.in-Some.ensures) c.run_places_known.ensures
    c.requires.held

pub returns-in-None-clause-held : goal.returns-in-None-clause-held
returns-in-None-clause-held c =
    let t = c.args.tables.now in
    subst (λ (ts : List TaskRow). HasHeld c.args.self.now ts t.run_slots) (rows_free t.task_slots c.args.place (sym c.in-None.ensures)) c.requires.held

pub returns-in-Some-clause-held : goal.returns-in-Some-clause-held
returns-in-Some-clause-held c =
    let t = c.args.tables.now in
    task_added c.args.self.now c.add_task.new.self t.task_slots c.args.place c.in-Some.task.now t.run_slots c.requires.apart (sym c.in-Some.ensures)
    c.add_task.ensures.sums c.add_task.ensures.counted c.requires.held
