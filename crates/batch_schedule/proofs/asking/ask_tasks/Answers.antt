use Rattle.std.proofs.Common.{refl, sym, ◌∙◌}
use Rattle.schedule_rows.specs.declared.outcome.CallOutcome.TheVariants.{Created, Made}
use Rattle.batch_schedule.proofs.Parts.{tasks_made, tasks_missed, tasks_stopped, tasks_unasked}
use Rattle.batch_schedule.proofs.asking.ask_tasks.Goals as goal

pub returns-in-Ok-Created : goal.returns-in-Ok-Created
returns-in-Ok-Created g c =
    tasks_made g.A.Ask.exchanged c.args.now c.args.row.now c.ask_patch_next-in-Ok-Created.new.row Created c.args.asker.now c.call_tasks.new.asker
    c.ask_patch_next-in-Ok-Created.new.asker c.args.fires.now.items c.call_tasks.new.fires.items c.ask_patch_next-in-Ok-Created.new.fires.items
    c.ask_patch_next-in-Ok-Created.result (sym c.has_tasks.ensures ∙ c.if-not-has_tasks.false) refl
    (rw c.in-Ok-Created.field-0-is at c.in-Ok-Created.ensures.asked) c.ask_patch_next-in-Ok-Created.ensures

pub returns-in-Ok-Made : goal.returns-in-Ok-Made
returns-in-Ok-Made g c =
    tasks_made g.A.Ask.exchanged c.args.now c.args.row.now c.ask_patch_next-in-Ok-Made.new.row Made c.args.asker.now c.call_tasks.new.asker
    c.ask_patch_next-in-Ok-Made.new.asker c.args.fires.now.items c.call_tasks.new.fires.items c.ask_patch_next-in-Ok-Made.new.fires.items
    c.ask_patch_next-in-Ok-Made.result (sym c.has_tasks.ensures ∙ c.if-not-has_tasks.false) refl
    (rw c.in-Ok-Made.field-0-is at c.in-Ok-Made.ensures.asked) c.ask_patch_next-in-Ok-Made.ensures

pub returns-in-Ok-Missed : goal.returns-in-Ok-Missed
returns-in-Ok-Missed g c =
    tasks_missed g.A.Ask.exchanged c.args.now c.args.row.now c.args.asker.now c.call_tasks.new.asker c.args.fires.now.items c.call_tasks.new.fires.items
    (sym c.has_tasks.ensures ∙ c.if-not-has_tasks.false) (rw c.in-Ok-Missed.field-0-is at c.in-Ok-Missed.ensures.asked)

pub returns-in-Ok-OutOfMemory : goal.returns-in-Ok-OutOfMemory
returns-in-Ok-OutOfMemory g c =
    tasks_stopped g.A.Ask.exchanged c.args.now c.args.row.now c.args.asker.now c.call_tasks.new.asker c.args.fires.now.items c.call_tasks.new.fires.items
    (sym c.has_tasks.ensures ∙ c.if-not-has_tasks.false) (rw c.in-Ok-OutOfMemory.field-0-is at c.in-Ok-OutOfMemory.ensures.asked)

pub returns-in-Err : goal.returns-in-Err
returns-in-Err g c =
    tasks_unasked g.A.Ask.exchanged c.args.now c.args.row.now c.args.asker.now c.call_tasks.new.asker c.args.fires.now.items c.call_tasks.new.fires.items
    (sym c.has_tasks.ensures ∙ c.if-not-has_tasks.false) c.in-Err.ensures.asker c.in-Err.ensures.fires
