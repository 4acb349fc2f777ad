use Rattle.std.proofs.Common.{true, sym, ◌∙◌}
use Rattle.schedule_rows.specs.declared.outcome.CallOutcome.TheVariants.{Created, Made, Missed, OutOfMemory}
use Rattle.schedule_rows.specs.declared.stage.Stage.TheVariants.{Idle}
use Rattle.schedule_rows.specs.Turns.{at_stage, patches}
use Rattle.batch_schedule.proofs.Runs.{of_row}
use Rattle.batch_schedule.proofs.Parts.{patch_none, patch_answered, patch_unasked}
use Rattle.batch_schedule.proofs.asking.ask_patch.Goals as goal

pub returns-then-not-terminates : goal.returns-then-not-terminates
returns-then-not-terminates g c =
    patch_none g.A.Ask.exchanged c.args.now c.args.row.now c.set_stage.new.self c.args.asker.now c.args.fires.now.items
    (sym c.terminates.ensures ∙ c.if-not-terminates.true) c.set_stage.ensures

pub returns-in-Ok-Created : goal.returns-in-Ok-Created
returns-in-Ok-Created g c =
    of_row g.A.Ask.exchanged (patches c.args.now c.args.row.now) c.args.asker.now c.call_patch.new.asker (at_stage Idle c.args.row.now)
    c.set_stage-in-Ok-Created.new.self c.args.fires.now.items c.call_patch.new.fires.items true c.set_stage-in-Ok-Created.ensures
    (patch_answered g.A.Ask.exchanged c.args.now c.args.row.now Created c.args.asker.now c.call_patch.new.asker c.args.fires.now.items
    c.call_patch.new.fires.items (sym c.terminates.ensures ∙ c.if-not-terminates.false) (rw c.in-Ok-Created.field-0-is at c.in-Ok-Created.ensures.asked))

pub returns-in-Ok-Made : goal.returns-in-Ok-Made
returns-in-Ok-Made g c =
    of_row g.A.Ask.exchanged (patches c.args.now c.args.row.now) c.args.asker.now c.call_patch.new.asker (at_stage Idle c.args.row.now)
    c.set_stage-in-Ok-Made.new.self c.args.fires.now.items c.call_patch.new.fires.items true c.set_stage-in-Ok-Made.ensures
    (patch_answered g.A.Ask.exchanged c.args.now c.args.row.now Made c.args.asker.now c.call_patch.new.asker c.args.fires.now.items
    c.call_patch.new.fires.items (sym c.terminates.ensures ∙ c.if-not-terminates.false) (rw c.in-Ok-Made.field-0-is at c.in-Ok-Made.ensures.asked))

pub returns-in-Ok-Missed : goal.returns-in-Ok-Missed
returns-in-Ok-Missed g c =
    patch_answered g.A.Ask.exchanged c.args.now c.args.row.now Missed c.args.asker.now c.call_patch.new.asker c.args.fires.now.items
    c.call_patch.new.fires.items (sym c.terminates.ensures ∙ c.if-not-terminates.false) (rw c.in-Ok-Missed.field-0-is at c.in-Ok-Missed.ensures.asked)

pub returns-in-Ok-OutOfMemory : goal.returns-in-Ok-OutOfMemory
returns-in-Ok-OutOfMemory g c =
    patch_answered g.A.Ask.exchanged c.args.now c.args.row.now OutOfMemory c.args.asker.now c.call_patch.new.asker c.args.fires.now.items
    c.call_patch.new.fires.items (sym c.terminates.ensures ∙ c.if-not-terminates.false) (rw c.in-Ok-OutOfMemory.field-0-is at
    c.in-Ok-OutOfMemory.ensures.asked)

pub returns-in-Err : goal.returns-in-Err
returns-in-Err g c =
    patch_unasked g.A.Ask.exchanged c.args.now c.args.row.now c.args.asker.now c.call_patch.new.asker c.args.fires.now.items c.call_patch.new.fires.items
    (sym c.terminates.ensures ∙ c.if-not-terminates.false) c.in-Err.ensures.asker c.in-Err.ensures.fires
