use Rattle.batch_schedule.proofs.Parts.{job_created, job_made, job_missed, job_stopped, job_unasked}
use Rattle.batch_schedule.proofs.asking.ask_job.Goals as goal

pub returns-in-Ok-Created : goal.returns-in-Ok-Created
returns-in-Ok-Created g c =
    job_created g.A.Ask.exchanged c.args.now c.args.occurrence c.args.row.now c.ask_tasks_next.new.row c.args.asker.now c.call_job.new.asker
    c.ask_tasks_next.new.asker c.args.fires.now.items c.call_job.new.fires.items c.ask_tasks_next.new.fires.items c.ask_tasks_next.result
    (rw c.in-Ok-Created.field-0-is at c.in-Ok-Created.ensures.asked) c.ask_tasks_next.ensures

pub returns-in-Ok-Made : goal.returns-in-Ok-Made
returns-in-Ok-Made g c =
    job_made g.A.Ask.exchanged c.args.now c.args.occurrence c.args.row.now c.note_firing.new.self c.args.asker.now c.call_job.new.asker
    c.args.fires.now.items c.call_job.new.fires.items c.note_firing.ensures (rw c.in-Ok-Made.field-0-is at c.in-Ok-Made.ensures.asked)

pub returns-in-Ok-Missed : goal.returns-in-Ok-Missed
returns-in-Ok-Missed g c =
    job_missed g.A.Ask.exchanged c.args.now c.args.occurrence c.args.row.now c.args.asker.now c.call_job.new.asker c.args.fires.now.items
    c.call_job.new.fires.items (rw c.in-Ok-Missed.field-0-is at c.in-Ok-Missed.ensures.asked)

pub returns-in-Ok-OutOfMemory : goal.returns-in-Ok-OutOfMemory
returns-in-Ok-OutOfMemory g c =
    job_stopped g.A.Ask.exchanged c.args.now c.args.occurrence c.args.row.now c.args.asker.now c.call_job.new.asker c.args.fires.now.items
    c.call_job.new.fires.items (rw c.in-Ok-OutOfMemory.field-0-is at c.in-Ok-OutOfMemory.ensures.asked)

pub returns-in-Err : goal.returns-in-Err
returns-in-Err g c =
    job_unasked g.A.Ask.exchanged c.args.now c.args.occurrence c.args.row.now c.args.asker.now c.call_job.new.asker c.args.fires.now.items
    c.call_job.new.fires.items c.in-Err.ensures.asker c.in-Err.ensures.fires
