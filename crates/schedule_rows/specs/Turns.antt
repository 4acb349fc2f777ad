-- The turns of schedules: the calls and reads that each makes at a moment, by their answers. Azure's job schedules make a job at each
-- occurrence unless the previous one is still active; here a schedule also adds the tasks itself, and lets its job end only after that.
use Rattle.std.specs.Prelude.{ℕ, ◌+◌, Bool, true, false, nat_eq, List, [], ◌∷◌, ◌++◌, Option, Some, None, Result, Ok, Err, if◌then◌else◌}
use Rattle.bt_base.specs.declared.memory.NoMemory.{NoMemory}
use Rattle.bt_rows.specs.declared.job.JobState.{JobState}
use Rattle.bt_rows.specs.declared.job.JobState.TheVariants.{Completed as JobCompleted}
use Rattle.bt_rows.specs.declared.refusal.Refusal.{Refusal}
use Rattle.bt_rows.specs.declared.refusal.Refusal.TheVariants.{JobNotFound}
use Rattle.bt_rows.specs.declared.reply.Item.{Item}
use Rattle.bt_rows.specs.declared.reply.Item.TheVariants as items
use Rattle.bt_rows.specs.declared.reply.Reply.{Reply}
use Rattle.bt_rows.specs.declared.reply.Reply.TheVariants as replies
use Rattle.batch_desk.specs.declared.answer.Answer.{Answer}
use Rattle.batch_desk.specs.declared.answer.Answer.TheVariants as answers
use Rattle.schedule_rows.specs.Interactions.{Interaction, Ends, Passes, Asks, Looks}
use Rattle.schedule_rows.specs.Jobs.{add_job_asked, add_tasks_asked, patch_asked, job_read, has_tasks}
use Rattle.schedule_rows.specs.Occurrences.{firing_at, completed_at}
use Rattle.schedule_rows.specs.Rows.{Schedule}
use Rattle.schedule_rows.specs.declared.outcome.CallOutcome.{CallOutcome}
use Rattle.schedule_rows.specs.declared.outcome.CallOutcome.TheVariants.{Created, Made, Missed, OutOfMemory}
use Rattle.schedule_rows.specs.declared.stage.Stage.{Stage}
use Rattle.schedule_rows.specs.declared.stage.Stage.TheVariants.{Idle, Tasks, Patch}

-- the outcome of a call that was made, by its reply: 201 is that it created something
abbrev pub reply_outcome : Reply → CallOutcome
reply_outcome (replies.Status status) = if nat_eq status 201 then Created else Made
reply_outcome _ = Made

-- the outcome of a call, by its answer
abbrev pub outcome_of : Answer → CallOutcome
outcome_of (answers.Done reply dues stop) = reply_outcome reply
outcome_of answers.KeeperFault = Missed
outcome_of answers.JournalFull = Missed
outcome_of answers.Memory = OutOfMemory

-- the call was made, whatever its reply
abbrev pub is_made : CallOutcome → Bool
is_made Created = true
is_made Made = true
is_made Missed = false
is_made OutOfMemory = false

abbrev pub is_completed_job : JobState → Bool
is_completed_job JobCompleted = true
is_completed_job _ = false

abbrev pub is_no_job : Refusal → Bool
is_no_job JobNotFound = true
is_no_job _ = false

abbrev pub shows_completed : Item → Bool
shows_completed (items.Job job) = is_completed_job job.state
shows_completed _ = false

abbrev pub shows_free : Reply → Bool
shows_free (replies.Refused refusal) = is_no_job refusal
shows_free (replies.One item) = shows_completed item
shows_free _ = false

-- the read of the last job of a schedule shows that it is completed or not there, so that the next one may be requested
abbrev pub is_free : Result Reply NoMemory → Bool
is_free (Ok reply) = shows_free reply
is_free (Err e) = false

-- its next job was requested, for this occurrence
abbrev pub fired_for : ℕ → Schedule → Schedule
fired_for k s = record s { number = s.number + 1; last = Some k }

-- this remains to be requested for its last job
abbrev pub at_stage : Stage → Schedule → Schedule
at_stage stage s = record s { stage = stage }

-- A part of the turn of a schedule, in the form of a continuation: by the list of rows in which the schedule stands, and the interaction that
-- follows the part, each as a function of the schedule.
abbrev pub Part : Type 0
Part = (Schedule → List Schedule) → (Schedule → Interaction) → Interaction

-- after a call that was made nothing remains to be requested; another one is repeated in the next turn
abbrev pub after_patch : Schedule → CallOutcome → Part
after_patch s h put next = next (if is_made h then at_stage Idle s else s)

-- the job is patched if the schedule says so
abbrev pub patches : ℕ → Schedule → Part
patches now s put next =
    if s.job.on_all then Asks (put s) now (patch_asked s) (λ answer. after_patch s (outcome_of answer) put next) else next (at_stage Idle s)

-- after a call that was made only the patch remains to be requested; another one is repeated in the next turn
abbrev pub after_tasks : ℕ → Schedule → CallOutcome → Part
after_tasks now s h put next = if is_made h then patches now (at_stage Patch s) put next else next s

-- the tasks are added if there are any, and then the job is patched
abbrev pub adds_tasks : ℕ → Schedule → Part
adds_tasks now s put next =
    if has_tasks s
    then Asks (put s) now (add_tasks_asked s) (λ answer. after_tasks now s (outcome_of answer) put next)
    else patches now (at_stage Patch s) put next

-- what follows the request of a job for occurrence k: if it was created, its tasks and its patch
abbrev pub after_job : ℕ → ℕ → Schedule → CallOutcome → Part
after_job now k s Created put next = adds_tasks now (at_stage Tasks (fired_for k s)) put next
after_job now k s Made put next = next (fired_for k s)
after_job now k s Missed put next = next s
after_job now k s OutOfMemory put next = next s

-- the next job is requested, for occurrence k
abbrev pub adds_job : ℕ → ℕ → Schedule → Part
adds_job now k s put next = Asks (put s) now (add_job_asked s) (λ answer. after_job now k s (outcome_of answer) put next)

-- what follows the read of the previous job
abbrev pub after_look : ℕ → ℕ → Schedule → Result Reply NoMemory → Part
after_look now k s shown put next = if is_free shown then adds_job now k s put next else next s

-- the next job is requested; if there was one before, only if that is completed or not there
abbrev pub adds_job_if_free : ℕ → ℕ → Schedule → Part
adds_job_if_free now k s put next =
    if nat_eq s.number 0 then adds_job now k s put next else Looks (put s) (job_read s) (λ shown. after_look now k s shown put next)

abbrev pub fires_for : ℕ → Schedule → Option ℕ → Part
fires_for now s None put next = next s
fires_for now s (Some k) put next = adds_job_if_free now k s put next

-- a job is requested if an occurrence is due
abbrev pub fires : ℕ → Schedule → Part
fires now s put next = fires_for now s (firing_at now s) put next

-- the requests that remain from an earlier turn
abbrev pub retries_stage : ℕ → Stage → Schedule → Part
retries_stage now Idle s put next = next s
retries_stage now Tasks s put next = adds_tasks now s put next
retries_stage now Patch s put next = patches now s put next

-- the requests that remain from an earlier turn come first
abbrev pub retries_and_fires : ℕ → Schedule → Part
retries_and_fires now s put next = retries_stage now s.stage s put (λ row. fires now row put next)

-- the schedule is completed if it will never fire again
abbrev pub ends_turn : ℕ → Schedule → Part
ends_turn now s put next = Passes (put s) (next (completed_at now s))

-- the turn of a schedule
abbrev pub turn : ℕ → Schedule → Part
turn now s put next = Passes (put s) (retries_and_fires now s put (λ row. ends_turn now row put next))

-- the turns of schedules in order of adding, of which the first ones are done
abbrev pub turns : ℕ → List Schedule → List Schedule → Interaction
turns now done [] = Ends done
turns now done (s ∷ rest) = turn now s (λ row. done ++ row ∷ rest) (λ row. turns now (done ++ row ∷ []) rest)
