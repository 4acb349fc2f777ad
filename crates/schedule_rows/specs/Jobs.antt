-- The calls and reads of a firing of a schedule.
use Rattle.std.specs.Prelude.{ℕ, ◌+◌, Bool, true, false, List, [], ◌∷◌, ◌++◌, codes, Some, None}
use Rattle.std.specs.Fmt.{decimal}
use Rattle.bt_rows.specs.declared.event.EventKind.{EventKind}
use Rattle.bt_rows.specs.declared.event.EventKind.TheVariants as events
use Rattle.bt_rows.specs.declared.event.JobPatch.{JobPatch}
use Rattle.bt_rows.specs.declared.event.JobSpec.{JobSpec}
use Rattle.table_reads.specs.declared.request.Read.{Read}
use Rattle.table_reads.specs.declared.request.Read.TheVariants as reads
use Rattle.schedule_rows.specs.Rows.{Schedule}

-- the id of the job with this number of a schedule: `S-job-n`
unfoldable pub job_id : List ℕ → ℕ → List ℕ
job_id schedule number = schedule ++ (codes "-job-" ++ decimal number)

-- the job as it is added: it is not terminated while it has no tasks yet
abbrev pub without_action : JobSpec → JobSpec
without_action spec = record spec { on_all = false }

-- a change that lets the job end once its tasks are completed
abbrev pub termination : JobPatch
termination = record { priority = None; parallel = None; limits = None; on_all = Some true }

-- the next job of the schedule is added
abbrev pub add_job_asked : Schedule → EventKind
add_job_asked s = events.AddJob (job_id s.id (s.number + 1)) (without_action s.job)

-- the tasks of its last job are added
abbrev pub add_tasks_asked : Schedule → EventKind
add_tasks_asked s = events.AddTasks (job_id s.id s.number) s.tasks

-- its last job is to end once its tasks are completed
abbrev pub patch_asked : Schedule → EventKind
patch_asked s = events.PatchJob (job_id s.id s.number) termination

-- its last job is read
abbrev pub job_read : Schedule → Read
job_read s = reads.GetJob (job_id s.id s.number)

-- there are tasks to add
abbrev pub has_tasks : Schedule → Bool
has_tasks s = has_items s.tasks
  where
    has_items : {T : Type 0} → List T → Bool
    has_items [] = false
    has_items (task ∷ tasks) = true
