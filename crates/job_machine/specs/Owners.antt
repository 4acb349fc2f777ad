-- The events of jobs and tasks.
use Rattle.std.specs.Prelude.{Bool, true, false, not}
use Rattle.bt_rows.specs.declared.event.EventKind.{EventKind}
use Rattle.bt_rows.specs.declared.event.EventKind.TheVariants.{AddJob, PatchJob, DisableJob, EnableJob, TerminateJob, DeleteJob, AddTask, AddTasks, DeleteTask, TerminateTask, ReactivateTask, End}
use Rattle.batch_model.specs.Variants.{State}
use Rattle.table_scans.specs.Runs.{is_start_number}

-- events that name a job, and endings of runs that are not start runs
abbrev pub is_of_jobs : State → EventKind → Bool
is_of_jobs s (AddJob job spec) = true
is_of_jobs s (PatchJob job patch) = true
is_of_jobs s (DisableJob job option) = true
is_of_jobs s (EnableJob job) = true
is_of_jobs s (TerminateJob job reason) = true
is_of_jobs s (DeleteJob job) = true
is_of_jobs s (AddTask job spec) = true
is_of_jobs s (AddTasks job specs) = true
is_of_jobs s (DeleteTask job task) = true
is_of_jobs s (TerminateTask job task) = true
is_of_jobs s (ReactivateTask job task) = true
is_of_jobs s (End run ending) = not (is_start_number s run)
is_of_jobs s _ = false
