-- Tasks: their stages, their runs, and new ones.
-- Source: Azure Batch REST reference, TaskState and the properties of Task; the form is this project's own.
use Rattle.std.specs.Prelude.{ℕ, Bool, true, false, ◌&&◌, List, Option, Some, None, ℤ, count_by}
use Rattle.std.specs.Option.{is_none, unwrap_or, option_and_then}
use Rattle.std.specs.List.{find, list_any}
use Rattle.bt_base.specs.Ids.{same}
use Rattle.bt_rows.specs.declared.event.TaskSpec.{TaskSpec}
use Rattle.batch_model.specs.Finding.{or_else}
use Rattle.batch_model.specs.Runs.{is_present, is_busy_for, is_main, ending_of}
use Rattle.batch_model.specs.Variants.{State, JobRow, TaskRow, TaskStage, Active, Placed, Completed, Closed, ByTermination, Ending, RunRow}

abbrev pub is_active : TaskStage → Bool
is_active Active = true
is_active _ = false

abbrev pub is_placed : TaskStage → Bool
is_placed Placed = true
is_placed _ = false

abbrev pub is_completed : TaskStage → Bool
is_completed Completed = true
is_completed _ = false

-- the task is one of the job
abbrev pub is_in_job : List ℕ → TaskRow → Bool
is_in_job job task = same task.job job

-- a placed task of the job
abbrev pub is_placed_in : List ℕ → TaskRow → Bool
is_placed_in job task = is_placed task.stage && is_in_job job task

-- the job has a placed task
abbrev pub has_placed_task : State → List ℕ → Bool
has_placed_task s job = list_any (is_placed_in job) s.tasks

-- how many tasks of the job are placed
abbrev pub placed_count : State → List ℕ → ℕ
placed_count s job = count_by (is_placed_in job) s.tasks

-- no end is wanted, and no ending counts in place of the main command's
abbrev pub is_undisturbed : TaskRow → Bool
is_undisturbed task = is_none task.wanted && is_none task.fail

-- a run of the present attempt has not ended
abbrev pub is_busy : State → TaskRow → Bool
is_busy s task = list_any (is_busy_for task) s.runs

-- the main run of the present attempt
abbrev pub main_run : State → TaskRow → Option RunRow
main_run s task = find (λ run. is_present task run && is_main run.kind) s.runs

-- how the main run ended
abbrev pub main_ending : State → TaskRow → Option Ending
main_ending s task = option_and_then (λ run. ending_of run.state) (main_run s task)

-- how the present attempt ended: by the ending that counts in place of the main command's, as that of a failed coordination, or else as
-- its main run did
abbrev pub attempt_ending : State → TaskRow → Option Ending
attempt_ending s task = or_else task.fail (main_ending s task)

-- the limit of retries is the task's own, or else its job's
abbrev pub retry_limit : JobRow → TaskRow → ℤ
retry_limit job task = unwrap_or task.retries job.retries

-- no end is wanted, no ending counts in place of the main command's, and nothing has started
abbrev pub cleared : TaskRow → TaskRow
cleared task = record task { wanted = None; fail = None; started = None }

-- the task is completed, in such a way
abbrev pub completed : Closed → TaskRow → TaskRow
completed closing task = record (cleared task) { stage = Completed; closed = Some closing }

-- a terminated task has no success, and does not satisfy its dependents
abbrev pub terminated : ℕ → TaskRow → TaskRow
terminated now task = completed (record { how = ByTermination; success = false; satisfies = false; at = now }) task

-- active again, after this number of failures
abbrev pub again : ℕ → TaskRow → TaskRow
again failed task = record (cleared task) { stage = Active; failures = failed }

-- a task is added active
abbrev pub new_task : List ℕ → TaskSpec → TaskRow
new_task in_job spec = record {
  job = in_job;
  id = spec.id;
  line = spec.line;
  slots = spec.slots;
  retries = spec.retries;
  wall = spec.wall;
  retention = spec.retention;
  codes = spec.codes;
  ranges = spec.ranges;
  launch = spec.launch;
  other = spec.other;
  needs = spec.needs;
  spans = spec.spans;
  multi = spec.multi;
  stage = Active;
  attempt = 0;
  failures = 0;
  wanted = None;
  fail = None;
  started = None;
  closed = None;
}
