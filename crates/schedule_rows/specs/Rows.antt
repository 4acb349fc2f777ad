-- Schedules, as rows of a calendar (Azure: job schedules, in this project's profile).
use Rattle.std.specs.Prelude.{◌≡◌, ◌≤◌, ℕ, max, true, List, length, Option, None}
use Rattle.std.specs.List.{list_all}
use Rattle.bt_rows.specs.Ranges.{is_job_spec_in_range, is_task_spec_in_range}
use Rattle.bt_rows.specs.declared.event.JobSpec.{JobSpec}
use Rattle.bt_rows.specs.declared.event.TaskSpec.{TaskSpec}
use Rattle.schedule_rows.specs.declared.stage.ScheduleState.{ScheduleState}
use Rattle.schedule_rows.specs.declared.stage.ScheduleState.TheVariants.{Active}
use Rattle.schedule_rows.specs.declared.stage.Stage.{Stage}
use Rattle.schedule_rows.specs.declared.stage.Stage.TheVariants.{Idle}
use Rattle.schedule_rows.specs.declared.limits.TheConstants.{SCHEDULE_ID_LIMIT, SCHEDULE_TASK_LIMIT, LAST_JOB_NUMBER}

-- a schedule: its id, its first occurrence, the moment from which it no longer fires, how long after an occurrence it may fire for it, the
-- time between occurrences, the job and the tasks of each firing, its state, the number of jobs that it has requested, the occurrence of the
-- last of them, and what remains to be requested for that one
pub record Schedule : Type 0 where
  pub id : List ℕ
  pub first : ℕ
  pub until : Option ℕ
  pub window : Option ℕ
  pub interval : Option ℕ
  pub job : JobSpec
  pub tasks : List TaskSpec
  pub state : ScheduleState
  pub number : ℕ
  pub last : Option ℕ
  pub stage : Stage

-- the bounds of each schedule: an id that leaves room for the numbers of its jobs, values in their ranges, at most 100 tasks, and at most
-- 999,999,999 jobs
pub record KeepsBounds (id : List ℕ) (job : JobSpec) (tasks : List TaskSpec) (number : ℕ) : Type 0 where
  pub short : length id ≤ SCHEDULE_ID_LIMIT
  pub job_range : is_job_spec_in_range job ≡ true
  pub task_ranges : list_all is_task_spec_in_range tasks ≡ true
  pub few : length tasks ≤ SCHEDULE_TASK_LIMIT
  pub numbered : number ≤ LAST_JOB_NUMBER

-- the schedule as it is added at this moment: active, without jobs, and without occurrences before the moment
abbrev pub added_at : ℕ → Schedule → Schedule
added_at now s = record s { first = max now s.first; state = Active; number = 0; last = None; stage = Idle }
