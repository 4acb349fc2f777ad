-- Schedules in scripts.
use Rattle.std.specs.Prelude.{ℕ, List, [], ◌∷◌, Option, Some, None, pos, negsuc, codes, true, false}
use Rattle.bt_rows.specs.declared.event.EventKind.{EventKind}
use Rattle.bt_rows.specs.declared.event.EventKind.TheVariants.{AddPool, AddJob, Take, End, Tick}
use Rattle.bt_rows.specs.declared.event.JobSpec.{JobSpec}
use Rattle.bt_rows.specs.declared.event.TaskSpec.{TaskSpec}
use Rattle.bt_rows.specs.declared.due.Due.{Due}
use Rattle.bt_rows.specs.declared.due.Due.TheVariants.{TaskSettled, TasksDone, JobEnded, PoolResized, NodeAdded, TaskPlaced}
use Rattle.bt_rows.specs.declared.due.JobEnd.TheVariants.{Kept}
use Rattle.bt_rows.specs.declared.due.Outcome.TheVariants.{Success}
use Rattle.bt_rows.specs.declared.due.ResizeEnd.TheVariants.{Reached}
use Rattle.bt_rows.specs.declared.reply.Element.TheVariants.{Added}
use Rattle.bt_rows.specs.declared.reply.Reply.{Reply}
use Rattle.bt_rows.specs.declared.reply.Reply.TheVariants.{Status as Replied, Refused as RefusedReply, Elements}
use Rattle.bt_rows.specs.declared.refusal.Refusal.TheVariants.{JobExists}
use Rattle.batch_model.specs.Variants.{Spread, Code}
use Rattle.batch_desk.specs.declared.answer.Answer.{Answer}
use Rattle.batch_desk.specs.declared.answer.Answer.TheVariants.{Done}
use Rattle.batch_desk.specs.declared.entry.Stop.TheVariants.{Rest}
use Rattle.schedule_rows.specs.Rows.{Schedule}
use Rattle.schedule_rows.specs.declared.answer.CalReply.TheVariants.{Status, Refused, Asked}
use Rattle.schedule_rows.specs.declared.event.CalEvent.TheVariants.{Add, Delete, Disable, Enable, Inner}
use Rattle.schedule_rows.specs.declared.fire.Fire.{Fire}
use Rattle.schedule_rows.specs.declared.fire.FireWord.{FireWord}
use Rattle.schedule_rows.specs.declared.fire.FireWord.TheVariants as words
use Rattle.schedule_rows.specs.declared.refusal.CalRefusal.TheVariants.{ScheduleNotFound, ScheduleExists, ScheduleStateRefuses}
use Rattle.schedule_rows.specs.declared.stage.ScheduleState.TheVariants.{Active, Completed}
use Rattle.schedule_rows.specs.declared.stage.Stage.TheVariants.{Idle}
use Rattle.schedule_scripts.specs.Playing.{Call, Line, at, line}

-- a pool of one node
abbrev pub pool : EventKind
pool = AddPool (record { id = codes "p"; dedicated = 1; low = 0; slots = 1; fill = Spread; inter = false; timeout = 900000; start = None; scale = None })

-- a job that ends with its tasks
abbrev pub job : JobSpec
job = record {
  pool = codes "p";
  priority = pos 0;
  parallel = negsuc 0;
  retries = pos 0;
  wall = None;
  deps = false;
  on_all = true;
  on_fail = false;
  prep = None;
  release = None;
}

-- a task
abbrev pub task : TaskSpec
task = record {
  id = codes "t";
  line = codes "w";
  slots = 1;
  retries = None;
  wall = None;
  retention = Some 604800000;
  codes = [];
  ranges = [];
  launch = None;
  other = None;
  needs = [];
  spans = [];
  multi = None;
}

-- a schedule with this id, window and interval
abbrev pub schedule : List ℕ → Option ℕ → Option ℕ → Schedule
schedule name window interval = record {
  id = name;
  first = 0;
  until = None;
  window = window;
  interval = interval;
  job = job;
  tasks = task ∷ [];
  state = Active;
  number = 0;
  last = None;
  stage = Idle;
}

-- a call that was made, with its due steps
abbrev pub done : Reply → List Due → Answer
done reply dues = Done reply dues Rest

abbrev pub fire : List ℕ → FireWord → Answer → Fire
fire job word answer = record { job = job; word = word; answer = answer }

-- what a firing shows: the job is added, its task, which is placed in this run, and the change that lets it end
abbrev pub fired : List ℕ → ℕ → List Fire
fired name run =
    fire name words.AddJob (done (Replied 201) [])
    ∷ fire name words.AddTasks (done (Elements (Added (codes "t") ∷ [])) (TaskPlaced name (codes "t") 1 run ∷ []))
    ∷ fire name words.PatchJob (done (Replied 200) [])
    ∷ []

abbrev pub pool_line : Line
pool_line = line (Asked (done (Replied 201) (NodeAdded (codes "p") 1 1 ∷ PoolResized (codes "p") Reached ∷ []))) []

abbrev pub plain : Line
plain = line (Asked (done (Replied 200) [])) []

-- the ending of the task's run, after which the job ends
abbrev pub ending : List ℕ → List Fire → Line
ending name fires =
    line (Asked (done (Replied 200) (TaskSettled name (codes "t") Success ∷ TasksDone name ∷ JobEnded name Kept ∷ []))) fires

-- a schedule of a minute fires at once, and again only when the previous job has ended
abbrev pub minutes : List Call
minutes =
    at 0 (Inner pool)
    ∷ at 0 (Add (schedule (codes "n") None (Some 60000)))
    ∷ at 1000 (Inner (Take 1))
    ∷ at 60000 (Inner Tick)
    ∷ at 61000 (Inner (End 1 (Code (pos 0))))
    ∷ []

abbrev pub minutes_lines : List Line
minutes_lines =
    pool_line
    ∷ line (Status 201) (fired (codes "n-job-1") 1)
    ∷ plain
    ∷ plain
    ∷ ending (codes "n-job-1") (fired (codes "n-job-2") 2)
    ∷ []

-- a schedule of two minutes with a window of one: an ending after the window fires nothing, and the next occurrence does; and refusals of
-- events on schedules
abbrev pub windows : List Call
windows =
    at 0 (Inner pool)
    ∷ at 0 (Add (schedule (codes "n") (Some 60000) (Some 120000)))
    ∷ at 1000 (Inner (Take 1))
    ∷ at 60000 (Inner Tick)
    ∷ at 190000 (Inner (End 1 (Code (pos 0))))
    ∷ at 240000 (Inner Tick)
    ∷ at 240000 (Add (schedule (codes "N") None None))
    ∷ at 240000 (Enable (codes "n"))
    ∷ at 240000 (Delete (codes "x"))
    ∷ []

abbrev pub windows_lines : List Line
windows_lines =
    pool_line
    ∷ line (Status 201) (fired (codes "n-job-1") 1)
    ∷ plain
    ∷ plain
    ∷ ending (codes "n-job-1") []
    ∷ line (Asked (done (Replied 200) [])) (fired (codes "n-job-2") 2)
    ∷ line (Refused ScheduleExists) []
    ∷ line (Refused (ScheduleStateRefuses Active)) []
    ∷ line (Refused ScheduleNotFound) []
    ∷ []

-- a job that stays when it has no open tasks
abbrev pub plain_job : JobSpec
plain_job = record job { on_all = false }

-- a schedule of one occurrence, at a minute, whose job has no tasks and stays
abbrev pub later : Schedule
later = record (schedule (codes "o") None None) { first = 60000; job = plain_job; tasks = [] }

-- A schedule of one occurrence fires once, not while it is disabled, and is completed then.
abbrev pub once : List Call
once =
    at 0 (Inner pool)
    ∷ at 0 (Add later)
    ∷ at 59999 (Inner Tick)
    ∷ at 59999 (Disable (codes "O"))
    ∷ at 60000 (Inner Tick)
    ∷ at 60001 (Enable (codes "o"))
    ∷ at 60001 (Inner Tick)
    ∷ at 60002 (Disable (codes "o"))
    ∷ at 60002 (Delete (codes "o"))
    ∷ at 60002 (Delete (codes "o"))
    ∷ []

abbrev pub once_lines : List Line
once_lines =
    pool_line
    ∷ line (Status 201) []
    ∷ plain
    ∷ line (Status 204) []
    ∷ plain
    ∷ line (Status 204) (fire (codes "o-job-1") words.AddJob (done (Replied 201) []) ∷ [])
    ∷ plain
    ∷ line (Refused (ScheduleStateRefuses Completed)) []
    ∷ line (Status 202) []
    ∷ line (Refused ScheduleNotFound) []
    ∷ []

-- a schedule of a minute that ends at two minutes, whose jobs stay: it fires once, and is completed at its end
abbrev pub ending_soon : Schedule
ending_soon = record (schedule (codes "e") None (Some 60000)) { until = Some 120000; job = plain_job; tasks = [] }

abbrev pub until : List Call
until =
    at 0 (Inner pool)
    ∷ at 0 (Add ending_soon)
    ∷ at 60000 (Inner Tick)
    ∷ at 119999 (Disable (codes "e"))
    ∷ at 119999 (Enable (codes "e"))
    ∷ at 120000 (Inner Tick)
    ∷ at 120000 (Disable (codes "e"))
    ∷ at 120001 (Add (record (schedule (codes "f") None (Some 60000)) { until = Some 120001 }))
    ∷ at 120001 (Enable (codes "f"))
    ∷ []

abbrev pub until_lines : List Line
until_lines =
    pool_line
    ∷ line (Status 201) (fire (codes "e-job-1") words.AddJob (done (Replied 201) []) ∷ [])
    ∷ plain
    ∷ line (Status 204) []
    ∷ line (Status 204) []
    ∷ plain
    ∷ line (Refused (ScheduleStateRefuses Completed)) []
    ∷ line (Status 201) []
    ∷ line (Refused (ScheduleStateRefuses Completed)) []
    ∷ []

-- A job that is there already: its addition is refused, which counts as the firing of that occurrence; nothing follows it.
abbrev pub taken : List Call
taken =
    at 0 (Inner pool)
    ∷ at 0 (Inner (AddJob (codes "N-JOB-1") plain_job))
    ∷ at 0 (Add (schedule (codes "n") None (Some 60000)))
    ∷ at 60000 (Inner Tick)
    ∷ []

abbrev pub taken_lines : List Line
taken_lines =
    pool_line
    ∷ line (Asked (done (Replied 201) [])) []
    ∷ line (Status 201) (fire (codes "n-job-1") words.AddJob (done (RefusedReply JobExists) []) ∷ [])
    ∷ plain
    ∷ []
