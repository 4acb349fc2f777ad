-- A drill: calls that are made from one number, and the line that sums up the tables after them. It is this project's own.
use Rattle.std.specs.Prelude.{◌≡◌, ℕ, ◌+◌, ◌-◌, ◌*◌, ◌/◌, ◌%◌, ◌^◌, max, Bool, true, false, not, ◌&&◌, nat_eq, nat_lt, if◌then◌else◌, ℤ, pos, negsuc}
use Rattle.std.specs.Prelude.{List, [], ◌∷◌, Option, Some, None, IsSomeAnd, codes, count_by}
use Rattle.std.specs.Fmt.{decimal}
use Rattle.std.specs.Option.{option_map, option_map_or}
use Rattle.bt_rows.specs.declared.event.PoolSpec.{PoolSpec}
use Rattle.bt_rows.specs.declared.event.JobSpec.{JobSpec}
use Rattle.bt_rows.specs.declared.event.TaskSpec.{TaskSpec}
use Rattle.bt_rows.specs.declared.event.EventKind.{EventKind}
use Rattle.bt_rows.specs.declared.event.EventKind.TheVariants.{AddPool, AddJob, AddTask, Take, End}
use Rattle.bt_rows.specs.declared.limits.TheConstants.{DEFAULT_RESIZE_TIMEOUT, DEFAULT_RETENTION}
use Rattle.batch_model.specs.Finding.{names}
use Rattle.batch_model.specs.Tasks.{is_active, is_completed, is_in_job}
use Rattle.batch_model.specs.Variants.{State, Spread, TaskRow, RunRow, Closed, Code}
use Rattle.batch_desk.specs.declared.entry.Entry.{Entry}
use Rattle.batch_desk.specs.History.{asked_of, after_call, after_all}
use Rattle.wire_texts.specs.Lines.{line}
use Rattle.run_index.specs.Queued.{lowest_queued}
use Rattle.batch_cli.specs.declared.drill.limits.TheConstants.{DRILL_MOMENT_MS}
use Rattle.batch_cli.specs.declared.drill.summary.DrillCounts.{DrillCounts}
use Rattle.batch_cli.specs.declared.drill.stage.Stage.{Stage}
use Rattle.batch_cli.specs.declared.drill.stage.Stage.TheVariants.{AddingPool, AddingJob, AddingTask, Turning, Ending}

-- the number after x in the sequence of a drill
abbrev pub next_state : ℕ → ℕ
next_state x = (x * 1103515245 + 12345) % 2 ^ 31

-- the draw that a number of the sequence gives
abbrev pub draw_of : ℕ → ℕ
draw_of x = x / 65536

-- the id of the pool and of the job
unfoldable pub drill_id : List ℕ
drill_id = codes "drill"

-- the command line of each task
unfoldable pub drill_line : List ℕ
drill_line = codes "w"

-- 8 dedicated nodes with 4 slots each, and the defaults of a body that states no more
abbrev pub pool_spec : PoolSpec
pool_spec = record {
  id = drill_id;
  dedicated = 8;
  low = 0;
  slots = 4;
  fill = Spread;
  inter = false;
  timeout = DEFAULT_RESIZE_TIMEOUT;
  start = None;
  scale = None;
}

-- a job on that pool whose tasks may depend on others and are tried again once, and the defaults of a body that states no more
abbrev pub job_spec : JobSpec
job_spec = record {
  pool = drill_id;
  priority = pos 0;
  parallel = negsuc 0;
  retries = pos 1;
  wall = None;
  deps = true;
  on_all = false;
  on_fail = false;
  prep = None;
  release = None;
}

-- where the second draw modulo 4 is 0, a task but the first depends on one task before it
abbrev pub needs_of : ℕ → ℕ → List (List ℕ)
needs_of number b = if nat_lt 1 number && nat_eq (b % 4) 0 then decimal (1 + b % (number - 1)) ∷ [] else []

-- where it is 1, a task but the first depends on the three tasks before it, or on all before it if there are fewer
abbrev pub spans_of : ℕ → ℕ → List (ℕ × ℕ)
spans_of number b = if nat_lt 1 number && nat_eq (b % 4) 1 then (max 1 (number - 3), number - 1) ∷ [] else []

-- the task with this number and these two draws: its number is its id, it has 1 or 2 slots, and the defaults of a body that states no more
abbrev pub task_spec : ℕ → ℕ → ℕ → TaskSpec
task_spec number a b = record {
  id = decimal number;
  line = drill_line;
  slots = 1 + a % 2;
  retries = None;
  wall = None;
  retention = Some DEFAULT_RETENTION;
  codes = [];
  ranges = [];
  launch = None;
  other = None;
  needs = needs_of number b;
  spans = spans_of number b;
  multi = None;
}

-- the exit code with which a run ends at this draw
abbrev pub exit_code_of : ℕ → ℤ
exit_code_of draw = if nat_eq (draw % 5) 0 then pos 1 else pos 0

-- the next task, or the turns after the last one, which are at most 4 for each task and 16 more
abbrev pub after_task : ℕ → ℕ → ℕ → Stage
after_task number count x = if nat_lt number count then AddingTask (number + 1) count x else Turning (4 * count + 16) x

-- a call and the stage after it
abbrev pub Asked : Type 0
Asked = (ℕ × EventKind) × Stage

-- a call at the moment of all calls of a drill
abbrev pub asked_for : EventKind → Stage → Asked
asked_for event next = ((DRILL_MOMENT_MS, event), next)

-- a task is added with two draws: its slots are from the first, and what it depends on from the second
abbrev pub add_call : ℕ → ℕ → ℕ → Asked
add_call number count x =
    let y = next_state x in
    let z = next_state y in
    asked_for (AddTask drill_id (task_spec number (draw_of y) (draw_of z))) (after_task number count z)

-- a turn takes the lowest queued run, if a turn is left and a run is queued
abbrev pub take_call : Option ℕ → ℕ → ℕ → Option Asked
take_call lowest left x = if nat_eq left 0 then None else option_map (λ run. asked_for (Take run) (Ending run (left - 1) x)) lowest

-- and ends that run with one draw, whatever the take was answered
abbrev pub end_call : ℕ → ℕ → ℕ → Asked
end_call run left x = let y = next_state x in asked_for (End run (Code (exit_code_of (draw_of y)))) (Turning left y)

-- the next call of a drill that stands at a stage, over these tables, and the stage after it; None at the end
abbrev pub asks : Stage → State → Option Asked
asks (AddingPool count) s = Some (asked_for (AddPool pool_spec) (AddingJob count))
asks (AddingJob count) s = Some (asked_for (AddJob drill_id job_spec) (AddingTask 1 count count))
asks (AddingTask number count x) s = Some (add_call number count x)
asks (Turning left x) s = take_call (lowest_queued s.runs) left x
asks (Ending run left x) s = Some (end_call run left x)

-- The entries are calls of a drill, from one stage over these tables to another: each is the call that is asked at its stage over the
-- tables after those before it.
abbrev pub Drills : Stage → ℕ → State → List Entry → Stage → Type 0
Drills stage seats s [] last = stage ≡ last
Drills stage seats s (e ∷ es) last = IsSomeAnd (asks stage s) (λ asked. (asked_of e ≡ asked.0) × Drills asked.1 seats (after_call seats s e) es last)

-- the entries are the first calls of a drill of this number of tasks
pub record BeginsDrill (count seats : ℕ) (s : State) (entries : List Entry) : Type 0 where
  pub last : Stage
  pub drills : Drills (AddingPool count) seats s entries last

-- the entries are all calls of a drill of this number of tasks
pub record IsDrilled (count seats : ℕ) (s : State) (entries : List Entry) : Type 0 where
  pub begun : BeginsDrill count seats s entries
  pub ended : asks begun.last (after_all seats s entries) ≡ None

-- the end is a success
abbrev pub is_success : Option Closed → Bool
is_success closed = option_map_or (λ (c : Closed). c.success) closed false

-- a task of the job that was completed with success
abbrev pub has_success : List ℕ → TaskRow → Bool
has_success job task = is_in_job job task && (is_completed task.stage && is_success task.closed)

-- one that was completed without
abbrev pub has_failure : List ℕ → TaskRow → Bool
has_failure job task = is_in_job job task && (is_completed task.stage && not (is_success task.closed))

-- one that is active
abbrev pub is_waiting : List ℕ → TaskRow → Bool
is_waiting job task = is_in_job job task && is_active task.stage

-- a run that names the job
abbrev pub is_run_of : List ℕ → RunRow → Bool
is_run_of job run = names run.job job

-- the rows of a job, counted
abbrev pub counts_of : List ℕ → State → DrillCounts
counts_of job s = record {
  tasks = count_by (is_in_job job) s.tasks;
  success = count_by (has_success job) s.tasks;
  failure = count_by (has_failure job) s.tasks;
  active = count_by (is_waiting job) s.tasks;
  runs = count_by (is_run_of job) s.runs;
}

-- the line of these counts after a drill of this number of tasks
unfoldable pub counts_line : ℕ → DrillCounts → List ℕ
counts_line count c =
    line (codes "drill" ∷ decimal count ∷ codes "tasks" ∷ decimal c.tasks ∷ codes "success" ∷ decimal c.success ∷ codes "failure" ∷ decimal c.failure
    ∷ codes "active" ∷ decimal c.active ∷ codes "runs" ∷ decimal c.runs ∷ [])

-- the line that sums up the tables after a drill of this number of tasks
abbrev pub summary_text : ℕ → State → List ℕ
summary_text count s = counts_line count (counts_of drill_id s)
