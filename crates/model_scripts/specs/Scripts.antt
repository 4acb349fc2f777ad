-- Scripts: calls from empty tables, each followed by due steps to rest, and what they show.
use Rattle.std.specs.Prelude.{ℕ, zero, suc, List, [], ◌∷◌, map, Option, Some, None, Bool}
use Rattle.std.specs.Option.{option_map}
use Rattle.bt_rows.specs.declared.event.EventKind.{EventKind}
use Rattle.bt_rows.specs.declared.reply.Reply.{Reply}
use Rattle.bt_rows.specs.declared.due.Due.{Due}
use Rattle.batch_model.specs.Variants.{State, empty_state, Alloc, PoolRow, NodeStage, NodeRow, JobState, JobRow, TaskStage, How, Closed, TaskRow, RunKind}
use Rattle.batch_model.specs.Variants.{RunState, RunRow}
use Rattle.batch_model.specs.Slots.{held_slots}
use Rattle.batch_model.specs.Steps.{Answered, DueStep}
use Rattle.batch_model.specs.Dues.{due_step}
use Rattle.batch_model.specs.Events.{event_step}
use Rattle.batch_model.specs.Opening.{opening}

-- calls

-- a call: a moment and an event
pub record Call : Type 0 where
  pub moment : ℕ
  pub event : EventKind

abbrev pub at : ℕ → EventKind → Call
at now what = record { moment = now; event = what }

-- what a call shows: its reply and the due steps after it
pub record Line : Type 0 where
  pub reply : Reply
  pub dues : List Due

abbrev pub line : Reply → List Due → Line
line answer steps = record { reply = answer; dues = steps }

-- running

-- due steps, and the tables after them
pub record Rested : Type 0 where
  pub dues : List Due
  pub state : State

abbrev pub after_step : DueStep → Rested → Rested
after_step step rested = record { dues = step.due ∷ rested.dues; state = rested.state }

-- due steps to rest, at most so many
abbrev pub rest : ℕ → ℕ → State → Rested
rest zero seats s = record { dues = []; state = s }
rest (suc most) seats s = elim (due_step seats s) [ None ↦ record { dues = []; state = s } | Some step ↦ after_step step (rest most seats step.state) ]

-- the lines of several calls, and the tables after them
pub record Shown : Type 0 where
  pub lines : List Line
  pub state : State

abbrev pub with_line : Line → Shown → Shown
with_line first shown = record { lines = first ∷ shown.lines; state = shown.state }

abbrev pub line_of : Answered → Rested → Line
line_of answered rested = record { reply = answered.reply; dues = rested.dues }

-- the calls in order, with at most 40 due steps after each
abbrev pub run : ℕ → List Call → State → Shown
run seats [] s = record { lines = []; state = s }
run seats (call ∷ calls) s =
    let answered = event_step call.moment call.event s in
    let rested = rest 40 seats answered.state in
    with_line (line_of answered rested) (run seats calls rested.state)

-- the seats of every script
abbrev pub seat_count : ℕ
seat_count = 8

-- the lines of the calls from empty tables
abbrev pub lines_of : List Call → List Line
lines_of calls = (run seat_count calls empty_state).lines

-- the tables after them
abbrev pub state_after : List Call → State
state_after calls = (run seat_count calls empty_state).state

-- rows

-- id, whether it is deleted, allocation, target, and the moment at which it began to resize
abbrev pub pool_row : PoolRow → List ℕ × Bool × Alloc × ℕ × ℕ
pool_row pool = (pool.id, pool.deleting, pool.alloc, pool.dedicated, pool.began)

-- number, pool, seat and stage
abbrev pub node_row : NodeRow → ℕ × List ℕ × ℕ × NodeStage
node_row node = (node.number, node.pool, node.seat, node.stage)

-- id, pool, state, and the moment of adding
abbrev pub job_row : JobRow → List ℕ × List ℕ × JobState × ℕ
job_row job = (job.id, job.pool, job.state, job.created)

-- how a task was closed: how, with success, satisfying its dependents, and when
abbrev pub closing : Closed → How × Bool × Bool × ℕ
closing closed = (closed.how, closed.success, closed.satisfies, closed.at)

-- job, id, stage, attempts, failures, the moment of its start, and its closing
abbrev pub task_row : TaskRow → List ℕ × List ℕ × TaskStage × ℕ × ℕ × Option ℕ × Option (How × Bool × Bool × ℕ)
task_row task = (task.job, task.id, task.stage, task.attempt, task.failures, task.started, option_map closing task.closed)

-- the job and the task of a run, and the attempt
abbrev pub work_of : RunRow → Option (List ℕ) × Option (List ℕ) × ℕ
work_of run = (run.job, run.task, run.attempt)

-- number, kind, node, pool, what it is of, state, and the moments at which it was made, taken and ended
abbrev pub run_row : RunRow → ℕ × RunKind × ℕ × List ℕ × (Option (List ℕ) × Option (List ℕ) × ℕ) × RunState × ℕ × Option ℕ × Option ℕ
run_row run = (run.number, run.kind, run.node, run.pool, work_of run, run.state, run.made, run.taken, run.ended)

-- the tables' rows in order, and the last moment
pub record Sheet : Type 0 where
  pub pools : List (List ℕ × Bool × Alloc × ℕ × ℕ)
  pub nodes : List (ℕ × List ℕ × ℕ × NodeStage)
  pub jobs : List (List ℕ × List ℕ × JobState × ℕ)
  pub tasks : List (List ℕ × List ℕ × TaskStage × ℕ × ℕ × Option ℕ × Option (How × Bool × Bool × ℕ))
  pub runs : List (ℕ × RunKind × ℕ × List ℕ × (Option (List ℕ) × Option (List ℕ) × ℕ) × RunState × ℕ × Option ℕ × Option ℕ)
  pub moment : ℕ

abbrev pub sheet_of : State → Sheet
sheet_of s = record {
  pools = map pool_row s.pools;
  nodes = map node_row s.nodes;
  jobs = map job_row s.jobs;
  tasks = map task_row s.tasks;
  runs = map run_row s.runs;
  moment = s.moment;
}

-- the rows after the calls from empty tables
abbrev pub rows_after : List Call → Sheet
rows_after calls = sheet_of (state_after calls)

-- the slots held on each node after them
abbrev pub held_after : List Call → List ℕ
held_after calls = let s = state_after calls in map (λ (node : NodeRow). held_slots s node.number) s.nodes

-- the failures of the start task on each node after them
abbrev pub tries_after : List Call → List ℕ
tries_after calls = map (λ (node : NodeRow). node.tries) (state_after calls).nodes

-- opened tables

-- what the calls show from the opening of the tables that earlier calls leave
abbrev pub run_opened : List Call → List Call → Shown
run_opened earlier calls = run seat_count calls (opening (state_after earlier))

-- their lines
abbrev pub lines_opened : List Call → List Call → List Line
lines_opened earlier calls = (run_opened earlier calls).lines

-- the rows after them
abbrev pub rows_opened : List Call → List Call → Sheet
rows_opened earlier calls = sheet_of (run_opened earlier calls).state
