-- Runs: each number is made once, each run ends once, and a task's run is taken for the present attempt alone.
use Rattle.std.specs.Prelude.{◌≡◌, ◌<◌, ◌≤◌, ℕ, Bool, true, false, not, ◌&&◌, nat_eq, Option, Some, None}
use Rattle.std.specs.List.{list_any}
use Rattle.bt_rows.specs.declared.event.EventKind.TheVariants.{Take}
use Rattle.bt_rows.specs.declared.refusal.Refusal.TheVariants.{RunNotFound, RunAlreadyEnded}
use Rattle.bt_rows.specs.declared.reply.Reply.{Reply}
use Rattle.bt_rows.specs.declared.reply.Reply.TheVariants.{Status, Refused}
use Rattle.batch_model.specs.Events.{event_step, is_task_of_run}
use Rattle.batch_model.specs.Preps.{is_prepared_on}
use Rattle.batch_model.specs.Rows.{job_of, task_of, run_of}
use Rattle.batch_model.specs.Runs.{is_ended, is_unended, is_work, is_present}
use Rattle.batch_model.specs.Tasks.{is_placed}
use Rattle.batch_model.specs.Variants.{State, JobRow, TaskRow, RunRow}

-- there is a run with this number that has not ended
abbrev pub is_open : State → ℕ → Bool
is_open s number = list_any (λ run. nat_eq run.number number && not (is_ended run.state)) s.runs

-- the run was there before, as what it is now but for how far it has come, and if it is unended, it was so then
pub record IsSameRun (before : Option RunRow) (run : RunRow) : Type 0 where
  pub earlier : RunRow
  pub there : before ≡ Some earlier
  pub kind : run.kind ≡ earlier.kind
  pub node : run.node ≡ earlier.node
  pub pool : run.pool ≡ earlier.pool
  pub job : run.job ≡ earlier.job
  pub task : run.task ≡ earlier.task
  pub attempt : run.attempt ≡ earlier.attempt
  pub line : run.line ≡ earlier.line
  pub slots : run.slots ≡ earlier.slots
  pub made : run.made ≡ earlier.made
  pub unended : is_unended run.state ≡ true → is_unended earlier.state ≡ true

-- the step makes no run with a number that was given before, whether its run is gone or there: a run with such a number was there, and is
-- the same one. No run that has ended is one that has not
pub record KeepsRuns (before after : State) : Type 0 where
  pub counter : before.next_run ≤ after.next_run
  pub gone : (number : ℕ) → number < before.next_run → run_of before number ≡ None → run_of after number ≡ None
  pub same : (number : ℕ) (run : RunRow) → number < before.next_run → run_of after number ≡ Some run → IsSameRun (run_of before number) run
  pub closed : (number : ℕ) → number < before.next_run → is_open before number ≡ false → is_open after number ≡ false

-- the run is of the present attempt of a placed task, and its job's preparation on the run's node is completed or not waited for, if the
-- job has one
pub record IsOfPresent (s : State) (run : RunRow) : Type 0 where
  pub job : JobRow
  pub task : TaskRow
  pub job_there : job_of s task.job ≡ Some job
  pub task_there : task_of s task.job task.id ≡ Some task
  pub of_task : is_task_of_run run task ≡ true
  pub placed : is_placed task.stage ≡ true
  pub present : is_present task run ≡ true
  pub prepared : is_prepared_on s job run.node ≡ true

-- if a `take` of a task's run is accepted, the run is such
abbrev pub TakesPresent : State → Type 0
TakesPresent s =
    (moment number : ℕ) (run : RunRow) → run_of s number ≡ Some run → is_work run.kind ≡ true → (event_step moment (Take number) s).reply ≡ Status 200 →
    IsOfPresent s run

-- the reply to an `end` that is refused since the run has ended, or is not there
pub data RefusesEnd : Reply → Type 0 where
  of_ended : RefusesEnd (Refused RunAlreadyEnded)
  of_absent : RefusesEnd (Refused RunNotFound)
