-- The changes that stop tasks lead to the tables in which these are stopped.
use Rattle.std.proofs.Common.{◌≡◌, ℕ, Bool, true, false, ◌&&◌, List, [], ◌∷◌, Some, cond, map, nat_eq, refl, sym, ◌∙◌, ap}
use Rattle.bt_rows.specs.Changes.{apply_changes}
use Rattle.bt_rows.specs.Lists.{AreDistinct}
use Rattle.bt_rows.specs.Keys.{same_task, same_task_equiv, same_run, same_run_equiv}
use Rattle.bt_rows.specs.declared.tables.Change.TheVariants.{PutRun, PutTask}
use Rattle.batch_model.specs.Finding.{Each, only_if, change_where}
use Rattle.batch_model.specs.Rows.{change_runs, change_tasks}
use Rattle.batch_model.specs.Runs.{is_unended, halted, halted_in}
use Rattle.batch_model.specs.Stops.{is_stopped, is_run_of_stopped, wanting, stop}
use Rattle.batch_model.specs.Variants.{State, TaskRow, Want, RunRow, RunState, Waiting, Queued, Taken, Ended, Withdrawn}
use Rattle.row_changes.specs.Puts.{puts_of}
use Rattle.row_changes.proofs.PutsAfter.{put_is_change_after}
use Rattle.row_changes.proofs.PutsInPlace.{put_is_change_where}
use Rattle.row_changes.proofs.ListPuts.{apply_append, tasks_put, runs_put}
use Rattle.task_stops.specs.StopChanges.{is_to_halt, halted_run, stopped_task, stop_changes}

-- a halted run keeps its number
pub halted_number : (state : RunState) (now : ℕ) (run : RunRow) → (halted_in state now run).number ≡ run.number
halted_number Waiting now run = refl
halted_number Queued now run = refl
halted_number Taken now run = refl
halted_number (Ended ending) now run = refl
halted_number Withdrawn now run = refl

-- a run that has ended stays as it is
halted_ended : (state : RunState) (now : ℕ) (run : RunRow) → is_unended state ≡ false → halted_in state now run ≡ run
halted_ended Waiting now run h = cc
halted_ended Queued now run h = cc
halted_ended Taken now run h = cc
halted_ended (Ended ending) now run h = refl
halted_ended Withdrawn now run h = refl

-- it makes no difference whether runs that have ended are halted
halted_same : (p : Bool) (now : ℕ) (run : RunRow) (u : Bool) → is_unended run.state ≡ u → cond (u && p) (halted now run) run ≡ cond p (halted now run) run
halted_same true now run true i = refl
halted_same false now run true i = refl
halted_same true now run false i = sym (halted_ended run.state now run i)
halted_same false now run false i = refl

halted_all : (p : RunRow → Bool) (now : ℕ) (runs : List RunRow)
    → change_where (λ (run : RunRow). is_unended run.state && p run) (halted now) runs ≡ change_where p (halted now) runs
halted_all p now [] = refl
halted_all p now (run ∷ runs) = rw (halted_same (p run) now run (is_unended run.state) refl, halted_all p now runs) refl

-- the unended runs that pass a test are halted, and the others that pass it stay as they are
pub runs_halted : (p : RunRow → Bool) (s : State) → AreDistinct same_run s.runs
    → apply_changes (puts_of PutRun (λ run. only_if (is_unended run.state && p run) (Some (halted s.moment run))) s.runs) s ≡ change_runs p (halted s.moment) s
runs_halted p s runs =
    runs_put (λ run. only_if (is_unended run.state && p run) (Some (halted s.moment run))) s.runs s
    ∙ ap (λ rows. record s { runs = rows })
    (put_is_change_where same_run same_run_equiv (λ (run : RunRow). is_unended run.state && p run) (halted s.moment)
    (λ run other. ap (nat_eq other.number) (halted_number run.state s.moment run)) s.runs runs
    ∙ halted_all p s.moment s.runs)

-- the end is wanted of the tasks that are stopped
tasks_wanted : (test : TaskRow → Bool) (want : Want) (s : State) → AreDistinct same_task s.tasks
    → apply_changes (puts_of PutTask (stopped_task test want) s.tasks) s ≡ change_tasks (is_stopped test) (wanting want) s
tasks_wanted test want s tasks =
    tasks_put (stopped_task test want) s.tasks s
    ∙ ap (λ rows. record s { tasks = rows })
    (put_is_change_where same_task same_task_equiv (is_stopped test) (wanting want) (λ task other. refl) s.tasks tasks)

-- the tables in which the tasks are stopped, if the changes are those of tables with the same tasks and runs
pub stop_made : (test : TaskRow → Bool) (want : Want) (s : State) → AreDistinct same_task s.tasks → AreDistinct same_run s.runs
    → apply_changes (stop_changes test want s.moment s) s ≡ stop test want s
stop_made test want s tasks runs =
    apply_append (puts_of PutRun (halted_run test s.moment s) s.runs) (puts_of PutTask (stopped_task test want) s.tasks) s
    ∙ ap (apply_changes (puts_of PutTask (stopped_task test want) s.tasks)) (runs_halted (is_run_of_stopped test s) s runs)
    ∙ tasks_wanted test want (change_runs (is_run_of_stopped test s) (halted s.moment) s) tasks

-- the runs of `s` became what `now` makes of them. A run that is halted with the tasks is as it was, and others are not halted either
-- as they are now.
module _ (test : TaskRow → Bool) (want : Want) (s : State) (a : RunRow → Bool) (now : RunRow → RunRow)
    (number : (run : RunRow) → (now run).number ≡ run.number)
    (kept : (run : RunRow) → a run ≡ true → is_to_halt test s run ≡ true → now run ≡ run)
    (alike : (run : RunRow) → a run ≡ true → is_to_halt test s (now run) ≡ is_to_halt test s run) where
  -- the tables with the runs as they are now, and with the tasks of `s`
  abbrev with_runs : State → State
  with_runs u = record u { runs = map now s.runs; tasks = s.tasks; moment = s.moment }

  runs_stopped : (u : State) → Each a s.runs → AreDistinct same_run s.runs
      → apply_changes (puts_of PutRun (halted_run test s.moment s) s.runs) (with_runs u)
      ≡ change_runs (is_run_of_stopped test s) (halted s.moment) (with_runs u)
  runs_stopped u each runs =
      runs_put (halted_run test s.moment s) s.runs (with_runs u)
      ∙ ap (λ rows. record (with_runs u) { runs = rows })
      (put_is_change_after same_run same_run_equiv now (λ run other. ap (nat_eq other.number) (number run))
      (is_to_halt test s) (is_to_halt test s) (halted s.moment)
      (λ run other. ap (nat_eq other.number) (halted_number run.state s.moment run)) a kept alike s.runs runs each
      ∙ halted_all (is_run_of_stopped test s) s.moment (map now s.runs))

  -- the tables in which the tasks are stopped once the runs are as they are now; the changes were read off `s`
  pub stop_after : (u : State) → Each a s.runs → AreDistinct same_task s.tasks → AreDistinct same_run s.runs
      → apply_changes (stop_changes test want s.moment s) (with_runs u) ≡ stop test want (with_runs u)
  stop_after u each tasks runs =
      apply_append (puts_of PutRun (halted_run test s.moment s) s.runs) (puts_of PutTask (stopped_task test want) s.tasks) (with_runs u)
      ∙ ap (apply_changes (puts_of PutTask (stopped_task test want) s.tasks)) (runs_stopped u each runs)
      ∙ tasks_wanted test want (change_runs (is_run_of_stopped test s) (halted s.moment) (with_runs u)) tasks
