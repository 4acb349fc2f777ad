-- Changes of tables that make no run.
use Rattle.std.proofs.Common.{◌≡◌, ℕ, Bool, true, not, ◌||◌, List, Some, find, refl}
use Rattle.bt_rows.specs.Keys.{same_run, same_run_equiv}
use Rattle.bt_rows.specs.Lists.{AreDistinct}
use Rattle.bt_rows.specs.declared.event.DisableTasks.{DisableTasks}
use Rattle.bt_rows.specs.declared.event.DisableTasks.TheVariants.{Requeue, Terminate, Wait}
use Rattle.batch_model.specs.Dues.{is_start_run_of, drop_pool}
use Rattle.batch_model.specs.Events.{taken_run, run_taken, ended_run}
use Rattle.batch_model.specs.Leaving.{leave}
use Rattle.batch_model.specs.Rows.{is_run, change_runs}
use Rattle.batch_model.specs.Runs.{is_unended, is_run_of_task}
use Rattle.batch_model.specs.Settling.{drop_task}
use Rattle.batch_model.specs.Stops.{stop, disable, close}
use Rattle.batch_model.specs.Variants.{State, PoolRow, NodeRow, Dealloc, ByRequeue, ByTerminate, TaskCompletion, RetainedData, JobRow, JobState, TaskRow}
use Rattle.batch_model.specs.Variants.{Want, Ending, RunRow}
use Rattle.model_lists.proofs.DistinctLists.{each_with_key}
use Rattle.model_lists.proofs.Tests.{asked}
use Rattle.model_laws.proofs.LastingRuns.{changed, changed_where, dropped, stopped, closed, disabled, left}
use Rattle.model_laws.proofs.StayingRuns.{stop_stays, close_stays, disable_stays, leave_stays, drop_pool_stays, drop_stays, end_stays, take_stays}
use Rattle.model_laws.proofs.MadeRuns.{Lasts}

-- tasks are stopped
pub stop_lasts : (of : TaskRow → Bool) (want : Want) (s : State) → Lasts s (stop of want s)
stop_lasts of want s = record {
  runs = λ test lasts. stopped test lasts of want s;
  stay = λ test staying. stop_stays test staying of want s;
  next = refl;
}

-- a job is closed
pub close_lasts : (state : JobState) (why : List ℕ) (row : JobRow) (s : State) → Lasts s (close state why row s)
close_lasts state why row s = record {
  runs = λ test lasts. closed test lasts state why row s;
  stay = λ test staying. close_stays test staying state why row s;
  next = refl;
}

-- a job is disabled
pub disable_lasts : (option : DisableTasks) (row : JobRow) (s : State) → Lasts s (disable row option s)
disable_lasts option row s = record {
  runs = λ test lasts. disabled test lasts option row s;
  stay = λ test staying. disable_stays test staying option row s;
  next = by_option option;
}
  where
    by_option : (how : DisableTasks) → (disable row how s).next_run ≡ s.next_run
    by_option Requeue = refl
    by_option Terminate = refl
    by_option Wait = refl

-- nodes leave
pub leave_lasts : (option : Dealloc) (of : NodeRow → Bool) (s : State) → Lasts s (leave option of s)
leave_lasts option of s = record {
  runs = λ test lasts. left test lasts option of s;
  stay = λ test staying. leave_stays test staying option of s;
  next = by_option option;
}
  where
    by_option : (by : Dealloc) → (leave by of s).next_run ≡ s.next_run
    by_option ByRequeue = refl
    by_option ByTerminate = refl
    by_option TaskCompletion = refl
    by_option RetainedData = refl

-- a pool is dropped with its start runs
pub drop_pool_lasts : (pool : PoolRow) (s : State) → Lasts s (drop_pool pool s)
drop_pool_lasts pool s = record {
  runs = λ test lasts. dropped test (λ run. not (is_start_run_of pool.id run)) s.runs;
  stay = λ test staying. drop_pool_stays test staying pool s;
  next = refl;
}

-- a task is dropped with its runs
pub drop_lasts : (task : TaskRow) (s : State) → Lasts s (drop_task task s)
drop_lasts task s = record {
  runs = λ test lasts. dropped test (λ run. not (is_run_of_task task.job task.id run)) s.runs;
  stay = λ test staying. drop_stays test staying task s;
  next = refl;
}

-- the run has ended
pub ended_lasts : (number : ℕ) (ending : Ending) (s : State) → Lasts s (change_runs (is_run number) (ended_run s.moment ending) s)
ended_lasts number ending s = record {
  runs = λ test lasts. changed test (is_run number) (ended_run s.moment ending) s (λ run t. lasts.if_ended s.moment ending run);
  stay = λ test staying. end_stays test staying (is_run number) ending s;
  next = refl;
}

-- an unended run is taken
pub taken_lasts : (run : RunRow) (s : State) → AreDistinct same_run s.runs → find (is_run run.number) s.runs ≡ Some run → is_unended run.state ≡ true
    → Lasts s (run_taken s run)
taken_lasts run s keys found open_yet = record {
  runs =
      λ test lasts. changed_where test (λ row. not (is_run run.number row) || is_unended row.state) (is_run run.number) (taken_run s.moment) s
      (λ row a t. lasts.if_taken s.moment row (asked (is_run run.number row) (is_unended row.state) a t))
      (each_with_key same_run same_run_equiv (λ (row : RunRow). is_unended row.state) run run s.runs keys found open_yet);
  stay = λ test staying. take_stays test staying (is_run run.number) s;
  next = refl;
}
