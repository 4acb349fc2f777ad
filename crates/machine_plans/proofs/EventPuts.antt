-- What events put into the tables.
use Rattle.std.proofs.Common.{◌≡◌, ℕ, false, Option, Some, None, is_some, refl, sym, ap, subst}
use Rattle.std.specs.List.{find}
use Rattle.std.proofs.lemmas.Bool.Decides.{Decides-eqb}
use Rattle.bt_rows.specs.declared.tables.Change.TheVariants.{PutPool, PutJob, PutTask, PutRun}
use Rattle.bt_rows.specs.Changes.{apply_change}
use Rattle.bt_rows.specs.Keys.{same_run, same_run_equiv}
use Rattle.batch_model.specs.Rows.{is_pool, is_job, is_task, is_run, pool_of, job_of, task_of, run_of, add_pool_row, add_job_row, add_task_row, change_runs}
use Rattle.batch_model.specs.Events.{ended_run}
use Rattle.batch_model.specs.WellFormed.{KeysAreDistinct}
use Rattle.batch_model.specs.Variants.{State, PoolRow, JobRow, TaskRow, RunRow, Ending}
use Rattle.model_lists.proofs.RowLists.{find_test}
use Rattle.model_lists.proofs.Putting.{put_row-new, any-not_found, put_row-found}

-- nothing is there
is_nothing : {A : Type 0} (o : Option A) → is_some o ≡ false → o ≡ None
is_nothing None e = refl
is_nothing (Some x) e = cc

-- new rows

-- a pool whose id no pool has
pub pool_put : (row : PoolRow) (s : State) → is_some (pool_of s row.id) ≡ false → apply_change (PutPool row) s ≡ add_pool_row row s
pool_put row s new =
    ap (λ pools. record s { pools = pools }) (put_row-new (is_pool row.id) row s.pools (any-not_found (is_pool row.id) s.pools (is_nothing (pool_of s row.id) new)))

-- a job whose id no job has
pub job_put : (row : JobRow) (s : State) → is_some (job_of s row.id) ≡ false → apply_change (PutJob row) s ≡ add_job_row row s
job_put row s new =
    ap (λ jobs. record s { jobs = jobs }) (put_row-new (is_job row.id) row s.jobs (any-not_found (is_job row.id) s.jobs (is_nothing (job_of s row.id) new)))

-- a task whose job and id no task has
pub task_put : (row : TaskRow) (s : State) → is_some (task_of s row.job row.id) ≡ false → apply_change (PutTask row) s ≡ add_task_row row s
task_put row s new =
    ap (λ tasks. record s { tasks = tasks })
    (put_row-new (is_task row.job row.id) row s.tasks (any-not_found (is_task row.job row.id) s.tasks (is_nothing (task_of s row.job row.id) new)))

-- changed runs

-- the run with a number is the one with its own
pub own_number : (number : ℕ) (run : RunRow) (s : State) → run_of s number ≡ Some run → run_of s run.number ≡ Some run
own_number number run s e =
    subst (λ n. find (is_run n) s.runs ≡ Some run) (sym ((Decides-eqb run.number number).0 (find_test (is_run number) run s.runs e))) e

module _ (s : State) (keys : KeysAreDistinct s) (run : RunRow) (there : run_of s run.number ≡ Some run) where
  -- a run in its place, with its number
  run_put : (now : ℕ) (change : RunRow → RunRow) → ((x : RunRow) → same_run x (change run) ≡ same_run x run) → apply_change (PutRun (change run)) (record s { moment = now }) ≡ change_runs (is_run run.number) change (record s { moment = now })
  run_put now change keeps =
      ap (λ runs. record s { moment = now; runs = runs })
      (put_row-found same_run same_run_equiv (is_run run.number) change run (λ x. refl) keeps s.runs keys.runs there)

  -- the run has ended; what else its ending does is not put yet
  pub ended_put : (now : ℕ) (ending : Ending) → apply_change (PutRun (ended_run now ending run)) (record s { moment = now }) ≡ change_runs (is_run run.number) (ended_run now ending) (record s { moment = now })
  ended_put now ending = run_put now (ended_run now ending) (λ x. refl)
