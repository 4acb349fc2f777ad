-- The changes that remove a job.
use Rattle.std.specs.Prelude.{Bool, ℕ, List, ◌++◌}
use Rattle.bt_base.specs.Ids.{same}
use Rattle.bt_rows.specs.declared.tables.Change.{Change}
use Rattle.batch_model.specs.Finding.{names}
use Rattle.batch_model.specs.Rows.{is_job}
use Rattle.batch_model.specs.Tasks.{is_in_job}
use Rattle.batch_model.specs.Variants.{State, RunRow, PrepRow}
use Rattle.row_changes.specs.Puts.{changes_where, job_drop, task_drop, run_drop, prep_drop}

-- a run that names the job
abbrev pub is_run_of_job : List ℕ → RunRow → Bool
is_run_of_job job run = names run.job job

-- a preparation of the job
abbrev pub is_prep_of_job : List ℕ → PrepRow → Bool
is_prep_of_job job prep = same prep.job job

-- the drops of its row, its tasks, its runs and its preparations
abbrev pub removal : List ℕ → State → List Change
removal job s =
    changes_where job_drop (is_job job) s.jobs
    ++ changes_where task_drop (is_in_job job) s.tasks
    ++ changes_where run_drop (is_run_of_job job) s.runs
    ++ changes_where prep_drop (is_prep_of_job job) s.preps
