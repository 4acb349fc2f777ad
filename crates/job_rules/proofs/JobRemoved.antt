-- The drops of a job lead to the tables without it.
use Rattle.std.proofs.Common.{◌≡◌, ℕ, List, ◌++◌, filter, not, ◌∙◌, ap}
use Rattle.bt_rows.specs.Changes.{apply_changes}
use Rattle.batch_model.specs.JobRules.{drop_job}
use Rattle.batch_model.specs.Rows.{is_job}
use Rattle.batch_model.specs.Tasks.{is_in_job}
use Rattle.batch_model.specs.WellFormed.{KeysAreDistinct}
use Rattle.batch_model.specs.Variants.{State}
use Rattle.row_changes.specs.Puts.{changes_where, job_drop, task_drop, run_drop, prep_drop}
use Rattle.row_changes.proofs.ListPuts.{apply_append, jobs_dropped, tasks_dropped, runs_dropped, preps_dropped}
use Rattle.job_rules.specs.Removals.{is_run_of_job, is_prep_of_job, removal}

module _ (job : List ℕ) (s : State) (keys : KeysAreDistinct s) where
  -- the tables without so many of the lists' rows

  abbrev no_job : State
  no_job = record s { jobs = filter (λ row. not (is_job job row)) s.jobs }

  abbrev no_tasks : State
  no_tasks = record no_job { tasks = filter (λ task. not (is_in_job job task)) s.tasks }

  abbrev no_runs : State
  no_runs = record no_tasks { runs = filter (λ run. not (is_run_of_job job run)) s.runs }

  pub removed : apply_changes (removal job s) s ≡ drop_job job s
  removed =
      apply_append
      (changes_where job_drop (is_job job) s.jobs ++ changes_where task_drop (is_in_job job) s.tasks ++ changes_where run_drop (is_run_of_job job) s.runs)
      (changes_where prep_drop (is_prep_of_job job) s.preps) s
      ∙ ap (apply_changes (changes_where prep_drop (is_prep_of_job job) s.preps))
      (apply_append (changes_where job_drop (is_job job) s.jobs ++ changes_where task_drop (is_in_job job) s.tasks) (changes_where run_drop (is_run_of_job job) s.runs) s
      ∙ ap (apply_changes (changes_where run_drop (is_run_of_job job) s.runs))
      (apply_append (changes_where job_drop (is_job job) s.jobs) (changes_where task_drop (is_in_job job) s.tasks) s
      ∙ ap (apply_changes (changes_where task_drop (is_in_job job) s.tasks)) (jobs_dropped (is_job job) s keys.jobs)
      ∙ tasks_dropped (is_in_job job) no_job keys.tasks)
      ∙ runs_dropped (is_run_of_job job) no_tasks keys.runs)
      ∙ preps_dropped (is_prep_of_job job) no_runs keys.preps
