-- The job that is found by a task's id tells whether the task is one of a job in the pool.
use Rattle.std.proofs.Common.{◌≡◌, ℕ, Bool, true, false, ◌&&◌, List, Option, find, refl, sym, ◌∙◌, ap}
use Rattle.std.specs.Option.{option_map_or}
use Rattle.bt_base.specs.Ids.{same}
use Rattle.bt_base.proofs.SameIds.{same_equiv}
use Rattle.bt_rows.specs.Keys.{same_job}
use Rattle.bt_rows.specs.Lists.{AreDistinct}
use Rattle.batch_model.specs.Jobs.{is_job_active}
use Rattle.batch_model.specs.Metrics.{has_task_in_pool, is_for_active_job, is_for_pool}
use Rattle.batch_model.specs.Rows.{is_job}
use Rattle.batch_model.specs.Variants.{State, JobRow, TaskRow}
use Rattle.model_lists.proofs.RowLists.{any_agree}
use Rattle.task_readiness.proofs.Satisfied.{any_with_key}

-- jobs with one id have the same key
alike_jobs : (id : List ℕ) (x y : JobRow) → is_job id x ≡ true → is_job id y ≡ true → same_job x y ≡ true
alike_jobs id x y h k = same_equiv.congr x.id id y.id h ∙ same_equiv.symm id y.id ∙ k

pub in_pool : (s : State) (pool : List ℕ) (task : TaskRow) (found : Option JobRow) → AreDistinct same_job s.jobs → found ≡ find (is_job task.job) s.jobs
    → option_map_or (λ (job : JobRow). same job.pool pool) found false ≡ is_for_pool s pool task
in_pool s pool task found d e =
    ap (λ o. option_map_or (λ (job : JobRow). same job.pool pool) o false) e
    ∙ sym (any_with_key same_job (is_job task.job) (λ job. same job.pool pool) (alike_jobs task.job) s.jobs d)

grouped : (a b c : Bool) → (a && (b && c)) ≡ ((a && b) && c)
grouped true b c = refl
grouped false b c = refl

pub in_active_job : (s : State) (pool : List ℕ) (task : TaskRow) (found : Option JobRow) → AreDistinct same_job s.jobs → found ≡ find (is_job task.job) s.jobs
    → option_map_or (λ (job : JobRow). same job.pool pool && is_job_active job.state) found false ≡ is_for_active_job s pool task
in_active_job s pool task found d e =
    ap (λ o. option_map_or (λ (job : JobRow). same job.pool pool && is_job_active job.state) o false) e
    ∙ sym (any_with_key same_job (is_job task.job) (λ job. same job.pool pool && is_job_active job.state) (alike_jobs task.job) s.jobs d)
    ∙ any_agree (λ job. is_job task.job job && (same job.pool pool && is_job_active job.state)) (λ job. has_task_in_pool pool task job && is_job_active job.state)
    (λ job. grouped (is_job task.job job) (same job.pool pool) (is_job_active job.state)) s.jobs
