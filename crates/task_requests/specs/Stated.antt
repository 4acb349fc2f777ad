-- What exit options state.
use Rattle.std.specs.Prelude.{Bool}
use Rattle.batch_model.specs.Events.{has_dependency_action, has_job_action}
use Rattle.batch_model.specs.Variants.{Given}
use Rattle.task_requests.specs.declared.task.Stated.{Stated}
use Rattle.task_requests.specs.declared.task.Stated.TheVariants.{DependencyAction, JobAction}

-- the exit options state what the word says
abbrev pub is_stated : Stated → Given → Bool
is_stated DependencyAction = has_dependency_action
is_stated JobAction = has_job_action
