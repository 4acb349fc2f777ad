-- The numbers that due steps lower, compared from the first one on.
-- Source: this project's own.
use Rattle.std.specs.Prelude.{ℕ, ◌+◌, ◌-◌, ◌*◌, Bool, true, false, not, ◌&&◌, List, [], ◌∷◌, count_by, sum_by, is_some, is_none, if◌then◌else◌}
use Rattle.batch_model.specs.Tasks.{is_active, is_placed, is_completed, is_busy}
use Rattle.batch_model.specs.JobRules.{wants_release}
use Rattle.batch_model.specs.WallTimes.{can_be_asked}
use Rattle.batch_model.specs.Pools.{is_steady, staying_count}
use Rattle.batch_model.specs.PoolEvents.{is_leaving_from}
use Rattle.batch_model.specs.Scaling.{is_to_sample, is_to_scale}
use Rattle.batch_model.specs.Variants.{State, PoolRow, JobRow, JobState, JobActive, Disabling, Disabled, Enabling, Terminating, JobCompleted, Deleting, TaskRow}

-- pools that are to be sampled, and pools whose formula is to be evaluated
abbrev pub scaling_left : State → ℕ
scaling_left s = count_by (is_to_sample s) s.pools + count_by (is_to_scale s) s.pools

-- how many states at most a job passes through before it is completed, by its state
abbrev pub steps_of_job : JobState → ℕ
steps_of_job Enabling = 6
steps_of_job JobActive = 5
steps_of_job Disabling = 4
steps_of_job Disabled = 3
steps_of_job Terminating = 1
steps_of_job Deleting = 1
steps_of_job JobCompleted = 0

-- over all jobs
abbrev pub jobs_left : State → ℕ
jobs_left s = sum_by (λ (job : JobRow). steps_of_job job.state) s.jobs

-- one more if it does not hold
abbrev pub one_unless : Bool → ℕ
one_unless true = 0
one_unless false = 1

-- how many nodes of the pool are leaving
abbrev pub leaving_count : State → List ℕ → ℕ
leaving_count s pool = count_by (is_leaving_from pool) s.nodes

-- nodes that are to leave, and nodes that are to be added: one that is to leave counts three, since it then leaves, and is dropped
abbrev pub nodes_to_go : State → PoolRow → ℕ
nodes_to_go s pool = 3 * (staying_count s pool.id - pool.dedicated) + (pool.dedicated - staying_count s pool.id)

-- these, a node that is leaving, which counts one, and a pool that is not steady, which counts one
abbrev pub steps_of_pool : State → PoolRow → ℕ
steps_of_pool s pool = nodes_to_go s pool + leaving_count s pool.id + one_unless (is_steady pool.alloc)

-- over all pools
abbrev pub pools_left : State → ℕ
pools_left s = sum_by (steps_of_pool s) s.pools

-- a placed task that has started, and that can be stopped yet when its wall time is over
abbrev pub can_time_out : TaskRow → Bool
can_time_out task = is_placed task.stage && is_some task.started && is_none task.wanted

-- tasks that are not completed, and tasks that can be stopped yet
abbrev pub tasks_to_end : State → ℕ
tasks_to_end s = count_by (λ (task : TaskRow). not (is_completed task.stage)) s.tasks + count_by can_time_out s.tasks

-- release runs to be made, and release runs that can be asked to stop yet
abbrev pub releases_left : State → ℕ
releases_left s = count_by wants_release s.preps + count_by can_be_asked s.runs

-- all of these
abbrev pub ends_left : State → ℕ
ends_left s = tasks_to_end s + releases_left s

-- a task to place counts one, and one to settle two
abbrev pub steps_of_task : State → TaskRow → ℕ
steps_of_task s task =
    if is_active task.stage then 1
    else if is_placed task.stage && not (is_busy s task) then 2
    else 0

-- over all tasks
abbrev pub tasks_left : State → ℕ
tasks_left s = sum_by (steps_of_task s) s.tasks

-- the numbers in order
abbrev pub rank : State → List ℕ
rank s = scaling_left s ∷ jobs_left s ∷ pools_left s ∷ ends_left s ∷ tasks_left s ∷ []
