-- Release runs: an event makes none, a due step makes only the first one of a job on a node, and one that was made is there as long as
-- the job's row.
use Rattle.std.specs.Prelude.{◌≡◌, ◌≤◌, ℕ, max, Bool, true, ◌&&◌, nat_eq, List, None, is_none}
use Rattle.std.specs.List.{list_any}
use Rattle.batch_model.specs.Laws.{is_release_of, ReleasesFirst}
use Rattle.batch_model.specs.Rows.{job_of}
use Rattle.batch_model.specs.Steps.{DueStep}
use Rattle.batch_model.specs.Variants.{State, RunRow}
use Rattle.model_laws.specs.Releases.{releases_of}

-- the release run of the job on the node with this number
abbrev pub is_this_release : List ℕ → ℕ → ℕ → RunRow → Bool
is_this_release job node number run = is_release_of job node run && nat_eq run.number number

-- it is among the tables
abbrev pub has_release : State → List ℕ → ℕ → ℕ → Bool
has_release s job node number = list_any (is_this_release job node number) s.runs

-- it names no task
abbrev pub is_plain_release : List ℕ → ℕ → ℕ → RunRow → Bool
is_plain_release job node number run = is_this_release job node number run && is_none run.task

-- it is among the tables and names no task, as each release run that is made
abbrev pub has_plain_release : State → List ℕ → ℕ → ℕ → Bool
has_plain_release s job node number = list_any (is_plain_release job node number) s.runs

-- a release run that is there after a due step was there before it, or the step makes it: with a new number and no task, after the
-- job's preparation was completed on the node, and as the first one of the job there
pub data IsReleaseOf (before after : State) (job : List ℕ) (node number : ℕ) : Type 0 where
  was_there : has_release before job node number ≡ true → IsReleaseOf before after job node number
  is_made : before.next_run ≤ number → has_plain_release after job node number ≡ true → ReleasesFirst before job node →
      IsReleaseOf before after job node number

-- a release run is still there after a step, or the job's row is gone
pub data ReleaseStays (after : State) (job : List ℕ) (node number : ℕ) : Type 0 where
  still_there : has_plain_release after job node number ≡ true → ReleaseStays after job node number
  job_gone : job_of after job ≡ None → ReleaseStays after job node number

-- what an event does to release runs, from these tables to those after it: it makes none and drops none; only one that names a task
-- goes with it
pub record EventReleases (before after : State) : Type 0 where
  pub made : (job : List ℕ) (node number : ℕ) → has_release after job node number ≡ true → has_release before job node number ≡ true
  pub kept : (job : List ℕ) (node number : ℕ) → has_plain_release before job node number ≡ true → has_plain_release after job node number ≡ true

-- what a due step does to release runs: it makes at most one of a job on a node, the first one there after a completed preparation, and
-- drops one only with its job's row, or with the task that it names
pub record DueReleases (before : State) (step : DueStep) : Type 0 where
  pub made : (job : List ℕ) (node number : ℕ) → has_release step.state job node number ≡ true → IsReleaseOf before step.state job node number
  pub few : (job : List ℕ) (node : ℕ) → releases_of step.state job node ≤ max (releases_of before job node) 1
  pub kept : (job : List ℕ) (node number : ℕ) → has_plain_release before job node number ≡ true → ReleaseStays step.state job node number
