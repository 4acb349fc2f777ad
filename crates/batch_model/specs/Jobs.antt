-- Jobs: their states, and new ones.
-- Source: Azure Batch REST reference, JobState and the properties of Job; the form is this project's own.
use Rattle.std.specs.Prelude.{ℕ, Bool, true, false, List, None}
use Rattle.bt_rows.specs.declared.event.JobSpec.{JobSpec}
use Rattle.batch_model.specs.Variants.{JobRow, JobState, JobActive, Disabling, Disabled, Enabling, Terminating, JobCompleted, Deleting}

-- tests of one state
abbrev pub is_job_active : JobState → Bool
is_job_active JobActive = true
is_job_active _ = false

abbrev pub is_disabling : JobState → Bool
is_disabling Disabling = true
is_disabling _ = false

abbrev pub is_disabled : JobState → Bool
is_disabled Disabled = true
is_disabled _ = false

abbrev pub is_enabling : JobState → Bool
is_enabling Enabling = true
is_enabling _ = false

abbrev pub is_job_completed : JobState → Bool
is_job_completed JobCompleted = true
is_job_completed _ = false

abbrev pub is_job_deleting : JobState → Bool
is_job_deleting Deleting = true
is_job_deleting _ = false

-- terminating or deleting
abbrev pub is_closing : JobState → Bool
is_closing Terminating = true
is_closing Deleting = true
is_closing _ = false

-- active, disabling or disabled
abbrev pub can_disable : JobState → Bool
can_disable JobActive = true
can_disable Disabling = true
can_disable Disabled = true
can_disable _ = false

-- terminating, completed or deleting
abbrev pub is_past : JobState → Bool
is_past Terminating = true
is_past JobCompleted = true
is_past Deleting = true
is_past _ = false

-- disabled, enabling or completed
abbrev pub is_quiet : JobState → Bool
is_quiet Disabled = true
is_quiet Enabling = true
is_quiet JobCompleted = true
is_quiet _ = false

-- the job in a state
abbrev pub job_in : JobState → JobRow → JobRow
job_in next job = record job { state = next }

-- a job is added active
abbrev pub new_job : ℕ → List ℕ → List ℕ → JobSpec → JobRow
new_job now named in_pool spec = record {
  id = named;
  pool = in_pool;
  state = JobActive;
  priority = spec.priority;
  parallel = spec.parallel;
  retries = spec.retries;
  wall = spec.wall;
  deps = spec.deps;
  on_all = spec.on_all;
  on_fail = spec.on_fail;
  prep = spec.prep;
  release = spec.release;
  created = now;
  reason = None;
}
