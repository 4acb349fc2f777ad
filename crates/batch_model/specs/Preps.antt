-- Preparations of jobs on nodes: their states, and new ones.
-- Source: Azure Batch documentation of job preparation and release; the form is this project's own.
use Rattle.std.specs.Prelude.{ℕ, Bool, true, false, List, if◌then◌else◌}
use Rattle.std.specs.Option.{option_map_or, is_some}
use Rattle.batch_model.specs.Rows.{prep_of, is_prep, change_preps}
use Rattle.batch_model.specs.Variants.{State, JobRow, StartTask, PrepRow, PrepState, PrepRunning, PrepCompleted, PrepFailed, ReleaseState, NoRelease}

-- tests of one state
abbrev pub is_prep_running : PrepState → Bool
is_prep_running PrepRunning = true
is_prep_running _ = false

abbrev pub is_prepared : PrepState → Bool
is_prepared PrepCompleted = true
is_prepared _ = false

abbrev pub is_prep_failed : PrepState → Bool
is_prep_failed PrepFailed = true
is_prep_failed _ = false

-- no release run was made
abbrev pub is_unreleased : ReleaseState → Bool
is_unreleased NoRelease = true
is_unreleased _ = false

-- the preparation of a job on a node begins
abbrev pub new_prep : List ℕ → ℕ → PrepRow
new_prep of_job on_node = record { job = of_job; node = on_node; state = PrepRunning; tries = 0; ran = false; release = NoRelease }

-- the preparation, changed in its place
abbrev pub change_prep : PrepRow → (PrepRow → PrepRow) → State → State
change_prep prep change s = change_preps (is_prep prep.job prep.node) change s

-- the preparation has failed
abbrev pub failed_preparation : PrepRow → PrepRow
failed_preparation prep = record prep { state = PrepFailed }

-- tasks wait for the job's preparation (Azure: waitForSuccess)
abbrev pub waits_for_preparation : JobRow → Bool
waits_for_preparation job = option_map_or (λ (preparation : StartTask). preparation.wait) job.prep false

-- the job's preparation has begun on the node
abbrev pub has_preparation : State → List ℕ → ℕ → Bool
has_preparation s job node = is_some (prep_of s job node)

-- the job's preparation has failed on the node
abbrev pub has_failed_preparation : State → List ℕ → ℕ → Bool
has_failed_preparation s job node = option_map_or (λ (prep : PrepRow). is_prep_failed prep.state) (prep_of s job node) false

-- the job's preparation is completed on the node
abbrev pub has_completed_preparation : State → List ℕ → ℕ → Bool
has_completed_preparation s job node = option_map_or (λ (prep : PrepRow). is_prepared prep.state) (prep_of s job node) false

-- the job's preparation is completed on the node, or not waited for
abbrev pub is_prepared_on : State → JobRow → ℕ → Bool
is_prepared_on s job node = if waits_for_preparation job then has_completed_preparation s job.id node else true
