-- Preparations for which a release run is to be made.
use Rattle.std.specs.Prelude.{Bool, false, ◌&&◌, is_some}
use Rattle.std.specs.Option.{option_map_or}
use Rattle.batch_model.specs.JobRules.{is_releasing, wants_release}
use Rattle.batch_model.specs.Rows.{job_of, node_of}
use Rattle.batch_model.specs.Variants.{State, JobRow, PrepRow}

-- the job has a release task
abbrev pub has_release_task : JobRow → Bool
has_release_task job = is_some job.release

-- the job is releasing, and has a release task
abbrev pub has_release : State → JobRow → Bool
has_release s job = is_some job.release && is_releasing s job

-- the preparation wants a release run, and its node and its releasing job are there
abbrev pub is_to_release : State → PrepRow → Bool
is_to_release s prep =
    wants_release prep && is_some (node_of s prep.node) && option_map_or (has_release s) (job_of s prep.job) false
