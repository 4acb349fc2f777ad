-- Preparation and release tasks in the body of `add-job`.
use Rattle.std.specs.Prelude.{Bool, true, false, Option, Some, None, Result, Ok, Err, pos, negsuc}
use Rattle.serde_json.specs.Data.{Data}
use Rattle.bt_base.specs.Fails.{◌>>=◌}
use Rattle.bt_rows.specs.declared.limits.TheConstants.{RETRY_LIMIT, RELEASE_TIME_LIMIT}
use Rattle.bt_rows.specs.declared.member.Member.TheVariants as names
use Rattle.bt_rows.specs.declared.pool.StartTask.{StartTask}
use Rattle.bt_rows.specs.declared.job.ReleaseTask.{ReleaseTask}
use Rattle.bt_rows.specs.declared.refusal.Refusal.{Refusal}
use Rattle.bt_rows.specs.declared.refusal.Refusal.TheVariants.{InvalidPropertyValue}
use Rattle.wire_members.specs.Durations.{limited_duration_member}
use Rattle.wire_members.specs.Members.{command_member, signed_member, flag_member, object_member}

-- the members in this order: by default it is not run again, and tasks wait for it
unfoldable pub preparation_in : Data → Result StartTask Refusal
preparation_in d = do
  line ← command_member (Some d) names.CommandLine
  limits ← object_member (Some d) names.Constraints
  retries ← signed_member limits names.MaxTaskRetryCount (negsuc 0) RETRY_LIMIT (pos 0)
  wait ← flag_member (Some d) names.WaitForSuccess true
  Ok (record { line = line; retries = retries; wait = wait })

-- a preparation task, if its object is there
unfoldable pub preparation_of : Option Data → Result (Option StartTask) Refusal
preparation_of None = Ok None
preparation_of (Some d) = do
  preparation ← preparation_in d
  Ok (Some preparation)

-- the preparation task of the job
unfoldable pub preparation_if : Data → Result (Option StartTask) Refusal
preparation_if d = do
  part ← object_member (Some d) names.JobPreparationTask
  preparation_of part

-- the members in this order: by default it runs 15 minutes at most
unfoldable pub release_in : Data → Result ReleaseTask Refusal
release_in d = do
  line ← command_member (Some d) names.CommandLine
  wall ← limited_duration_member (Some d) names.MaxWallClockTime 0 RELEASE_TIME_LIMIT RELEASE_TIME_LIMIT
  Ok (record { line = line; wall = wall })

-- a release task, if its object is there; without a preparation it is refused
unfoldable pub release_of : Bool → Option Data → Result (Option ReleaseTask) Refusal
release_of prepared None = Ok None
release_of false (Some d) = Err (InvalidPropertyValue names.JobReleaseTask)
release_of true (Some d) = do
  release ← release_in d
  Ok (Some release)

-- the release task of a job that has a preparation task, or has none
unfoldable pub release_if : Bool → Data → Result (Option ReleaseTask) Refusal
release_if prepared d = do
  part ← object_member (Some d) names.JobReleaseTask
  release_of prepared part
