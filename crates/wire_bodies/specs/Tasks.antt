-- The body of `add-task`.
use Rattle.std.specs.Prelude.{ℕ, List, Some, None, Result, Ok, negsuc}
use Rattle.serde_json.specs.Data.{Data}
use Rattle.bt_base.specs.Fails.{◌>>=◌}
use Rattle.bt_rows.specs.declared.limits.TheConstants.{DEFAULT_RETENTION, RETRY_LIMIT, SLOT_LIMIT}
use Rattle.bt_rows.specs.declared.member.Member.TheVariants as names
use Rattle.bt_rows.specs.declared.event.TaskSpec.{TaskSpec}
use Rattle.bt_rows.specs.declared.refusal.Refusal.{Refusal}
use Rattle.bt_rows.specs.declared.settings.TaskSettings.{TaskSettings}
use Rattle.wire_members.specs.Body.{object_of}
use Rattle.wire_members.specs.Durations.{duration_member}
use Rattle.wire_members.specs.Members.{id_member, command_member, count_member, signed_if, object_member, unbuilt_member}
use Rattle.wire_bodies.specs.ExitConditions.{conditions_in}
use Rattle.wire_bodies.specs.Dependencies.{dependencies_in}

-- the body with these values
abbrev pub spec_of : List ℕ → List ℕ → ℕ → TaskSettings → TaskSpec
spec_of id line slots s = record { id = id; line = line; slots = slots; retries = s.retries; wall = s.wall; retention = s.retention; codes = s.codes; ranges = s.ranges; launch = s.launch; other = s.other; needs = s.needs; spans = s.spans; multi = s.multi }

-- the members in this order, with their defaults
unfoldable pub task_in : Data → Result TaskSpec Refusal
task_in d = do
  id ← id_member (Some d) names.Id
  line ← command_member (Some d) names.CommandLine
  slots ← count_member (Some d) names.RequiredSlots 1 SLOT_LIMIT 1
  part ← object_member (Some d) names.Constraints
  retries ← signed_if part names.MaxTaskRetryCount (negsuc 0) RETRY_LIMIT
  wall ← duration_member part names.MaxWallClockTime None
  retention ← duration_member part names.RetentionTime (Some DEFAULT_RETENTION)
  exits ← object_member (Some d) names.ExitConditions
  conditions ← conditions_in exits
  depends ← object_member (Some d) names.DependsOn
  dependencies ← dependencies_in depends
  _ ← unbuilt_member (Some d) names.MultiInstanceSettings
  Ok (record { id = id; line = line; slots = slots; retries = retries; wall = wall; retention = retention; codes = conditions.codes; ranges = conditions.ranges; launch = conditions.launch; other = conditions.other; needs = dependencies.needs; spans = dependencies.spans; multi = None })

-- the task that the bytes of a body are
unfoldable pub task_of : List ℕ → Result TaskSpec Refusal
task_of bytes = do
  d ← object_of bytes
  task_in d
