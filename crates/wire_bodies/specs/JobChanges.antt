-- The bodies of `patch-job`, `disable-job` and `terminate-job`.
use Rattle.std.specs.Prelude.{ℕ, List, Option, Some, Result, Ok, Err, if◌then◌else◌}
use Rattle.serde_json.specs.Data.{Data}
use Rattle.bt_base.specs.Fails.{◌>>=◌}
use Rattle.bt_rows.specs.declared.member.Member.TheVariants as names
use Rattle.bt_rows.specs.declared.event.DisableTasks.{DisableTasks}
use Rattle.bt_rows.specs.declared.event.JobPatch.{JobPatch}
use Rattle.bt_rows.specs.declared.refusal.Refusal.{Refusal}
use Rattle.bt_rows.specs.declared.refusal.Refusal.TheVariants.{InvalidPropertyValue}
use Rattle.bt_rows.specs.Ranges.{passes_if_some, is_reason}
use Rattle.wire_members.specs.Body.{object_of}
use Rattle.wire_members.specs.Members.{required_word, text_member}
use Rattle.wire_members.specs.Words.{disable_word}
use Rattle.wire_bodies.specs.JobMembers.{priority_if, parallel_if, limits_if, on_all_if}

-- the members in this order, none of them required and each without a default; given limits are given whole
unfoldable pub patch_in : Data → Result JobPatch Refusal
patch_in d = do
  priority ← priority_if d
  parallel ← parallel_if d
  limits ← limits_if d
  on_all ← on_all_if d
  Ok (record { priority = priority; parallel = parallel; limits = limits; on_all = on_all })

-- the change of a job that the bytes of a body are
unfoldable pub patch_of : List ℕ → Result JobPatch Refusal
patch_of bytes = do
  d ← object_of bytes
  patch_in d

-- what the bytes of a body say is done to placed tasks, which is required
unfoldable pub disable_of : List ℕ → Result DisableTasks Refusal
disable_of bytes = do
  d ← object_of bytes
  required_word disable_word (Some d) names.DisableTasks

-- a reason, if there is one, has 1 to 256 bytes and no control characters
abbrev pub if_reason : Option (List ℕ) → Result (Option (List ℕ)) Refusal
if_reason reason = if passes_if_some is_reason reason then Ok reason else Err (InvalidPropertyValue names.TerminateReason)

-- the reason that the members of the body state; None if it is absent
unfoldable pub reason_in : Data → Result (Option (List ℕ)) Refusal
reason_in d = do
  reason ← text_member (Some d) names.TerminateReason
  if_reason reason

-- the reason that the bytes of a body state
unfoldable pub reason_of : List ℕ → Result (Option (List ℕ)) Refusal
reason_of bytes = do
  d ← object_of bytes
  reason_in d
