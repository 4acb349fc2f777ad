-- The body of `resize`.
use Rattle.std.specs.Prelude.{ℕ, ◌&&◌, is_none, List, Option, Some, Result, Ok, Err, if◌then◌else◌}
use Rattle.serde_json.specs.Data.{Data}
use Rattle.bt_base.specs.Fails.{◌>>=◌}
use Rattle.bt_base.specs.declared.dealloc_option.Dealloc.TheVariants.{Requeue}
use Rattle.bt_rows.specs.declared.limits.TheConstants.{TARGET_LIMIT}
use Rattle.bt_rows.specs.declared.member.Member.TheVariants as names
use Rattle.bt_rows.specs.declared.event.ResizeSpec.{ResizeSpec}
use Rattle.bt_rows.specs.declared.refusal.Refusal.{Refusal}
use Rattle.bt_rows.specs.declared.refusal.Refusal.TheVariants.{InvalidPropertyValue}
use Rattle.wire_members.specs.Body.{object_of}
use Rattle.wire_members.specs.Members.{count_if, word_member}
use Rattle.wire_members.specs.Words.{dealloc_word}
use Rattle.wire_bodies.specs.declared.pool_member.TheConstants.{LOW_PRIORITY_LIMIT}
use Rattle.wire_bodies.specs.PoolMembers.{resize_timeout}

-- one of the two targets is required; without both the first is refused
abbrev pub require_target : Option ℕ → Option ℕ → Result (Unit {0}) Refusal
require_target dedicated low = if is_none dedicated && is_none low then Err (InvalidPropertyValue names.TargetDedicatedNodes) else Ok tt

-- the members in this order; by default the tasks of nodes that leave are requeued
unfoldable pub resize_in : Data → Result ResizeSpec Refusal
resize_in d = do
  dedicated ← count_if (Some d) names.TargetDedicatedNodes 0 TARGET_LIMIT
  low ← count_if (Some d) names.TargetLowPriorityNodes 0 LOW_PRIORITY_LIMIT
  _ ← require_target dedicated low
  timeout ← resize_timeout d
  option ← word_member dealloc_word (Some d) names.NodeDeallocationOption Requeue
  Ok (record { dedicated = dedicated; low = low; timeout = timeout; option = option })

-- the resize that the bytes of a body are
unfoldable pub resize_of : List ℕ → Result ResizeSpec Refusal
resize_of bytes = do
  d ← object_of bytes
  resize_in d
