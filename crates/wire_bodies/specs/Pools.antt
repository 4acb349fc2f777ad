-- The body of `add-pool`.
use Rattle.std.specs.Prelude.{ℕ, Bool, true, false, List, Some, Result, Ok}
use Rattle.serde_json.specs.Data.{Data}
use Rattle.bt_base.specs.Fails.{◌>>=◌}
use Rattle.bt_rows.specs.declared.limits.TheConstants.{SLOT_LIMIT, TARGET_LIMIT}
use Rattle.bt_rows.specs.declared.member.Member.TheVariants as names
use Rattle.bt_rows.specs.declared.event.PoolSpec.{PoolSpec}
use Rattle.bt_rows.specs.declared.pool.Fill.TheVariants.{Spread}
use Rattle.bt_rows.specs.declared.refusal.Refusal.{Refusal}
use Rattle.wire_members.specs.Body.{object_of}
use Rattle.wire_members.specs.Members.{count_member, id_member, object_member, unbuilt_member, word_member}
use Rattle.wire_members.specs.Words.{fill_word}
use Rattle.wire_bodies.specs.declared.pool_member.TheConstants.{LOW_PRIORITY_LIMIT}
use Rattle.wire_bodies.specs.PoolMembers.{resize_timeout}
use Rattle.wire_bodies.specs.Scalings.{scales, scaling_if}
use Rattle.wire_bodies.specs.Starts.{start_if}

-- the greatest number of dedicated nodes; none are wanted of a pool that scales automatically
abbrev pub dedicated_limit : Bool → ℕ
dedicated_limit true = 0
dedicated_limit false = TARGET_LIMIT

-- the wanted number of dedicated nodes
abbrev pub dedicated_target : Bool → Data → Result ℕ Refusal
dedicated_target scales d = count_member (Some d) names.TargetDedicatedNodes 0 (dedicated_limit scales) 0

-- the members in this order, with their defaults
unfoldable pub pool_in : Data → Result PoolSpec Refusal
pool_in d = do
  id ← id_member (Some d) names.Id
  dedicated ← dedicated_target (scales d) d
  low ← count_member (Some d) names.TargetLowPriorityNodes 0 LOW_PRIORITY_LIMIT 0
  slots ← count_member (Some d) names.TaskSlotsPerNode 1 SLOT_LIMIT 1
  policy ← object_member (Some d) names.TaskSchedulingPolicy
  fill ← word_member fill_word policy names.NodeFillType Spread
  _ ← unbuilt_member (Some d) names.EnableInterNodeCommunication
  timeout ← resize_timeout d
  part ← object_member (Some d) names.StartTask
  start ← start_if part
  scale ← scaling_if d
  Ok (record { id = id; dedicated = dedicated; low = low; slots = slots; fill = fill; inter = false; timeout = timeout; start = start; scale = scale })

-- the pool that the bytes of a body are
unfoldable pub pool_of : List ℕ → Result PoolSpec Refusal
pool_of bytes = do
  d ← object_of bytes
  pool_in d
