-- The body of `add-tasks`.
use Rattle.std.specs.Prelude.{ℕ, List, Some, Result}
use Rattle.serde_json.specs.Data.{Data}
use Rattle.bt_base.specs.Fails.{◌>>=◌}
use Rattle.bt_rows.specs.declared.member.Member.{Member}
use Rattle.bt_rows.specs.declared.member.Member.TheVariants as names
use Rattle.bt_rows.specs.declared.event.TaskSpec.{TaskSpec}
use Rattle.bt_rows.specs.declared.refusal.Refusal.{Refusal}
use Rattle.wire_members.specs.Body.{object_of}
use Rattle.wire_members.specs.Members.{object_item, required_list}
use Rattle.wire_bodies.specs.Items.{items_in}
use Rattle.wire_bodies.specs.Tasks.{task_in}

-- an item with the members of the body of `add-task`
unfoldable pub task_item : Member → Data → Result TaskSpec Refusal
task_item name d = do
  members ← object_item d name
  task_in members

-- the items of the required list `value`
unfoldable pub collection_in : Data → Result (List TaskSpec) Refusal
collection_in d = do
  items ← required_list (Some d) names.Value
  items_in (task_item names.Value) items

-- the tasks that the bytes of a body are
unfoldable pub collection_of : List ℕ → Result (List TaskSpec) Refusal
collection_of bytes = do
  d ← object_of bytes
  collection_in d
