-- Dependencies of tasks: the ids and the ranges of numbers that a task names.
use Rattle.std.specs.Prelude.{ℕ, nat_le, List, Option, Some, Result, Ok, Err, if◌then◌else◌}
use Rattle.serde_json.specs.Data.{Data, Items}
use Rattle.serde_json.specs.Events.{items_len}
use Rattle.bt_base.specs.Fails.{◌>>=◌}
use Rattle.bt_rows.specs.declared.limits.TheConstants.{DEPENDENCY_RANGE_LIMIT}
use Rattle.bt_rows.specs.declared.member.Member.{Member}
use Rattle.bt_rows.specs.declared.member.Member.TheVariants as names
use Rattle.bt_rows.specs.declared.refusal.Refusal.{Refusal}
use Rattle.bt_rows.specs.declared.refusal.Refusal.TheVariants.{InvalidPropertyValue}
use Rattle.wire_members.specs.Members.{required_count, list_member, object_item, id_item}
use Rattle.wire_bodies.specs.declared.dependencies.Dependencies.{Dependencies}
use Rattle.wire_bodies.specs.Items.{items_in}

-- an item of `taskIds`
abbrev pub id_of_item : Member → Data → Result (List ℕ) Refusal
id_of_item name d = id_item d name

-- a range whose first number is above its last is refused under the name of the first
abbrev pub ordered_span : ℕ → ℕ → Result (ℕ × ℕ) Refusal
ordered_span first last = if nat_le first last then Ok (first, last) else Err (InvalidPropertyValue names.Start)

-- an item of `taskIdRanges`: the first and the last number
unfoldable pub span_item : Member → Data → Result (ℕ × ℕ) Refusal
span_item name d = do
  members ← object_item d name
  first ← required_count (Some members) names.Start 0 4294967295
  last ← required_count (Some members) names.End 0 4294967295
  ordered_span first last

-- at most 64 ranges; more are refused before any of them is read
abbrev pub few_spans : Items → Result Items Refusal
few_spans items = if nat_le (items_len items) DEPENDENCY_RANGE_LIMIT then Ok items else Err (InvalidPropertyValue names.TaskIdRanges)

-- the members of the object in this order; an absent object has none
unfoldable pub dependencies_in : Option Data → Result Dependencies Refusal
dependencies_in part = do
  ids ← list_member part names.TaskIds
  needs ← items_in (id_of_item names.TaskIds) ids
  ranges ← list_member part names.TaskIdRanges
  few ← few_spans ranges
  spans ← items_in (span_item names.TaskIdRanges) few
  Ok (record { needs = needs; spans = spans })
