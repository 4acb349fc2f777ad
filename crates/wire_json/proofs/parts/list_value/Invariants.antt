use Rattle.std.proofs.Common.{◌≡◌, map, take}
use Rattle.serde_json.specs.View.{view}
use Rattle.wire_json.proofs.parts.list_value.Given as goal

-- the first values are written
abbrev pub invariant-loop-value : goal.invariant-loop-value
invariant-loop-value g l = map view l.list.items ≡ map g.T.Written.data_of (take l.value-index l.values)
