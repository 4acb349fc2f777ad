-- Rows of nodes as JSON.
use Rattle.std.proofs.Common.{[], ◌∷◌, Result, Ok, arith}
use Rattle.serde_json.specs.Data.{Data, string, array}
use Rattle.serde_json.specs.View.{items_of}
use Rattle.bt_base.specs.Fails.{◌>>=◌}
use Rattle.row_fields.specs.declared.fault.RowFault.{RowFault}
use Rattle.row_fields.specs.Fields.{IsPlain, require_length, field_at}
use Rattle.row_fields.specs.Scalars.{count_data, count_in, u8_in, count_plain}
use Rattle.row_fields.specs.Texts.{id_in, text_plain}
use Rattle.row_fields.specs.Plain.{plain_item, and_items, no_more, array_plain}
use Rattle.row_fields.specs.PayloadEnums.{node_stage_data, node_stage_in, node_stage_plain}
use Rattle.bt_rows.specs.declared.node.NodeRow.{NodeRow}

-- a row: an array of its fields
abbrev pub node_data : NodeRow → Data
node_data row =
    array (
    items_of (
    count_data row.number
    ∷ string row.pool
    ∷ count_data row.seat
    ∷ node_stage_data row.stage
    ∷ count_data row.tries
    ∷ []))

-- each field at its place in the array
unfoldable pub node_in : Data → Result NodeRow RowFault
node_in d = do
  _ ← require_length 5 d
  number ← field_at count_in 0 d
  pool ← field_at id_in 1 d
  seat ← field_at u8_in 2 d
  stage ← field_at node_stage_in 3 d
  tries ← field_at count_in 4 d
  Ok (record { number = number; pool = pool; seat = seat; stage = stage; tries = tries })

-- the JSON of a row is not null, has no floats and nests at most 4 deep
pub node_plain : (row : NodeRow) → IsPlain 4 (node_data row)
node_plain row =
    array_plain (
    and_items (plain_item 3 (count_plain row.number) (omega arith)) (
    and_items (plain_item 3 (text_plain row.pool) (omega arith)) (
    and_items (plain_item 3 (count_plain row.seat) (omega arith)) (
    and_items (plain_item 3 (node_stage_plain row.stage) (omega arith)) (
    and_items (plain_item 3 (count_plain row.tries) (omega arith)) (
    no_more 3))))))
