-- Rows of scalings of pools as JSON.
use Rattle.std.proofs.Common.{[], ◌∷◌, Result, Ok, arith}
use Rattle.serde_json.specs.Data.{Data, string, array}
use Rattle.serde_json.specs.View.{items_of}
use Rattle.bt_base.specs.Fails.{◌>>=◌}
use Rattle.row_fields.specs.declared.fault.RowFault.{RowFault}
use Rattle.row_fields.specs.Fields.{IsPlain, require_length, field_at, option_at, option_data}
use Rattle.row_fields.specs.Scalars.{count_data, count_in, count_plain}
use Rattle.row_fields.specs.Texts.{text_in, id_in, text_plain}
use Rattle.row_fields.specs.Plain.{plain_item, option_item, and_items, no_more, array_plain}
use Rattle.bt_rows.specs.declared.scale.ScaleRow.{ScaleRow}

-- a row: an array of its fields
abbrev pub scale_data : ScaleRow → Data
scale_data row =
    array (
    items_of (
    string row.pool
    ∷ string row.formula
    ∷ count_data row.interval
    ∷ count_data row.next
    ∷ option_data string row.last
    ∷ []))

-- each field at its place in the array
unfoldable pub scale_in : Data → Result ScaleRow RowFault
scale_in d = do
  _ ← require_length 5 d
  pool ← field_at id_in 0 d
  formula ← field_at text_in 1 d
  interval ← field_at count_in 2 d
  next ← field_at count_in 3 d
  last ← option_at text_in 4 d
  Ok (record { pool = pool; formula = formula; interval = interval; next = next; last = last })

-- the JSON of a row is not null, has no floats and nests at most 4 deep
pub scale_plain : (row : ScaleRow) → IsPlain 4 (scale_data row)
scale_plain row =
    array_plain (
    and_items (plain_item 3 (text_plain row.pool) (omega arith)) (
    and_items (plain_item 3 (text_plain row.formula) (omega arith)) (
    and_items (plain_item 3 (count_plain row.interval) (omega arith)) (
    and_items (plain_item 3 (count_plain row.next) (omega arith)) (
    and_items (option_item string 3 text_plain (omega arith) row.last) (
    no_more 3))))))
