-- Rows of samples as JSON.
use Rattle.std.proofs.Common.{[], ◌∷◌, Result, Ok, arith}
use Rattle.serde_json.specs.Data.{Data, string, array}
use Rattle.serde_json.specs.View.{items_of}
use Rattle.bt_base.specs.Fails.{◌>>=◌}
use Rattle.row_fields.specs.declared.fault.RowFault.{RowFault}
use Rattle.row_fields.specs.Fields.{IsPlain, require_length, field_at}
use Rattle.row_fields.specs.Scalars.{count_data, count_in, whole_data, num_in, count_plain, whole_plain}
use Rattle.row_fields.specs.Texts.{id_in, text_plain}
use Rattle.row_fields.specs.Names.{named_plain}
use Rattle.row_fields.specs.Plain.{plain_item, and_items, no_more, array_plain}
use Rattle.variant_names.specs.UnitNames.{metric_name}
use Rattle.row_fields.specs.UnitEnums.{metric_data, metric_in}
use Rattle.bt_rows.specs.declared.sample.SampleRow.{SampleRow}

-- a row: an array of its fields
abbrev pub sample_data : SampleRow → Data
sample_data row =
    array (
    items_of (
    string row.pool
    ∷ metric_data row.metric
    ∷ count_data row.label
    ∷ whole_data row.value
    ∷ []))

-- each field at its place in the array
unfoldable pub sample_in : Data → Result SampleRow RowFault
sample_in d = do
  _ ← require_length 4 d
  pool ← field_at id_in 0 d
  metric ← field_at metric_in 1 d
  label ← field_at count_in 2 d
  value ← field_at num_in 3 d
  Ok (record { pool = pool; metric = metric; label = label; value = value })

-- the JSON of a row is not null, has no floats and nests at most 4 deep
pub sample_plain : (row : SampleRow) → IsPlain 4 (sample_data row)
sample_plain row =
    array_plain (
    and_items (plain_item 3 (text_plain row.pool) (omega arith)) (
    and_items (plain_item 3 (named_plain metric_name row.metric) (omega arith)) (
    and_items (plain_item 3 (count_plain row.label) (omega arith)) (
    and_items (plain_item 3 (whole_plain row.value) (omega arith)) (
    no_more 3)))))
