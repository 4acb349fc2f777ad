-- Rows of preparations as JSON.
use Rattle.std.proofs.Common.{[], ◌∷◌, Result, Ok, arith}
use Rattle.serde_json.specs.Data.{Data, boolean, string, array}
use Rattle.serde_json.specs.View.{items_of}
use Rattle.bt_base.specs.Fails.{◌>>=◌}
use Rattle.row_fields.specs.declared.fault.RowFault.{RowFault}
use Rattle.row_fields.specs.Fields.{IsPlain, require_length, field_at}
use Rattle.row_fields.specs.Scalars.{count_data, count_in, flag_in, count_plain, flag_plain}
use Rattle.row_fields.specs.Texts.{id_in, text_plain}
use Rattle.row_fields.specs.Names.{named_plain}
use Rattle.row_fields.specs.Plain.{plain_item, and_items, no_more, array_plain}
use Rattle.variant_names.specs.UnitNames.{prep_state_name, release_state_name}
use Rattle.row_fields.specs.UnitEnums.{prep_state_data, prep_state_in, release_state_data, release_state_in}
use Rattle.bt_rows.specs.declared.prep.PrepRow.{PrepRow}

-- a row: an array of its fields
abbrev pub prep_data : PrepRow → Data
prep_data row =
    array (
    items_of (
    string row.job
    ∷ count_data row.node
    ∷ prep_state_data row.state
    ∷ count_data row.tries
    ∷ boolean row.ran
    ∷ release_state_data row.release
    ∷ []))

-- each field at its place in the array
unfoldable pub prep_in : Data → Result PrepRow RowFault
prep_in d = do
  _ ← require_length 6 d
  job ← field_at id_in 0 d
  node ← field_at count_in 1 d
  state ← field_at prep_state_in 2 d
  tries ← field_at count_in 3 d
  ran ← field_at flag_in 4 d
  release ← field_at release_state_in 5 d
  Ok (record { job = job; node = node; state = state; tries = tries; ran = ran; release = release })

-- the JSON of a row is not null, has no floats and nests at most 4 deep
pub prep_plain : (row : PrepRow) → IsPlain 4 (prep_data row)
prep_plain row =
    array_plain (
    and_items (plain_item 3 (text_plain row.job) (omega arith)) (
    and_items (plain_item 3 (count_plain row.node) (omega arith)) (
    and_items (plain_item 3 (named_plain prep_state_name row.state) (omega arith)) (
    and_items (plain_item 3 (count_plain row.tries) (omega arith)) (
    and_items (plain_item 3 (flag_plain row.ran) (omega arith)) (
    and_items (plain_item 3 (named_plain release_state_name row.release) (omega arith)) (
    no_more 3)))))))
