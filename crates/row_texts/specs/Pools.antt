-- Rows of pools as JSON.
use Rattle.std.proofs.Common.{[], ◌∷◌, Result, Ok, arith}
use Rattle.serde_json.specs.Data.{Data, boolean, string, array}
use Rattle.serde_json.specs.View.{items_of}
use Rattle.bt_base.specs.Fails.{◌>>=◌}
use Rattle.row_fields.specs.declared.fault.RowFault.{RowFault}
use Rattle.row_fields.specs.Fields.{IsPlain, require_length, field_at, option_at, option_data}
use Rattle.row_fields.specs.Scalars.{count_data, count_in, u8_in, u32_in, flag_in, count_plain, flag_plain}
use Rattle.row_fields.specs.Texts.{id_in, text_plain}
use Rattle.row_fields.specs.Names.{named_plain}
use Rattle.row_fields.specs.Plain.{plain_item, option_item, and_items, no_more, array_plain}
use Rattle.variant_names.specs.UnitNames.{alloc_name, fill_name, dealloc_name, resize_error_name}
use Rattle.row_fields.specs.UnitEnums.{
  alloc_data,
  alloc_in,
  fill_data,
  fill_in,
  dealloc_data,
  dealloc_in,
  resize_error_data,
  resize_error_in,
}
use Rattle.row_fields.specs.Parts.{start_task_data, start_task_in, start_task_plain}
use Rattle.bt_rows.specs.declared.pool.PoolRow.{PoolRow}
use Rattle.row_texts.specs.declared.pool.PoolResize.{PoolResize}

-- a row: an array of its fields
abbrev pub pool_data : PoolRow → Data
pool_data row =
    array (
    items_of (
    string row.id
    ∷ boolean row.deleting
    ∷ alloc_data row.alloc
    ∷ count_data row.slots
    ∷ fill_data row.fill
    ∷ boolean row.inter
    ∷ option_data start_task_data row.start
    ∷ count_data row.dedicated
    ∷ count_data row.low
    ∷ dealloc_data row.option
    ∷ count_data row.usual_timeout
    ∷ count_data row.timeout
    ∷ count_data row.began
    ∷ option_data resize_error_data row.error
    ∷ option_data count_data row.enabled
    ∷ []))

-- the resize: each of its fields at its place in the array
unfoldable pub pool_resize_in : Data → Result PoolResize RowFault
pool_resize_in d = do
  dedicated ← field_at u32_in 7 d
  low ← field_at u32_in 8 d
  option ← field_at dealloc_in 9 d
  usual_timeout ← field_at count_in 10 d
  timeout ← field_at count_in 11 d
  began ← field_at count_in 12 d
  error ← option_at resize_error_in 13 d
  Ok (record { dedicated = dedicated; low = low; option = option; usual_timeout = usual_timeout; timeout = timeout; began = began; error = error })

-- each field at its place in the array
unfoldable pub pool_in : Data → Result PoolRow RowFault
pool_in d = do
  _ ← require_length 15 d
  id ← field_at id_in 0 d
  deleting ← field_at flag_in 1 d
  alloc ← field_at alloc_in 2 d
  slots ← field_at u8_in 3 d
  fill ← field_at fill_in 4 d
  inter ← field_at flag_in 5 d
  start ← option_at start_task_in 6 d
  resize ← pool_resize_in d
  enabled ← option_at count_in 14 d
  Ok (record {
    id = id;
    deleting = deleting;
    alloc = alloc;
    slots = slots;
    fill = fill;
    inter = inter;
    start = start;
    dedicated = resize.dedicated;
    low = resize.low;
    option = resize.option;
    usual_timeout = resize.usual_timeout;
    timeout = resize.timeout;
    began = resize.began;
    error = resize.error;
    enabled = enabled;
  })

-- the JSON of a row is not null, has no floats and nests at most 4 deep
pub pool_plain : (row : PoolRow) → IsPlain 4 (pool_data row)
pool_plain row =
    array_plain (
    and_items (plain_item 3 (text_plain row.id) (omega arith)) (
    and_items (plain_item 3 (flag_plain row.deleting) (omega arith)) (
    and_items (plain_item 3 (named_plain alloc_name row.alloc) (omega arith)) (
    and_items (plain_item 3 (count_plain row.slots) (omega arith)) (
    and_items (plain_item 3 (named_plain fill_name row.fill) (omega arith)) (
    and_items (plain_item 3 (flag_plain row.inter) (omega arith)) (
    and_items (option_item start_task_data 3 start_task_plain (omega arith) row.start) (
    and_items (plain_item 3 (count_plain row.dedicated) (omega arith)) (
    and_items (plain_item 3 (count_plain row.low) (omega arith)) (
    and_items (plain_item 3 (named_plain dealloc_name row.option) (omega arith)) (
    and_items (plain_item 3 (count_plain row.usual_timeout) (omega arith)) (
    and_items (plain_item 3 (count_plain row.timeout) (omega arith)) (
    and_items (plain_item 3 (count_plain row.began) (omega arith)) (
    and_items (option_item resize_error_data 3 (named_plain resize_error_name) (omega arith) row.error) (
    and_items (option_item count_data 3 count_plain (omega arith) row.enabled) (
    no_more 3))))))))))))))))
