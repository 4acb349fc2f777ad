-- Rows of jobs as JSON.
use Rattle.std.proofs.Common.{[], ◌∷◌, Result, Ok, arith}
use Rattle.serde_json.specs.Data.{Data, boolean, string, array}
use Rattle.serde_json.specs.View.{items_of}
use Rattle.bt_base.specs.Fails.{◌>>=◌}
use Rattle.row_fields.specs.declared.fault.RowFault.{RowFault}
use Rattle.row_fields.specs.Fields.{IsPlain, require_length, field_at, option_at, option_data}
use Rattle.row_fields.specs.Scalars.{
  count_data,
  count_in,
  whole_data,
  i32_in,
  flag_in,
  count_plain,
  whole_plain,
  flag_plain,
}
use Rattle.row_fields.specs.Texts.{text_in, id_in, text_plain}
use Rattle.row_fields.specs.Names.{named_plain}
use Rattle.row_fields.specs.Plain.{plain_item, option_item, and_items, no_more, array_plain}
use Rattle.variant_names.specs.UnitNames.{job_state_name}
use Rattle.row_fields.specs.UnitEnums.{job_state_data, job_state_in}
use Rattle.row_fields.specs.Parts.{
  start_task_data,
  start_task_in,
  start_task_plain,
  release_task_data,
  release_task_in,
  release_task_plain,
}
use Rattle.bt_rows.specs.declared.job.JobRow.{JobRow}
use Rattle.row_texts.specs.declared.job.JobSettings.{JobSettings}

-- a row: an array of its fields
abbrev pub job_data : JobRow → Data
job_data row =
    array (
    items_of (
    string row.id
    ∷ string row.pool
    ∷ job_state_data row.state
    ∷ whole_data row.priority
    ∷ whole_data row.parallel
    ∷ whole_data row.retries
    ∷ option_data count_data row.wall
    ∷ boolean row.deps
    ∷ boolean row.on_all
    ∷ boolean row.on_fail
    ∷ option_data start_task_data row.prep
    ∷ option_data release_task_data row.release
    ∷ count_data row.created
    ∷ option_data string row.reason
    ∷ []))

-- the settings: each at its place in the array
unfoldable pub job_settings_in : Data → Result JobSettings RowFault
job_settings_in d = do
  priority ← field_at i32_in 3 d
  parallel ← field_at i32_in 4 d
  retries ← field_at i32_in 5 d
  wall ← option_at count_in 6 d
  deps ← field_at flag_in 7 d
  on_all ← field_at flag_in 8 d
  on_fail ← field_at flag_in 9 d
  Ok (record { priority = priority; parallel = parallel; retries = retries; wall = wall; deps = deps; on_all = on_all; on_fail = on_fail })

-- each field at its place in the array
unfoldable pub job_in : Data → Result JobRow RowFault
job_in d = do
  _ ← require_length 14 d
  id ← field_at id_in 0 d
  pool ← field_at id_in 1 d
  state ← field_at job_state_in 2 d
  settings ← job_settings_in d
  prep ← option_at start_task_in 10 d
  release ← option_at release_task_in 11 d
  created ← field_at count_in 12 d
  reason ← option_at text_in 13 d
  Ok (record {
    id = id;
    pool = pool;
    state = state;
    priority = settings.priority;
    parallel = settings.parallel;
    retries = settings.retries;
    wall = settings.wall;
    deps = settings.deps;
    on_all = settings.on_all;
    on_fail = settings.on_fail;
    prep = prep;
    release = release;
    created = created;
    reason = reason;
  })

-- the JSON of a row is not null, has no floats and nests at most 4 deep
pub job_plain : (row : JobRow) → IsPlain 4 (job_data row)
job_plain row =
    array_plain (
    and_items (plain_item 3 (text_plain row.id) (omega arith)) (
    and_items (plain_item 3 (text_plain row.pool) (omega arith)) (
    and_items (plain_item 3 (named_plain job_state_name row.state) (omega arith)) (
    and_items (plain_item 3 (whole_plain row.priority) (omega arith)) (
    and_items (plain_item 3 (whole_plain row.parallel) (omega arith)) (
    and_items (plain_item 3 (whole_plain row.retries) (omega arith)) (
    and_items (option_item count_data 3 count_plain (omega arith) row.wall) (
    and_items (plain_item 3 (flag_plain row.deps) (omega arith)) (
    and_items (plain_item 3 (flag_plain row.on_all) (omega arith)) (
    and_items (plain_item 3 (flag_plain row.on_fail) (omega arith)) (
    and_items (option_item start_task_data 3 start_task_plain (omega arith) row.prep) (
    and_items (option_item release_task_data 3 release_task_plain (omega arith) row.release) (
    and_items (plain_item 3 (count_plain row.created) (omega arith)) (
    and_items (option_item string 3 text_plain (omega arith) row.reason) (
    no_more 3)))))))))))))))
