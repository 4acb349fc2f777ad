-- Rows of tasks as JSON.
use Rattle.std.proofs.Common.{List, [], ◌∷◌, ◌++◌, Result, Ok, arith}
use Rattle.serde_json.specs.Data.{Data, Items, string, array}
use Rattle.serde_json.specs.View.{items_of}
use Rattle.bt_base.specs.Fails.{◌>>=◌}
use Rattle.row_fields.specs.declared.fault.RowFault.{RowFault}
use Rattle.row_fields.specs.Fields.{IsPlain, with_item, require_length, field_at, option_at, option_data, list_at, list_data}
use Rattle.row_fields.specs.Scalars.{count_data, count_in, u8_in, u32_in, whole_data, i32_in, count_plain, whole_plain}
use Rattle.row_fields.specs.Texts.{id_in, command_in, text_plain}
use Rattle.row_fields.specs.Tuples.{pair_data, pair_in, pair_plain, triple_data, triple_in, triple_plain}
use Rattle.row_fields.specs.Names.{named_plain}
use Rattle.row_fields.specs.Plain.{plain_item, option_item, list_item, and_items, no_more, array_plain}
use Rattle.variant_names.specs.UnitNames.{task_stage_name, want_name}
use Rattle.row_fields.specs.UnitEnums.{task_stage_data, task_stage_in, want_data, want_in}
use Rattle.row_fields.specs.PayloadEnums.{ending_data, ending_in, ending_plain}
use Rattle.row_fields.specs.Parts.{
  given_data,
  given_in,
  given_plain,
  multi_data,
  multi_in,
  multi_plain,
  closed_data,
  closed_in,
  closed_plain,
}
use Rattle.bt_rows.specs.declared.task.TaskRow.{TaskRow}
use Rattle.bt_rows.specs.declared.settings.TaskSettings.{TaskSettings}
use Rattle.row_texts.specs.declared.task.TaskProgress.{TaskProgress}

-- the items, and these values after them
abbrev pub with_items : Items → List Data → Items
with_items items [] = items
with_items items (d ∷ ds) = with_items (with_item items d) ds

-- the fields that may be absent or empty when a task is added
abbrev pub task_settings_values : TaskRow → List Data
task_settings_values row =
    option_data whole_data row.retries
    ∷ option_data count_data row.wall
    ∷ option_data count_data row.retention
    ∷ list_data (pair_data whole_data given_data) row.codes
    ∷ list_data (triple_data whole_data whole_data given_data) row.ranges
    ∷ option_data given_data row.launch
    ∷ option_data given_data row.other
    ∷ list_data string row.needs
    ∷ list_data (pair_data count_data count_data) row.spans
    ∷ option_data multi_data row.multi
    ∷ []

-- the fields that say how far a task has come
abbrev pub task_progress_values : TaskRow → List Data
task_progress_values row =
    task_stage_data row.stage
    ∷ count_data row.attempt
    ∷ count_data row.failures
    ∷ option_data want_data row.wanted
    ∷ option_data ending_data row.fail
    ∷ option_data count_data row.started
    ∷ option_data closed_data row.closed
    ∷ []

-- a row: an array of its fields
abbrev pub task_data : TaskRow → Data
task_data row =
    array (
    items_of (
    string row.job
    ∷ string row.id
    ∷ string row.line
    ∷ count_data row.slots
    ∷ task_settings_values row ++ task_progress_values row))

-- the settings of a row
abbrev pub task_settings_of : TaskRow → TaskSettings
task_settings_of row = record {
  retries = row.retries;
  wall = row.wall;
  retention = row.retention;
  codes = row.codes;
  ranges = row.ranges;
  launch = row.launch;
  other = row.other;
  needs = row.needs;
  spans = row.spans;
  multi = row.multi;
}

-- its progress
abbrev pub task_progress_of : TaskRow → TaskProgress
task_progress_of row = record {
  stage = row.stage;
  attempt = row.attempt;
  failures = row.failures;
  wanted = row.wanted;
  fail = row.fail;
  started = row.started;
  closed = row.closed;
}

-- the settings: each at its place in the array
unfoldable pub task_settings_in : Data → Result TaskSettings RowFault
task_settings_in d = do
  retries ← option_at i32_in 4 d
  wall ← option_at count_in 5 d
  retention ← option_at count_in 6 d
  codes ← list_at (pair_in i32_in given_in) 7 d
  ranges ← list_at (triple_in i32_in i32_in given_in) 8 d
  launch ← option_at given_in 9 d
  other ← option_at given_in 10 d
  needs ← list_at id_in 11 d
  spans ← list_at (pair_in u32_in u32_in) 12 d
  multi ← option_at multi_in 13 d
  Ok (record {
    retries = retries;
    wall = wall;
    retention = retention;
    codes = codes;
    ranges = ranges;
    launch = launch;
    other = other;
    needs = needs;
    spans = spans;
    multi = multi;
  })

-- the progress: each of its fields at its place in the array
unfoldable pub task_progress_in : Data → Result TaskProgress RowFault
task_progress_in d = do
  stage ← field_at task_stage_in 14 d
  attempt ← field_at count_in 15 d
  failures ← field_at count_in 16 d
  wanted ← option_at want_in 17 d
  fail ← option_at ending_in 18 d
  started ← option_at count_in 19 d
  closed ← option_at closed_in 20 d
  Ok (record {
    stage = stage;
    attempt = attempt;
    failures = failures;
    wanted = wanted;
    fail = fail;
    started = started;
    closed = closed;
  })

-- each field at its place in the array
unfoldable pub task_in : Data → Result TaskRow RowFault
task_in d = do
  _ ← require_length 21 d
  job ← field_at id_in 0 d
  id ← field_at id_in 1 d
  line ← field_at command_in 2 d
  slots ← field_at u8_in 3 d
  settings ← task_settings_in d
  progress ← task_progress_in d
  Ok (record {
    job = job;
    id = id;
    line = line;
    slots = slots;
    retries = settings.retries;
    wall = settings.wall;
    retention = settings.retention;
    codes = settings.codes;
    ranges = settings.ranges;
    launch = settings.launch;
    other = settings.other;
    needs = settings.needs;
    spans = settings.spans;
    multi = settings.multi;
    stage = progress.stage;
    attempt = progress.attempt;
    failures = progress.failures;
    wanted = progress.wanted;
    fail = progress.fail;
    started = progress.started;
    closed = progress.closed;
  })

-- the JSON of a row is not null, has no floats and nests at most 4 deep
pub task_plain : (row : TaskRow) → IsPlain 4 (task_data row)
task_plain row =
    array_plain (
    and_items (plain_item 3 (text_plain row.job) (omega arith)) (
    and_items (plain_item 3 (text_plain row.id) (omega arith)) (
    and_items (plain_item 3 (text_plain row.line) (omega arith)) (
    and_items (plain_item 3 (count_plain row.slots) (omega arith)) (
    and_items (option_item whole_data 3 whole_plain (omega arith) row.retries) (
    and_items (option_item count_data 3 count_plain (omega arith) row.wall) (
    and_items (option_item count_data 3 count_plain (omega arith) row.retention) (
    and_items (list_item (pair_data whole_data given_data) 2 (pair_plain whole_data given_data 0 1 whole_plain given_plain) (omega arith) row.codes) (
    and_items (
    list_item (triple_data whole_data whole_data given_data) 2
    (triple_plain whole_data whole_data given_data 0 0 1 whole_plain whole_plain given_plain) (omega arith) row.ranges) (
    and_items (option_item given_data 3 given_plain (omega arith) row.launch) (
    and_items (option_item given_data 3 given_plain (omega arith) row.other) (
    and_items (list_item string 2 text_plain (omega arith) row.needs) (
    and_items (list_item (pair_data count_data count_data) 2 (pair_plain count_data count_data 0 0 count_plain count_plain) (omega arith) row.spans) (
    and_items (option_item multi_data 3 multi_plain (omega arith) row.multi) (
    and_items (plain_item 3 (named_plain task_stage_name row.stage) (omega arith)) (
    and_items (plain_item 3 (count_plain row.attempt) (omega arith)) (
    and_items (plain_item 3 (count_plain row.failures) (omega arith)) (
    and_items (option_item want_data 3 (named_plain want_name) (omega arith) row.wanted) (
    and_items (option_item ending_data 3 ending_plain (omega arith) row.fail) (
    and_items (option_item count_data 3 count_plain (omega arith) row.started) (
    and_items (option_item closed_data 3 closed_plain (omega arith) row.closed) (
    no_more 3))))))))))))))))))))))
