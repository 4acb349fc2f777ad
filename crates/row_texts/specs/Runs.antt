-- Rows of runs as JSON.
use Rattle.std.proofs.Common.{[], ◌∷◌, Result, Ok, arith}
use Rattle.serde_json.specs.Data.{Data, boolean, string, array}
use Rattle.serde_json.specs.View.{items_of}
use Rattle.bt_base.specs.Fails.{◌>>=◌}
use Rattle.row_fields.specs.declared.fault.RowFault.{RowFault}
use Rattle.row_fields.specs.Fields.{IsPlain, require_length, field_at, option_at, option_data}
use Rattle.row_fields.specs.Scalars.{count_data, count_in, u8_in, flag_in, count_plain, flag_plain}
use Rattle.row_fields.specs.Texts.{id_in, command_in, text_plain}
use Rattle.row_fields.specs.Names.{named_plain}
use Rattle.row_fields.specs.Plain.{plain_item, option_item, and_items, no_more, array_plain}
use Rattle.variant_names.specs.UnitNames.{run_kind_name}
use Rattle.row_fields.specs.UnitEnums.{run_kind_data, run_kind_in}
use Rattle.row_fields.specs.PayloadEnums.{run_state_data, run_state_in, run_state_plain}
use Rattle.bt_rows.specs.declared.run.RunRow.{RunRow}
use Rattle.row_texts.specs.declared.run.RunWork.{RunWork}
use Rattle.row_texts.specs.declared.run.RunProgress.{RunProgress}

-- a row: an array of its fields
abbrev pub run_data : RunRow → Data
run_data row =
    array (
    items_of (
    count_data row.number
    ∷ run_kind_data row.kind
    ∷ count_data row.node
    ∷ string row.pool
    ∷ option_data string row.job
    ∷ option_data string row.task
    ∷ count_data row.attempt
    ∷ string row.line
    ∷ count_data row.slots
    ∷ run_state_data row.state
    ∷ boolean row.asked
    ∷ count_data row.made
    ∷ option_data count_data row.taken
    ∷ option_data count_data row.ended
    ∷ []))

-- the work: each of its fields at its place in the array
unfoldable pub run_work_in : Data → Result RunWork RowFault
run_work_in d = do
  node ← field_at count_in 2 d
  pool ← field_at id_in 3 d
  job ← option_at id_in 4 d
  task ← option_at id_in 5 d
  attempt ← field_at count_in 6 d
  line ← field_at command_in 7 d
  slots ← field_at u8_in 8 d
  Ok (record { node = node; pool = pool; job = job; task = task; attempt = attempt; line = line; slots = slots })

-- the progress: each of its fields at its place in the array
unfoldable pub run_progress_in : Data → Result RunProgress RowFault
run_progress_in d = do
  state ← field_at run_state_in 9 d
  asked ← field_at flag_in 10 d
  made ← field_at count_in 11 d
  taken ← option_at count_in 12 d
  ended ← option_at count_in 13 d
  Ok (record { state = state; asked = asked; made = made; taken = taken; ended = ended })

-- each field at its place in the array
unfoldable pub run_in : Data → Result RunRow RowFault
run_in d = do
  _ ← require_length 14 d
  number ← field_at count_in 0 d
  kind ← field_at run_kind_in 1 d
  work ← run_work_in d
  progress ← run_progress_in d
  Ok (record {
    number = number;
    kind = kind;
    node = work.node;
    pool = work.pool;
    job = work.job;
    task = work.task;
    attempt = work.attempt;
    line = work.line;
    slots = work.slots;
    state = progress.state;
    asked = progress.asked;
    made = progress.made;
    taken = progress.taken;
    ended = progress.ended;
  })

-- the JSON of a row is not null, has no floats and nests at most 4 deep
pub run_plain : (row : RunRow) → IsPlain 4 (run_data row)
run_plain row =
    array_plain (
    and_items (plain_item 3 (count_plain row.number) (omega arith)) (
    and_items (plain_item 3 (named_plain run_kind_name row.kind) (omega arith)) (
    and_items (plain_item 3 (count_plain row.node) (omega arith)) (
    and_items (plain_item 3 (text_plain row.pool) (omega arith)) (
    and_items (option_item string 3 text_plain (omega arith) row.job) (
    and_items (option_item string 3 text_plain (omega arith) row.task) (
    and_items (plain_item 3 (count_plain row.attempt) (omega arith)) (
    and_items (plain_item 3 (text_plain row.line) (omega arith)) (
    and_items (plain_item 3 (count_plain row.slots) (omega arith)) (
    and_items (plain_item 3 (run_state_plain row.state) (omega arith)) (
    and_items (plain_item 3 (flag_plain row.asked) (omega arith)) (
    and_items (plain_item 3 (count_plain row.made) (omega arith)) (
    and_items (option_item count_data 3 count_plain (omega arith) row.taken) (
    and_items (option_item count_data 3 count_plain (omega arith) row.ended) (
    no_more 3)))))))))))))))
