-- Structs that are parts of rows as JSON: each is an array of its fields, in the order of the struct.
use Rattle.std.proofs.Common.{[], ◌∷◌, Result, Ok, arith}
use Rattle.serde_json.specs.Data.{Data, boolean, string, array}
use Rattle.serde_json.specs.View.{items_of}
use Rattle.bt_base.specs.Fails.{◌>>=◌}
use Rattle.row_fields.specs.declared.fault.RowFault.{RowFault}
use Rattle.row_fields.specs.Fields.{IsPlain, require_length, field_at, option_at, option_data}
use Rattle.row_fields.specs.Scalars.{
  count_data,
  count_in,
  u8_in,
  whole_data,
  i32_in,
  flag_in,
  count_plain,
  whole_plain,
  flag_plain,
}
use Rattle.row_fields.specs.Texts.{command_in, text_plain}
use Rattle.row_fields.specs.Names.{named_plain}
use Rattle.row_fields.specs.Plain.{plain_item, option_item, and_items, no_more, array_plain}
use Rattle.variant_names.specs.UnitNames.{job_action_name}
use Rattle.row_fields.specs.UnitEnums.{job_action_data, job_action_in}
use Rattle.row_fields.specs.PayloadEnums.{how_data, how_in, how_plain}
use Rattle.bt_rows.specs.declared.pool.StartTask.{StartTask}
use Rattle.bt_rows.specs.declared.job.ReleaseTask.{ReleaseTask}
use Rattle.bt_rows.specs.declared.task.Given.{Given}
use Rattle.bt_rows.specs.declared.task.Multi.{Multi}
use Rattle.bt_rows.specs.declared.task.Closed.{Closed}

-- a start task, or a preparation task: an array of its fields
abbrev pub start_task_data : StartTask → Data
start_task_data task =
    array (
    items_of (
    string task.line
    ∷ whole_data task.retries
    ∷ boolean task.wait
    ∷ []))

unfoldable pub start_task_in : Data → Result StartTask RowFault
start_task_in d = do
  _ ← require_length 3 d
  line ← field_at command_in 0 d
  retries ← field_at i32_in 1 d
  wait ← field_at flag_in 2 d
  Ok (record { line = line; retries = retries; wait = wait })

pub start_task_plain : (task : StartTask) → IsPlain 1 (start_task_data task)
start_task_plain task =
    array_plain (
    and_items (plain_item 0 (text_plain task.line) (omega arith)) (
    and_items (plain_item 0 (whole_plain task.retries) (omega arith)) (
    and_items (plain_item 0 (flag_plain task.wait) (omega arith)) (
    no_more 0))))

-- a release task: an array of its fields
abbrev pub release_task_data : ReleaseTask → Data
release_task_data task =
    array (
    items_of (
    string task.line
    ∷ count_data task.wall
    ∷ []))

unfoldable pub release_task_in : Data → Result ReleaseTask RowFault
release_task_in d = do
  _ ← require_length 2 d
  line ← field_at command_in 0 d
  wall ← field_at count_in 1 d
  Ok (record { line = line; wall = wall })

pub release_task_plain : (task : ReleaseTask) → IsPlain 1 (release_task_data task)
release_task_plain task =
    array_plain (
    and_items (plain_item 0 (text_plain task.line) (omega arith)) (
    and_items (plain_item 0 (count_plain task.wall) (omega arith)) (
    no_more 0)))

-- exit options: an array of its fields
abbrev pub given_data : Given → Data
given_data options =
    array (
    items_of (
    option_data job_action_data options.job
    ∷ option_data boolean options.satisfies
    ∷ []))

unfoldable pub given_in : Data → Result Given RowFault
given_in d = do
  _ ← require_length 2 d
  job ← option_at job_action_in 0 d
  satisfies ← option_at flag_in 1 d
  Ok (record { job = job; satisfies = satisfies })

pub given_plain : (options : Given) → IsPlain 1 (given_data options)
given_plain options =
    array_plain (
    and_items (option_item job_action_data 0 (named_plain job_action_name) (omega arith) options.job) (
    and_items (option_item boolean 0 flag_plain (omega arith) options.satisfies) (
    no_more 0)))

-- how a task runs on several nodes: an array of its fields
abbrev pub multi_data : Multi → Data
multi_data settings =
    array (
    items_of (
    count_data settings.count
    ∷ string settings.line
    ∷ []))

unfoldable pub multi_in : Data → Result Multi RowFault
multi_in d = do
  _ ← require_length 2 d
  count ← field_at u8_in 0 d
  line ← field_at command_in 1 d
  Ok (record { count = count; line = line })

pub multi_plain : (settings : Multi) → IsPlain 1 (multi_data settings)
multi_plain settings =
    array_plain (
    and_items (plain_item 0 (count_plain settings.count) (omega arith)) (
    and_items (plain_item 0 (text_plain settings.line) (omega arith)) (
    no_more 0)))

-- the end of a task: an array of its fields
abbrev pub closed_data : Closed → Data
closed_data end =
    array (
    items_of (
    how_data end.how
    ∷ boolean end.success
    ∷ boolean end.satisfies
    ∷ count_data end.at
    ∷ []))

unfoldable pub closed_in : Data → Result Closed RowFault
closed_in d = do
  _ ← require_length 4 d
  how ← field_at how_in 0 d
  success ← field_at flag_in 1 d
  satisfies ← field_at flag_in 2 d
  at ← field_at count_in 3 d
  Ok (record { how = how; success = success; satisfies = satisfies; at = at })

pub closed_plain : (end : Closed) → IsPlain 3 (closed_data end)
closed_plain end =
    array_plain (
    and_items (plain_item 2 (how_plain end.how) (omega arith)) (
    and_items (plain_item 2 (flag_plain end.success) (omega arith)) (
    and_items (plain_item 2 (flag_plain end.satisfies) (omega arith)) (
    and_items (plain_item 2 (count_plain end.at) (omega arith)) (
    no_more 2)))))
