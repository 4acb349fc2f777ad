-- What is written of a row reads back, if each of its fields does.
use Rattle.std.proofs.Common.{◌≡◌, Ok, refl}
use Rattle.serde_json.specs.Data.{boolean, string}
use Rattle.row_fields.specs.Fields.{option_in, option_data, list_in, list_data}
use Rattle.row_fields.specs.Scalars.{count_data, count_in, u8_in, u32_in, whole_data, i32_in, flag_in, num_in}
use Rattle.row_fields.specs.Texts.{text_in, id_in, command_in}
use Rattle.row_fields.specs.Tuples.{pair_data, pair_in, triple_data, triple_in}
use Rattle.row_fields.specs.UnitEnums.{
  alloc_data,
  alloc_in,
  fill_data,
  fill_in,
  dealloc_data,
  dealloc_in,
  resize_error_data,
  resize_error_in,
  job_state_data,
  job_state_in,
  task_stage_data,
  task_stage_in,
  want_data,
  want_in,
  run_kind_data,
  run_kind_in,
  prep_state_data,
  prep_state_in,
  release_state_data,
  release_state_in,
  metric_data,
  metric_in,
}
use Rattle.row_fields.specs.PayloadEnums.{
  ending_data,
  ending_in,
  node_stage_data,
  node_stage_in,
  run_state_data,
  run_state_in,
}
use Rattle.row_fields.specs.Parts.{
  start_task_data,
  start_task_in,
  release_task_data,
  release_task_in,
  given_data,
  given_in,
  multi_data,
  multi_in,
  closed_data,
  closed_in,
}
use Rattle.row_texts.specs.Pools.{pool_data, pool_in, pool_resize_in}
use Rattle.row_texts.specs.Nodes.{node_data, node_in}
use Rattle.row_texts.specs.Jobs.{job_data, job_in, job_settings_in}
use Rattle.row_texts.specs.Tasks.{task_data, task_in, task_settings_of, task_settings_in, task_progress_of, task_progress_in}
use Rattle.row_texts.specs.Runs.{run_data, run_in, run_work_in, run_progress_in}
use Rattle.row_texts.specs.Preps.{prep_data, prep_in}
use Rattle.row_texts.specs.Samples.{sample_data, sample_in}
use Rattle.row_texts.specs.Scales.{scale_data, scale_in}
use Rattle.bt_rows.specs.declared.pool.PoolRow.{PoolRow}
use Rattle.bt_rows.specs.declared.node.NodeRow.{NodeRow}
use Rattle.bt_rows.specs.declared.job.JobRow.{JobRow}
use Rattle.bt_rows.specs.declared.task.TaskRow.{TaskRow}
use Rattle.bt_rows.specs.declared.run.RunRow.{RunRow}
use Rattle.bt_rows.specs.declared.prep.PrepRow.{PrepRow}
use Rattle.bt_rows.specs.declared.sample.SampleRow.{SampleRow}
use Rattle.bt_rows.specs.declared.scale.ScaleRow.{ScaleRow}

pub pool_back : (row : PoolRow) →
    id_in (string row.id) ≡ Ok row.id →
    flag_in (boolean row.deleting) ≡ Ok row.deleting →
    alloc_in (alloc_data row.alloc) ≡ Ok row.alloc →
    u8_in (count_data row.slots) ≡ Ok row.slots →
    fill_in (fill_data row.fill) ≡ Ok row.fill →
    flag_in (boolean row.inter) ≡ Ok row.inter →
    option_in start_task_in (option_data start_task_data row.start) ≡ Ok row.start →
    u32_in (count_data row.dedicated) ≡ Ok row.dedicated →
    u32_in (count_data row.low) ≡ Ok row.low →
    dealloc_in (dealloc_data row.option) ≡ Ok row.option →
    count_in (count_data row.usual_timeout) ≡ Ok row.usual_timeout →
    count_in (count_data row.timeout) ≡ Ok row.timeout →
    count_in (count_data row.began) ≡ Ok row.began →
    option_in resize_error_in (option_data resize_error_data row.error) ≡ Ok row.error →
    option_in count_in (option_data count_data row.enabled) ≡ Ok row.enabled →
    pool_in (pool_data row) ≡ Ok row
unfolding pool_in pool_resize_in
pool_back row h0 h1 h2 h3 h4 h5 h6 h7 h8 h9 h10 h11 h12 h13 h14 = rw (h0, h2, h3, h4, h6, h7, h8, h9, h13, h14) refl

pub node_back : (row : NodeRow) →
    count_in (count_data row.number) ≡ Ok row.number →
    id_in (string row.pool) ≡ Ok row.pool →
    u8_in (count_data row.seat) ≡ Ok row.seat →
    node_stage_in (node_stage_data row.stage) ≡ Ok row.stage →
    count_in (count_data row.tries) ≡ Ok row.tries →
    node_in (node_data row) ≡ Ok row
unfolding node_in
node_back row h0 h1 h2 h3 h4 = rw (h1, h2, h3) refl

pub job_back : (row : JobRow) →
    id_in (string row.id) ≡ Ok row.id →
    id_in (string row.pool) ≡ Ok row.pool →
    job_state_in (job_state_data row.state) ≡ Ok row.state →
    i32_in (whole_data row.priority) ≡ Ok row.priority →
    i32_in (whole_data row.parallel) ≡ Ok row.parallel →
    i32_in (whole_data row.retries) ≡ Ok row.retries →
    option_in count_in (option_data count_data row.wall) ≡ Ok row.wall →
    flag_in (boolean row.deps) ≡ Ok row.deps →
    flag_in (boolean row.on_all) ≡ Ok row.on_all →
    flag_in (boolean row.on_fail) ≡ Ok row.on_fail →
    option_in start_task_in (option_data start_task_data row.prep) ≡ Ok row.prep →
    option_in release_task_in (option_data release_task_data row.release) ≡ Ok row.release →
    count_in (count_data row.created) ≡ Ok row.created →
    option_in text_in (option_data string row.reason) ≡ Ok row.reason →
    job_in (job_data row) ≡ Ok row
unfolding job_in job_settings_in
job_back row h0 h1 h2 h3 h4 h5 h6 h7 h8 h9 h10 h11 h12 h13 = rw (h0, h1, h2, h3, h4, h5, h6, h10, h11, h13) refl

pub task_settings_back : (row : TaskRow) →
    option_in i32_in (option_data whole_data row.retries) ≡ Ok row.retries →
    option_in count_in (option_data count_data row.wall) ≡ Ok row.wall →
    option_in count_in (option_data count_data row.retention) ≡ Ok row.retention →
    list_in (pair_in i32_in given_in) (list_data (pair_data whole_data given_data) row.codes) ≡ Ok row.codes →
    list_in (triple_in i32_in i32_in given_in) (list_data (triple_data whole_data whole_data given_data) row.ranges) ≡ Ok row.ranges →
    option_in given_in (option_data given_data row.launch) ≡ Ok row.launch →
    option_in given_in (option_data given_data row.other) ≡ Ok row.other →
    list_in id_in (list_data string row.needs) ≡ Ok row.needs →
    list_in (pair_in u32_in u32_in) (list_data (pair_data count_data count_data) row.spans) ≡ Ok row.spans →
    option_in multi_in (option_data multi_data row.multi) ≡ Ok row.multi →
    task_settings_in (task_data row) ≡ Ok (task_settings_of row)
unfolding task_settings_in
task_settings_back row h4 h5 h6 h7 h8 h9 h10 h11 h12 h13 = rw (h4, h5, h6, h7, h8, h9, h10, h11, h12, h13) refl

pub task_progress_back : (row : TaskRow) →
    task_stage_in (task_stage_data row.stage) ≡ Ok row.stage →
    count_in (count_data row.attempt) ≡ Ok row.attempt →
    count_in (count_data row.failures) ≡ Ok row.failures →
    option_in want_in (option_data want_data row.wanted) ≡ Ok row.wanted →
    option_in ending_in (option_data ending_data row.fail) ≡ Ok row.fail →
    option_in count_in (option_data count_data row.started) ≡ Ok row.started →
    option_in closed_in (option_data closed_data row.closed) ≡ Ok row.closed →
    task_progress_in (task_data row) ≡ Ok (task_progress_of row)
unfolding task_progress_in
task_progress_back row h14 h15 h16 h17 h18 h19 h20 = rw (h14, h17, h18, h19, h20) refl

pub task_back : (row : TaskRow) →
    id_in (string row.job) ≡ Ok row.job →
    id_in (string row.id) ≡ Ok row.id →
    command_in (string row.line) ≡ Ok row.line →
    u8_in (count_data row.slots) ≡ Ok row.slots →
    task_settings_in (task_data row) ≡ Ok (task_settings_of row) →
    task_progress_in (task_data row) ≡ Ok (task_progress_of row) →
    task_in (task_data row) ≡ Ok row
unfolding task_in
task_back row h0 h1 h2 h3 settings progress = rw (settings, progress, h0, h1, h2, h3) refl

pub run_back : (row : RunRow) →
    count_in (count_data row.number) ≡ Ok row.number →
    run_kind_in (run_kind_data row.kind) ≡ Ok row.kind →
    count_in (count_data row.node) ≡ Ok row.node →
    id_in (string row.pool) ≡ Ok row.pool →
    option_in id_in (option_data string row.job) ≡ Ok row.job →
    option_in id_in (option_data string row.task) ≡ Ok row.task →
    count_in (count_data row.attempt) ≡ Ok row.attempt →
    command_in (string row.line) ≡ Ok row.line →
    u8_in (count_data row.slots) ≡ Ok row.slots →
    run_state_in (run_state_data row.state) ≡ Ok row.state →
    flag_in (boolean row.asked) ≡ Ok row.asked →
    count_in (count_data row.made) ≡ Ok row.made →
    option_in count_in (option_data count_data row.taken) ≡ Ok row.taken →
    option_in count_in (option_data count_data row.ended) ≡ Ok row.ended →
    run_in (run_data row) ≡ Ok row
unfolding run_in run_work_in run_progress_in
run_back row h0 h1 h2 h3 h4 h5 h6 h7 h8 h9 h10 h11 h12 h13 = rw (h1, h3, h4, h5, h7, h8, h9, h12, h13) refl

pub prep_back : (row : PrepRow) →
    id_in (string row.job) ≡ Ok row.job →
    count_in (count_data row.node) ≡ Ok row.node →
    prep_state_in (prep_state_data row.state) ≡ Ok row.state →
    count_in (count_data row.tries) ≡ Ok row.tries →
    flag_in (boolean row.ran) ≡ Ok row.ran →
    release_state_in (release_state_data row.release) ≡ Ok row.release →
    prep_in (prep_data row) ≡ Ok row
unfolding prep_in
prep_back row h0 h1 h2 h3 h4 h5 = rw (h0, h2, h5) refl

pub sample_back : (row : SampleRow) →
    id_in (string row.pool) ≡ Ok row.pool →
    metric_in (metric_data row.metric) ≡ Ok row.metric →
    count_in (count_data row.label) ≡ Ok row.label →
    num_in (whole_data row.value) ≡ Ok row.value →
    sample_in (sample_data row) ≡ Ok row
unfolding sample_in
sample_back row h0 h1 h2 h3 = rw (h0, h1, h3) refl

pub scale_back : (row : ScaleRow) →
    id_in (string row.pool) ≡ Ok row.pool →
    text_in (string row.formula) ≡ Ok row.formula →
    count_in (count_data row.interval) ≡ Ok row.interval →
    count_in (count_data row.next) ≡ Ok row.next →
    option_in text_in (option_data string row.last) ≡ Ok row.last →
    scale_in (scale_data row) ≡ Ok row
unfolding scale_in
scale_back row h0 h1 h2 h3 h4 = rw (h0, h4) refl
