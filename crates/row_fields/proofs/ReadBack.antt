-- Enums with values, and parts of rows: what is written reads back, if each part does.
use Rattle.std.proofs.Common.{◌≡◌, ℤ, Ok, refl}
use Rattle.serde_json.specs.Data.{boolean, string}
use Rattle.row_fields.specs.Fields.{option_in, option_data}
use Rattle.row_fields.specs.Scalars.{count_data, count_in, u8_in, whole_data, i32_in, flag_in}
use Rattle.row_fields.specs.Texts.{command_in}
use Rattle.row_fields.specs.Names.{named_in}
use Rattle.row_fields.specs.UnitEnums.{dealloc_data, dealloc_in, job_action_data, job_action_in}
use Rattle.variant_names.specs.PayloadNames.{ending_name, node_stage_name, run_state_name, how_name}
use Rattle.row_fields.specs.PayloadEnums.{
  ending_data,
  ending_in,
  node_stage_data,
  node_stage_in,
  run_state_data,
  run_state_in,
  how_data,
  how_in,
}
use Rattle.row_fields.specs.Parts.{
  start_task_data,
  start_task_in,
  release_task_data,
  release_task_in,
  given_data,
  given_in,
  multi_data,
  multi_in,
  closed_data,
  closed_in,
}
use Rattle.bt_base.specs.declared.dealloc_option.Dealloc.{Dealloc}
use Rattle.bt_rows.specs.declared.run.Ending.{Ending}
use Rattle.bt_rows.specs.declared.run.Ending.TheVariants as endings
use Rattle.bt_rows.specs.declared.node.NodeStage.{NodeStage}
use Rattle.bt_rows.specs.declared.node.NodeStage.TheVariants as node_stages
use Rattle.bt_rows.specs.declared.run.RunState.{RunState}
use Rattle.bt_rows.specs.declared.run.RunState.TheVariants as run_states
use Rattle.bt_rows.specs.declared.task.How.{How}
use Rattle.bt_rows.specs.declared.task.How.TheVariants as hows
use Rattle.bt_rows.specs.declared.pool.StartTask.{StartTask}
use Rattle.bt_rows.specs.declared.job.ReleaseTask.{ReleaseTask}
use Rattle.bt_rows.specs.declared.task.Given.{Given}
use Rattle.bt_rows.specs.declared.task.Multi.{Multi}
use Rattle.bt_rows.specs.declared.task.Closed.{Closed}

pub ending_back : (x : Ending) →
    ((code : ℤ) → x ≡ endings.Code code → i32_in (whole_data code) ≡ Ok code) →
    ending_in (ending_data x) ≡ Ok x
unfolding named_in ending_name ending_in ending_data
ending_back (endings.Code code) h = rw (h code refl) refl
ending_back endings.NoCode h = refl
ending_back endings.NotStarted h = refl

pub node_stage_back : (x : NodeStage) →
    ((option : Dealloc) → x ≡ node_stages.Leaving option → dealloc_in (dealloc_data option) ≡ Ok option) →
    node_stage_in (node_stage_data x) ≡ Ok x
unfolding named_in node_stage_name node_stage_in node_stage_data
node_stage_back node_stages.Starting h = refl
node_stage_back node_stages.Usable h = refl
node_stage_back node_stages.StartFailed h = refl
node_stage_back (node_stages.Leaving option) h = rw (h option refl) refl

pub run_state_back : (x : RunState) →
    ((ending : Ending) → x ≡ run_states.Ended ending → ending_in (ending_data ending) ≡ Ok ending) →
    run_state_in (run_state_data x) ≡ Ok x
unfolding named_in run_state_name run_state_in run_state_data
run_state_back run_states.Waiting h = refl
run_state_back run_states.Queued h = refl
run_state_back run_states.Taken h = refl
run_state_back (run_states.Ended ending) h = rw (h ending refl) refl
run_state_back run_states.Withdrawn h = refl

pub how_back : (x : How) →
    ((ending : Ending) → x ≡ hows.Ended ending → ending_in (ending_data ending) ≡ Ok ending) →
    how_in (how_data x) ≡ Ok x
unfolding named_in how_name how_in how_data
how_back (hows.Ended ending) h = rw (h ending refl) refl
how_back hows.Terminated h = refl
how_back hows.Wall h = refl

pub start_task_back : (task : StartTask) →
    command_in (string task.line) ≡ Ok task.line →
    i32_in (whole_data task.retries) ≡ Ok task.retries →
    flag_in (boolean task.wait) ≡ Ok task.wait →
    start_task_in (start_task_data task) ≡ Ok task
unfolding start_task_in
start_task_back task h0 h1 h2 = rw (h0, h1) refl

pub release_task_back : (task : ReleaseTask) →
    command_in (string task.line) ≡ Ok task.line →
    count_in (count_data task.wall) ≡ Ok task.wall →
    release_task_in (release_task_data task) ≡ Ok task
unfolding release_task_in
release_task_back task h0 h1 = rw (h0) refl

pub given_back : (options : Given) →
    option_in job_action_in (option_data job_action_data options.job) ≡ Ok options.job →
    option_in flag_in (option_data boolean options.satisfies) ≡ Ok options.satisfies →
    given_in (given_data options) ≡ Ok options
unfolding given_in
given_back options h0 h1 = rw (h0, h1) refl

pub multi_back : (settings : Multi) →
    u8_in (count_data settings.count) ≡ Ok settings.count →
    command_in (string settings.line) ≡ Ok settings.line →
    multi_in (multi_data settings) ≡ Ok settings
unfolding multi_in
multi_back settings h0 h1 = rw (h0, h1) refl

pub closed_back : (end : Closed) →
    how_in (how_data end.how) ≡ Ok end.how →
    flag_in (boolean end.success) ≡ Ok end.success →
    flag_in (boolean end.satisfies) ≡ Ok end.satisfies →
    count_in (count_data end.at) ≡ Ok end.at →
    closed_in (closed_data end) ≡ Ok end
unfolding closed_in
closed_back end h0 h1 h2 h3 = rw (h0) refl
