-- What tables hold.
use Rattle.std.specs.Prelude.{ℕ, List, [], Option}
use Rattle.bt_rows.specs.declared.pool.PoolRow.{PoolRow}
use Rattle.bt_rows.specs.declared.node.NodeRow.{NodeRow}
use Rattle.bt_rows.specs.declared.job.JobRow.{JobRow}
use Rattle.bt_rows.specs.declared.task.TaskRow.{TaskRow}
use Rattle.bt_rows.specs.declared.run.RunRow.{RunRow}
use Rattle.bt_rows.specs.declared.prep.PrepRow.{PrepRow}
use Rattle.bt_rows.specs.declared.sample.SampleRow.{SampleRow}
use Rattle.bt_rows.specs.declared.scale.ScaleRow.{ScaleRow}

-- the rows in order, the counters and the last moment
pub record State : Type 0 where
  pub pools : List PoolRow
  pub nodes : List NodeRow
  pub jobs : List JobRow
  pub tasks : List TaskRow
  pub runs : List RunRow
  pub preps : List PrepRow
  pub samples : List SampleRow
  pub scales : List ScaleRow
  pub next_node : ℕ
  pub next_run : ℕ
  pub moment : ℕ

-- what contracts see of tables: the state, the tasks and the runs by their places, and the number of changes that may be applied
-- without an allocation
pub record StateWithRoom : Type 0 where
  pub state : State
  pub task_slots : List (Option TaskRow)
  pub run_slots : List (Option RunRow)
  pub room : ℕ

-- no rows
abbrev pub empty_state : State
empty_state = record { pools = []; nodes = []; jobs = []; tasks = []; runs = []; preps = []; samples = []; scales = []; next_node = 1; next_run = 1; moment = 0 }
