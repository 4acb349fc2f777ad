-- Bodies with nothing but what they need, and the usual values elsewhere.
use Rattle.std.specs.Prelude.{ℕ, List, [], codes, Some, None, pos, negsuc, false}
use Rattle.bt_rows.specs.declared.event.PoolSpec.{PoolSpec}
use Rattle.bt_rows.specs.declared.event.ResizeSpec.{ResizeSpec}
use Rattle.bt_rows.specs.declared.event.JobSpec.{JobSpec}
use Rattle.bt_rows.specs.declared.event.TaskSpec.{TaskSpec}
use Rattle.batch_model.specs.Variants.{Spread, Dealloc}

-- a pool with this id and so many nodes to have
abbrev pub pool_body : List ℕ → ℕ → PoolSpec
pool_body name target = record {
  id = name;
  dedicated = target;
  low = 0;
  slots = 1;
  fill = Spread;
  inter = false;
  timeout = 900000;
  start = None;
  scale = None;
}

-- a resize to so many nodes, of which those that leave do so by the option
abbrev pub resize_body : ℕ → Dealloc → ResizeSpec
resize_body target by = record { dedicated = Some target; low = None; timeout = 900000; option = by }

-- a job in this pool
abbrev pub job_body : List ℕ → JobSpec
job_body in_pool = record {
  pool = in_pool;
  priority = pos 0;
  parallel = negsuc 0;
  retries = pos 0;
  wall = None;
  deps = false;
  on_all = false;
  on_fail = false;
  prep = None;
  release = None;
}

-- a task with this id
abbrev pub task_body : List ℕ → TaskSpec
task_body name = record {
  id = name;
  line = codes "w";
  slots = 1;
  retries = None;
  wall = None;
  retention = Some 604800000;
  codes = [];
  ranges = [];
  launch = None;
  other = None;
  needs = [];
  spans = [];
  multi = None;
}
