-- The keys of rows in a store: the parts of a row's key joined by `/`, ids in lower case and numbers in decimal.
use Rattle.std.specs.Prelude.{ℕ, ◌^◌, Bool, true, ◌&&◌, nat_lt, List, ◌∷◌, ◌++◌, is_none}
use Rattle.std.specs.Fmt.{decimal}
use Rattle.bt_base.specs.Ids.{lowered, id_fault}
use Rattle.bt_base.specs.declared.pool_metric.Metric.{Metric}
use Rattle.variant_names.specs.UnitNames.{metric_name}
use Rattle.bt_rows.specs.declared.pool.PoolRow.{PoolRow}
use Rattle.bt_rows.specs.declared.node.NodeRow.{NodeRow}
use Rattle.bt_rows.specs.declared.job.JobRow.{JobRow}
use Rattle.bt_rows.specs.declared.task.TaskRow.{TaskRow}
use Rattle.bt_rows.specs.declared.run.RunRow.{RunRow}
use Rattle.bt_rows.specs.declared.prep.PrepRow.{PrepRow}
use Rattle.bt_rows.specs.declared.sample.SampleRow.{SampleRow}
use Rattle.bt_rows.specs.declared.scale.ScaleRow.{ScaleRow}

-- two parts with `/` between them
abbrev pub joined : List ℕ → List ℕ → List ℕ
joined first second = first ++ 47 ∷ second

-- an id in lower case, since ids are compared without regard to case
abbrev pub id_key : List ℕ → List ℕ
id_key id = lowered id

abbrev pub number_key : ℕ → List ℕ
number_key number = decimal number

-- a job's id and a task's
abbrev pub ids_key : List ℕ → List ℕ → List ℕ
ids_key job id = joined (lowered job) (lowered id)

-- an id and a number
abbrev pub id_number_key : List ℕ → ℕ → List ℕ
id_number_key id number = joined (lowered id) (decimal number)

-- a pool's id, a metric and a label
abbrev pub label_key : List ℕ → Metric → ℕ → List ℕ
label_key pool metric label = joined (lowered pool) (joined (metric_name metric) (decimal label))

abbrev pub pool_key : PoolRow → List ℕ
pool_key row = id_key row.id

abbrev pub node_key : NodeRow → List ℕ
node_key row = number_key row.number

abbrev pub job_key : JobRow → List ℕ
job_key row = id_key row.id

abbrev pub task_key : TaskRow → List ℕ
task_key row = ids_key row.job row.id

abbrev pub run_key : RunRow → List ℕ
run_key row = number_key row.number

abbrev pub prep_key : PrepRow → List ℕ
prep_key row = id_number_key row.job row.node

abbrev pub sample_key : SampleRow → List ℕ
sample_key row = label_key row.pool row.metric row.label

abbrev pub scale_key : ScaleRow → List ℕ
scale_key row = id_key row.pool

-- what types of rows tell of the parts of keys, by which two keys are different: an id has no `/`, and a number has at most 64 bits

abbrev pub is_id : List ℕ → Bool
is_id text = is_none (id_fault text)

abbrev pub is_number : ℕ → Bool
is_number number = nat_lt number (2 ^ 64)

abbrev pub pool_keyed : PoolRow → Bool
pool_keyed row = true

abbrev pub node_keyed : NodeRow → Bool
node_keyed row = is_number row.number

abbrev pub job_keyed : JobRow → Bool
job_keyed row = true

abbrev pub task_keyed : TaskRow → Bool
task_keyed row = is_id row.job

abbrev pub run_keyed : RunRow → Bool
run_keyed row = is_number row.number

abbrev pub prep_keyed : PrepRow → Bool
prep_keyed row = is_id row.job && is_number row.node

abbrev pub sample_keyed : SampleRow → Bool
sample_keyed row = is_id row.pool && is_number row.label

abbrev pub scale_keyed : ScaleRow → Bool
scale_keyed row = true
