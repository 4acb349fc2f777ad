-- The keys of rows.
use Rattle.std.specs.Prelude.{ℕ, Bool, ◌&&◌, List, nat_eq}
use Rattle.std.specs.Cmp.{IsEquivalence, on_equiv, nat_eq_equiv}
use Rattle.bt_base.specs.Ids.{same}
use Rattle.bt_base.proofs.SameIds.{same_equiv}
use Rattle.bt_base.proofs.Pairs.{both_equiv}
use Rattle.bt_base.specs.declared.pool_metric.Metric.{Metric}
use Rattle.bt_rows.specs.Metrics.{same_metric, metric_equiv}
use Rattle.bt_rows.specs.declared.pool.PoolRow.{PoolRow}
use Rattle.bt_rows.specs.declared.node.NodeRow.{NodeRow}
use Rattle.bt_rows.specs.declared.job.JobRow.{JobRow}
use Rattle.bt_rows.specs.declared.task.TaskRow.{TaskRow}
use Rattle.bt_rows.specs.declared.task.TaskKey.{TaskKey}
use Rattle.bt_rows.specs.declared.run.RunRow.{RunRow}
use Rattle.bt_rows.specs.declared.prep.PrepRow.{PrepRow}
use Rattle.bt_rows.specs.declared.prep.PrepKey.{PrepKey}
use Rattle.bt_rows.specs.declared.sample.SampleRow.{SampleRow}
use Rattle.bt_rows.specs.declared.sample.SampleKey.{SampleKey}
use Rattle.bt_rows.specs.declared.scale.ScaleRow.{ScaleRow}

-- the pool has the id, but for case
abbrev pub pool_has_id : List ℕ → PoolRow → Bool
pool_has_id id pool = same pool.id id

-- both pools have the same id, but for case
abbrev pub same_pool : PoolRow → PoolRow → Bool
same_pool pool other = same pool.id other.id

-- which is an equivalence
pub same_pool_equiv : IsEquivalence same_pool
same_pool_equiv = on_equiv (λ (pool : PoolRow). pool.id) same_equiv

-- the node has the number
abbrev pub node_has_number : ℕ → NodeRow → Bool
node_has_number number node = nat_eq node.number number

-- both nodes have the same number
abbrev pub same_node : NodeRow → NodeRow → Bool
same_node node other = nat_eq node.number other.number

-- which is an equivalence
pub same_node_equiv : IsEquivalence same_node
same_node_equiv = on_equiv (λ (node : NodeRow). node.number) nat_eq_equiv

-- the job has the id, but for case
abbrev pub job_has_id : List ℕ → JobRow → Bool
job_has_id id job = same job.id id

-- both jobs have the same id, but for case
abbrev pub same_job : JobRow → JobRow → Bool
same_job job other = same job.id other.id

-- which is an equivalence
pub same_job_equiv : IsEquivalence same_job
same_job_equiv = on_equiv (λ (job : JobRow). job.id) same_equiv

-- the task is the job's and has the id, but for case
abbrev pub task_has_ids : List ℕ → List ℕ → TaskRow → Bool
task_has_ids job id task = same task.job job && same task.id id

-- the task has the ids of the key
abbrev pub task_has_key : TaskKey → TaskRow → Bool
task_has_key key task = task_has_ids key.job key.id task

-- both tasks have the same job and id, but for case
abbrev pub same_task : TaskRow → TaskRow → Bool
same_task task other = same task.job other.job && same task.id other.id

-- which is an equivalence
pub same_task_equiv : IsEquivalence same_task
same_task_equiv = both_equiv (on_equiv (λ (task : TaskRow). task.job) same_equiv) (on_equiv (λ (task : TaskRow). task.id) same_equiv)

-- the run has the number
abbrev pub run_has_number : ℕ → RunRow → Bool
run_has_number number run = nat_eq run.number number

-- both runs have the same number
abbrev pub same_run : RunRow → RunRow → Bool
same_run run other = nat_eq run.number other.number

-- which is an equivalence
pub same_run_equiv : IsEquivalence same_run
same_run_equiv = on_equiv (λ (run : RunRow). run.number) nat_eq_equiv

-- the preparation is the job's, but for case, and stands on the node with the number
abbrev pub prep_has_ids : List ℕ → ℕ → PrepRow → Bool
prep_has_ids job node prep = same prep.job job && nat_eq prep.node node

-- the preparation has the job and node of the key
abbrev pub prep_has_key : PrepKey → PrepRow → Bool
prep_has_key key prep = prep_has_ids key.job key.node prep

-- both preparations have the same job and node
abbrev pub same_prep : PrepRow → PrepRow → Bool
same_prep prep other = same prep.job other.job && nat_eq prep.node other.node

-- which is an equivalence
pub same_prep_equiv : IsEquivalence same_prep
same_prep_equiv = both_equiv (on_equiv (λ (prep : PrepRow). prep.job) same_equiv) (on_equiv (λ (prep : PrepRow). prep.node) nat_eq_equiv)

-- the sample is one of the metric of the pool, but for case, and has the label
abbrev pub sample_has_label : List ℕ → Metric → ℕ → SampleRow → Bool
sample_has_label pool metric label sample = same sample.pool pool && nat_eq sample.label label && same_metric sample.metric metric

-- the sample has the pool, label and metric of the key
abbrev pub sample_has_key : SampleKey → SampleRow → Bool
sample_has_key key sample = sample_has_label key.pool key.metric key.label sample

-- both samples have the same pool, label and metric
abbrev pub same_sample : SampleRow → SampleRow → Bool
same_sample sample other = same sample.pool other.pool && nat_eq sample.label other.label && same_metric sample.metric other.metric

-- which is an equivalence
pub same_sample_equiv : IsEquivalence same_sample
same_sample_equiv =
    both_equiv (both_equiv (on_equiv (λ (sample : SampleRow). sample.pool) same_equiv) (on_equiv (λ (sample : SampleRow). sample.label) nat_eq_equiv))
    (on_equiv (λ (sample : SampleRow). sample.metric) metric_equiv)

-- the scaling is the pool's, but for case
abbrev pub scale_has_pool : List ℕ → ScaleRow → Bool
scale_has_pool pool scale = same scale.pool pool

-- both scalings are of the same pool, but for case
abbrev pub same_scale : ScaleRow → ScaleRow → Bool
same_scale scale other = same scale.pool other.pool

-- which is an equivalence
pub same_scale_equiv : IsEquivalence same_scale
same_scale_equiv = on_equiv (λ (scale : ScaleRow). scale.pool) same_equiv
