-- The texts by which rows are found: a row has a key exactly if its text is the key's.
use Rattle.std.specs.Prelude.{◌≡◌, ℕ, Bool, true, false, ◌&&◌, List, ◌∷◌, nat_eq}
use Rattle.std.proofs.Common.{refl, ap, ◌∙◌}
use Rattle.std.specs.Str.{bytes_eq}
use Rattle.bt_base.specs.Ids.{same}
use Rattle.bt_base.specs.declared.pool_metric.Metric.{Metric}
use Rattle.kept_table.specs.Keys.{number_text, id_text, ids_text, number_id_text}
use Rattle.kept_table.proofs.KeyTexts.{same-id, same-ids, same-number, same-number_id}
use Rattle.bt_rows.specs.Metrics.{place_of_metric}
use Rattle.bt_rows.specs.Keys.{pool_has_id, same_pool, node_has_number, same_node, job_has_id, same_job, task_has_key, same_task, run_has_number, same_run}
use Rattle.bt_rows.specs.Keys.{prep_has_key, same_prep, sample_has_key, same_sample, scale_has_pool, same_scale}
use Rattle.bt_rows.specs.declared.pool.PoolRow.{PoolRow}
use Rattle.bt_rows.specs.declared.node.NodeRow.{NodeRow}
use Rattle.bt_rows.specs.declared.job.JobRow.{JobRow}
use Rattle.bt_rows.specs.declared.task.TaskRow.{TaskRow}
use Rattle.bt_rows.specs.declared.task.TaskKey.{TaskKey}
use Rattle.bt_rows.specs.declared.run.RunRow.{RunRow}
use Rattle.bt_rows.specs.declared.prep.PrepRow.{PrepRow}
use Rattle.bt_rows.specs.declared.prep.PrepKey.{PrepKey}
use Rattle.bt_rows.specs.declared.sample.SampleRow.{SampleRow}
use Rattle.bt_rows.specs.declared.sample.SampleKey.{SampleKey}
use Rattle.bt_rows.specs.declared.scale.ScaleRow.{ScaleRow}

-- a pool's id
abbrev pub pool_text : PoolRow → List ℕ
pool_text pool = id_text pool.id

pub pool_by_text : (id : List ℕ) (pool : PoolRow) → pool_has_id id pool ≡ bytes_eq (pool_text pool) (id_text id)
pool_by_text id pool = same-id pool.id id

pub same_pool_by_text : (pool other : PoolRow) → same_pool pool other ≡ bytes_eq (pool_text pool) (pool_text other)
same_pool_by_text pool other = same-id pool.id other.id

-- a node's number
abbrev pub node_text : NodeRow → List ℕ
node_text node = number_text node.number

pub node_by_text : (number : ℕ) (node : NodeRow) → node_has_number number node ≡ bytes_eq (node_text node) (number_text number)
node_by_text number node = same-number node.number number

pub same_node_by_text : (node other : NodeRow) → same_node node other ≡ bytes_eq (node_text node) (node_text other)
same_node_by_text node other = same-number node.number other.number

-- a job's id
abbrev pub job_text : JobRow → List ℕ
job_text job = id_text job.id

pub job_by_text : (id : List ℕ) (job : JobRow) → job_has_id id job ≡ bytes_eq (job_text job) (id_text id)
job_by_text id job = same-id job.id id

pub same_job_by_text : (job other : JobRow) → same_job job other ≡ bytes_eq (job_text job) (job_text other)
same_job_by_text job other = same-id job.id other.id

-- the ids of a task's job and of the task
abbrev pub task_text : TaskRow → List ℕ
task_text task = ids_text task.job task.id

abbrev pub task_key_text : TaskKey → List ℕ
task_key_text key = ids_text key.job key.id

pub task_by_text : (key : TaskKey) (task : TaskRow) → task_has_key key task ≡ bytes_eq (task_text task) (task_key_text key)
task_by_text key task = same-ids task.job task.id key.job key.id

pub same_task_by_text : (task other : TaskRow) → same_task task other ≡ bytes_eq (task_text task) (task_text other)
same_task_by_text task other = same-ids task.job task.id other.job other.id

-- a run's number
abbrev pub run_text : RunRow → List ℕ
run_text run = number_text run.number

pub run_by_text : (number : ℕ) (run : RunRow) → run_has_number number run ≡ bytes_eq (run_text run) (number_text number)
run_by_text number run = same-number run.number number

pub same_run_by_text : (run other : RunRow) → same_run run other ≡ bytes_eq (run_text run) (run_text other)
same_run_by_text run other = same-number run.number other.number

and_swap : (a b : Bool) → (a && b) ≡ (b && a)
and_swap true true = refl
and_swap true false = refl
and_swap false true = refl
and_swap false false = refl

-- the number of a preparation's node and the id of its job
abbrev pub prep_text : PrepRow → List ℕ
prep_text prep = number_id_text prep.node prep.job

abbrev pub prep_key_text : PrepKey → List ℕ
prep_key_text key = number_id_text key.node key.job

pub prep_by_text : (key : PrepKey) (prep : PrepRow) → prep_has_key key prep ≡ bytes_eq (prep_text prep) (prep_key_text key)
prep_by_text key prep = and_swap (same prep.job key.job) (nat_eq prep.node key.node) ∙ same-number_id prep.node key.node prep.job key.job

pub same_prep_by_text : (prep other : PrepRow) → same_prep prep other ≡ bytes_eq (prep_text prep) (prep_text other)
same_prep_by_text prep other = and_swap (same prep.job other.job) (nat_eq prep.node other.node) ∙ same-number_id prep.node other.node prep.job other.job

-- a sample's metric, its label and the id of its pool
abbrev pub label_text : Metric → ℕ → List ℕ → List ℕ
label_text metric label pool = place_of_metric metric ∷ number_id_text label pool

abbrev pub sample_text : SampleRow → List ℕ
sample_text sample = label_text sample.metric sample.label sample.pool

abbrev pub sample_key_text : SampleKey → List ℕ
sample_key_text key = label_text key.metric key.label key.pool

same_label : (m n l k : ℕ) (a b : List ℕ) → (same a b && nat_eq l k && nat_eq m n) ≡ bytes_eq (m ∷ number_id_text l a) (n ∷ number_id_text k b)
same_label m n l k a b =
    and_swap (same a b && nat_eq l k) (nat_eq m n)
    ∙ ap (λ x. nat_eq m n && x) (and_swap (same a b) (nat_eq l k) ∙ same-number_id l k a b)

pub sample_by_text : (key : SampleKey) (sample : SampleRow) → sample_has_key key sample ≡ bytes_eq (sample_text sample) (sample_key_text key)
sample_by_text key sample = same_label (place_of_metric sample.metric) (place_of_metric key.metric) sample.label key.label sample.pool key.pool

pub same_sample_by_text : (sample other : SampleRow) → same_sample sample other ≡ bytes_eq (sample_text sample) (sample_text other)
same_sample_by_text sample other = same_label (place_of_metric sample.metric) (place_of_metric other.metric) sample.label other.label sample.pool other.pool

-- the id of a scaling's pool
abbrev pub scale_text : ScaleRow → List ℕ
scale_text scale = id_text scale.pool

pub scale_by_text : (pool : List ℕ) (scale : ScaleRow) → scale_has_pool pool scale ≡ bytes_eq (scale_text scale) (id_text pool)
scale_by_text pool scale = same-id scale.pool pool

pub same_scale_by_text : (scale other : ScaleRow) → same_scale scale other ≡ bytes_eq (scale_text scale) (scale_text other)
same_scale_by_text scale other = same-id scale.pool other.pool
