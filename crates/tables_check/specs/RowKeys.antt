-- The texts of keys that some rows have.
use Rattle.std.specs.Prelude.{ℕ, ◌&&◌, List, ◌∷◌, ◌++◌, Option, Some, None, if◌then◌else◌}
use Rattle.std.specs.Option.{option_map}
use Rattle.bt_base.specs.Ids.{lowered}
use Rattle.kept_table.specs.Keys.{number_text, id_text, ids_text, number_id_text}
use Rattle.bt_rows.specs.Metrics.{place_of_metric}
use Rattle.batch_model.specs.Runs.{is_unended, is_start, is_preparation, is_main}
use Rattle.batch_model.specs.Tasks.{is_placed}
use Rattle.batch_model.specs.Variants.{TaskRow, RunRow, Metric, SampleRow}

-- the node of an unended start run
abbrev pub start_key : RunRow → Option (List ℕ)
start_key run = if is_start run.kind && is_unended run.state then Some (number_text run.node) else None

-- the node and the job of an unended preparation run
abbrev pub preparation_key : RunRow → Option (List ℕ)
preparation_key run = if is_preparation run.kind && is_unended run.state then option_map (number_id_text run.node) run.job else None

-- the text of an attempt of a job's task: the number of the attempt, and both ids
abbrev pub attempt_text : List ℕ → List ℕ → ℕ → List ℕ
attempt_text job id attempt = number_text attempt ++ ids_text job id

-- the text of an attempt, if a job and a task are named
abbrev pub text_of_attempt : Option (List ℕ) → Option (List ℕ) → ℕ → Option (List ℕ)
text_of_attempt None id attempt = None
text_of_attempt (Some job) None attempt = None
text_of_attempt (Some job) (Some id) attempt = Some (attempt_text job id attempt)

-- the attempt of which the run is the main one
abbrev pub attempt_key : RunRow → Option (List ℕ)
attempt_key run = if is_main run.kind then text_of_attempt run.job run.task run.attempt else None

-- the job of a placed task
abbrev pub placed_key : TaskRow → Option (List ℕ)
placed_key task = if is_placed task.stage then Some (id_text task.job) else None

-- the text of a pool's metric
abbrev pub metric_text : List ℕ → Metric → List ℕ
metric_text pool metric = place_of_metric metric ∷ lowered pool

-- the pool and the metric of a sample
abbrev pub metric_key : SampleRow → Option (List ℕ)
metric_key sample = Some (metric_text sample.pool sample.metric)
