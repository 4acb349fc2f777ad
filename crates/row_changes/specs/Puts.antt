-- The changes that rows of a list give, in their order.
use Rattle.std.specs.Prelude.{Bool, List, [], ◌∷◌, ◌++◌, Option, Some, None}
use Rattle.bt_rows.specs.declared.tables.Change.{Change}
use Rattle.bt_rows.specs.declared.tables.Change.TheVariants.{DropJob, DropTask, DropRun, DropPrep, DropSample, DropScale}
use Rattle.bt_rows.specs.declared.task.TaskKey.{TaskKey}
use Rattle.bt_rows.specs.declared.prep.PrepKey.{PrepKey}
use Rattle.bt_rows.specs.declared.sample.SampleKey.{SampleKey}
use Rattle.batch_model.specs.Finding.{only_if}
use Rattle.batch_model.specs.Variants.{JobRow, TaskRow, RunRow, PrepRow, SampleRow, ScaleRow}

module _ {R : Type 0} (put : R → Change) where
  -- the put of a row, if there is one
  abbrev pub put_if_some : Option R → List Change
  put_if_some None = []
  put_if_some (Some row) = put row ∷ []

  -- the puts that the rows give
  abbrev pub puts_of : (R → Option R) → List R → List Change
  puts_of give [] = []
  puts_of give (row ∷ rows) = put_if_some (give row) ++ puts_of give rows

-- the changes of the rows that pass the test
abbrev pub changes_where : {R : Type 0} → (R → Change) → (R → Bool) → List R → List Change
changes_where change test rows = puts_of change (λ row. only_if (test row) (Some row)) rows

-- the drop of a row

abbrev pub job_drop : JobRow → Change
job_drop job = DropJob job.id

abbrev pub key_of_task : TaskRow → TaskKey
key_of_task task = record { job = task.job; id = task.id }

abbrev pub task_drop : TaskRow → Change
task_drop task = DropTask (key_of_task task)

abbrev pub run_drop : RunRow → Change
run_drop run = DropRun run.number

abbrev pub key_of_prep : PrepRow → PrepKey
key_of_prep prep = record { job = prep.job; node = prep.node }

abbrev pub prep_drop : PrepRow → Change
prep_drop prep = DropPrep (key_of_prep prep)

abbrev pub key_of_sample : SampleRow → SampleKey
key_of_sample sample = record { pool = sample.pool; metric = sample.metric; label = sample.label }

abbrev pub sample_drop : SampleRow → Change
sample_drop sample = DropSample (key_of_sample sample)

abbrev pub scale_drop : ScaleRow → Change
scale_drop scale = DropScale scale.pool
