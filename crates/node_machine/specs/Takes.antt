-- The changes that take a run: puts of the run, of its task and of the preparation of its job on its node.
use Rattle.std.specs.Prelude.{ℕ, List, ◌∷◌, ◌++◌, find}
use Rattle.std.specs.Option.{option_map}
use Rattle.bt_rows.specs.declared.tables.Change.{Change}
use Rattle.bt_rows.specs.declared.tables.Change.TheVariants.{PutRun, PutTask, PutPrep}
use Rattle.batch_model.specs.Events.{is_prep_of_work, is_task_of_run, served, started_task, taken_run}
use Rattle.batch_model.specs.Variants.{State, RunRow}
use Rattle.row_changes.specs.Puts.{put_if_some}

-- the put of the run's task, if it is there
abbrev pub started_puts : ℕ → RunRow → State → List Change
started_puts now run s = put_if_some PutTask (option_map (started_task now) (find (is_task_of_run run) s.tasks))

-- the put of the preparation of the run's job on its node, if the run is a task's and the preparation is there
abbrev pub served_puts : RunRow → State → List Change
served_puts run s = put_if_some PutPrep (option_map served (find (is_prep_of_work run) s.preps))

-- the run first
abbrev pub take_changes : ℕ → RunRow → State → List Change
take_changes now run s = PutRun (taken_run now run) ∷ started_puts now run s ++ served_puts run s
