-- Changes of a state.
use Rattle.std.specs.Prelude.{List, [], ◌∷◌, Option}
use Rattle.kept_table.specs.Slots.{put_slot, clear_slot}
use Rattle.bt_rows.specs.declared.tables.Change.{Change}
use Rattle.bt_rows.specs.declared.tables.Change.TheVariants.{PutPool, DropPool, PutNode, DropNode, PutJob, DropJob, PutTask, DropTask, PutRun, DropRun, PutPrep, DropPrep, PutSample, DropSample, PutScale, DropScale, Counters, Now}
use Rattle.bt_rows.specs.declared.task.TaskRow.{TaskRow}
use Rattle.bt_rows.specs.declared.run.RunRow.{RunRow}
use Rattle.bt_rows.specs.State.{State}
use Rattle.bt_rows.specs.Lists.{put_row, drop_row}
use Rattle.bt_rows.specs.Keys.{same_pool, pool_has_id, same_node, node_has_number, same_job, job_has_id, same_task, task_has_key, same_run, run_has_number, same_prep, prep_has_key, same_sample, sample_has_key, same_scale, scale_has_pool}

-- a row that is put replaces the one with its key, or goes to the end
abbrev pub apply_change : Change → State → State
apply_change (PutPool row) s = record s { pools = put_row (λ old. same_pool old row) row s.pools }
apply_change (DropPool key) s = record s { pools = drop_row (pool_has_id key) s.pools }
apply_change (PutNode row) s = record s { nodes = put_row (λ old. same_node old row) row s.nodes }
apply_change (DropNode key) s = record s { nodes = drop_row (node_has_number key) s.nodes }
apply_change (PutJob row) s = record s { jobs = put_row (λ old. same_job old row) row s.jobs }
apply_change (DropJob key) s = record s { jobs = drop_row (job_has_id key) s.jobs }
apply_change (PutTask row) s = record s { tasks = put_row (λ old. same_task old row) row s.tasks }
apply_change (DropTask key) s = record s { tasks = drop_row (task_has_key key) s.tasks }
apply_change (PutRun row) s = record s { runs = put_row (λ old. same_run old row) row s.runs }
apply_change (DropRun key) s = record s { runs = drop_row (run_has_number key) s.runs }
apply_change (PutPrep row) s = record s { preps = put_row (λ old. same_prep old row) row s.preps }
apply_change (DropPrep key) s = record s { preps = drop_row (prep_has_key key) s.preps }
apply_change (PutSample row) s = record s { samples = put_row (λ old. same_sample old row) row s.samples }
apply_change (DropSample key) s = record s { samples = drop_row (sample_has_key key) s.samples }
apply_change (PutScale row) s = record s { scales = put_row (λ old. same_scale old row) row s.scales }
apply_change (DropScale key) s = record s { scales = drop_row (scale_has_pool key) s.scales }
apply_change (Counters node run) s = record s { next_node = node; next_run = run }
apply_change (Now moment) s = record s { moment = moment }

-- from the first to the last
abbrev pub apply_changes : List Change → State → State
apply_changes [] s = s
apply_changes (change ∷ changes) s = apply_changes changes (apply_change change s)

-- the tasks by their places after a change
abbrev pub tasks_placed : Change → List (Option TaskRow) → List (Option TaskRow)
tasks_placed (PutTask row) slots = put_slot (λ old. same_task old row) row slots
tasks_placed (DropTask key) slots = clear_slot (task_has_key key) slots
tasks_placed _ slots = slots

-- the runs by their places after a change
abbrev pub runs_placed : Change → List (Option RunRow) → List (Option RunRow)
runs_placed (PutRun row) slots = put_slot (λ old. same_run old row) row slots
runs_placed (DropRun number) slots = clear_slot (run_has_number number) slots
runs_placed _ slots = slots
