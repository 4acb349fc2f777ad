-- The tables that the content of a store is.
use Rattle.std.specs.Prelude.{ℕ, Bool, ◌&&◌, List, [], ◌∷◌, Option, Some, None, Result, nat_eq, if◌then◌else◌}
use Rattle.std.specs.Option.{option_map, option_map_or, option_and_then}
use Rattle.std.specs.Result.{result_ok}
use Rattle.std.specs.Str.{bytes_eq}
use Rattle.serde_json.specs.Data.{Data}
use Rattle.row_fields.specs.declared.fault.RowFault.{RowFault}
use Rattle.row_texts.specs.Texts.{row_in_text}
use Rattle.row_texts.specs.Pools.{pool_in}
use Rattle.row_texts.specs.Nodes.{node_in}
use Rattle.row_texts.specs.Jobs.{job_in}
use Rattle.row_texts.specs.Tasks.{task_in}
use Rattle.row_texts.specs.Runs.{run_in}
use Rattle.row_texts.specs.Preps.{prep_in}
use Rattle.row_texts.specs.Samples.{sample_in}
use Rattle.row_texts.specs.Scales.{scale_in}
use Rattle.bt_rows.specs.declared.pool.PoolRow.{PoolRow}
use Rattle.bt_rows.specs.declared.node.NodeRow.{NodeRow}
use Rattle.bt_rows.specs.declared.job.JobRow.{JobRow}
use Rattle.bt_rows.specs.declared.task.TaskRow.{TaskRow}
use Rattle.bt_rows.specs.declared.run.RunRow.{RunRow}
use Rattle.bt_rows.specs.declared.prep.PrepRow.{PrepRow}
use Rattle.bt_rows.specs.declared.sample.SampleRow.{SampleRow}
use Rattle.bt_rows.specs.declared.scale.ScaleRow.{ScaleRow}
use Rattle.bt_rows.specs.State.{State}
use Rattle.keeper_store.specs.declared.entries.Entry.{Entry}
use Rattle.keeper_store.specs.declared.content.Metas.{Metas}
use Rattle.keeper_store.specs.declared.content.Stored.{Stored}
use Rattle.store_keeper.specs.Keys.{pool_key, node_key, job_key, task_key, run_key, prep_key, sample_key, scale_key}
use Rattle.store_keeper.specs.Keys.{pool_keyed, node_keyed, job_keyed, task_keyed, run_keyed, prep_keyed, sample_keyed, scale_keyed}

module _ {R : Type 0} (key_of : R → List ℕ) (keyed : R → Bool) where
  -- the row, if it has the key; that its parts are such as keys have is so for each row of the code
  abbrev pub if_key : List ℕ → R → Option R
  if_key key row = if bytes_eq key (key_of row) && keyed row then Some row else None

module _ {R : Type 0} (key_of : R → List ℕ) (keyed : R → Bool) (in_data : Data → Result R RowFault) where
  -- the row that an entry is: its text is one, and its key is the row's
  abbrev pub row_in : Entry → Option R
  row_in entry = option_and_then (if_key key_of keyed entry.key) (result_ok (row_in_text in_data entry.text))

  -- the rows that the entries are, if each is one
  abbrev pub rows_in : List Entry → Option (List R)
  rows_in [] = Some []
  rows_in (entry ∷ entries) = option_and_then (λ row. option_map (λ rows. row ∷ rows) (rows_in entries)) (row_in entry)

abbrev pub pools_in : List Entry → Option (List PoolRow)
pools_in entries = rows_in pool_key pool_keyed pool_in entries

abbrev pub nodes_in : List Entry → Option (List NodeRow)
nodes_in entries = rows_in node_key node_keyed node_in entries

abbrev pub jobs_in : List Entry → Option (List JobRow)
jobs_in entries = rows_in job_key job_keyed job_in entries

abbrev pub tasks_in : List Entry → Option (List TaskRow)
tasks_in entries = rows_in task_key task_keyed task_in entries

abbrev pub runs_in : List Entry → Option (List RunRow)
runs_in entries = rows_in run_key run_keyed run_in entries

abbrev pub preps_in : List Entry → Option (List PrepRow)
preps_in entries = rows_in prep_key prep_keyed prep_in entries

abbrev pub samples_in : List Entry → Option (List SampleRow)
samples_in entries = rows_in sample_key sample_keyed sample_in entries

abbrev pub scales_in : List Entry → Option (List ScaleRow)
scales_in entries = rows_in scale_key scale_keyed scale_in entries

-- a number beside the rows, or the one of a store where it was never set
abbrev pub number_or : ℕ → Option ℕ → ℕ
number_or default number = option_map_or (λ n. n) number default

-- the rows are of version 1, which is that of a store without a version
abbrev pub has_known_version : Metas → Bool
has_known_version metas = nat_eq (number_or 1 metas.version) 1

-- tables with these rows, and the numbers beside them
abbrev pub state_of : Metas → List PoolRow → List NodeRow → List JobRow → List TaskRow → List RunRow → List PrepRow → List SampleRow → List ScaleRow → State
state_of metas pools nodes jobs tasks runs preps samples scales = record {
  pools = pools;
  nodes = nodes;
  jobs = jobs;
  tasks = tasks;
  runs = runs;
  preps = preps;
  samples = samples;
  scales = scales;
  next_node = number_or 1 metas.next_node;
  next_run = number_or 1 metas.next_run;
  moment = number_or 0 metas.moment;
}

-- the tables that the rows are, if each entry is a row
abbrev pub rows_state : Stored → Option State
rows_state s =
    option_and_then (λ pools.
    option_and_then (λ nodes.
    option_and_then (λ jobs.
    option_and_then (λ tasks.
    option_and_then (λ runs.
    option_and_then (λ preps.
    option_and_then (λ samples.
    option_map (λ scales. state_of s.metas pools nodes jobs tasks runs preps samples scales)
    (scales_in s.scales)) (samples_in s.samples)) (preps_in s.preps)) (runs_in s.runs))
    (tasks_in s.tasks)) (jobs_in s.jobs)) (nodes_in s.nodes)) (pools_in s.pools)

-- the tables that the content is: the readings of its rows, with absent counters 1 and an absent moment 0
abbrev pub state_in : Stored → Option State
state_in s = if has_known_version s.metas then rows_state s else None
