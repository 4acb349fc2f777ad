-- Rows found by their keys, changed in place, and added at the end.
-- Source: this project's own.
use Rattle.std.specs.Prelude.{ℕ, ◌+◌, Bool, ◌&&◌, nat_eq, List, [], ◌∷◌, ◌++◌, Option}
use Rattle.std.specs.List.{find}
use Rattle.bt_base.specs.Ids.{same}
use Rattle.batch_model.specs.Finding.{change_where}
use Rattle.batch_model.specs.Variants.{State, PoolRow, NodeRow, JobRow, TaskRow, RunRow, PrepRow}

-- whether a row has the key

abbrev pub is_pool : List ℕ → PoolRow → Bool
is_pool id pool = same pool.id id

abbrev pub is_node : ℕ → NodeRow → Bool
is_node number node = nat_eq node.number number

abbrev pub is_job : List ℕ → JobRow → Bool
is_job id job = same job.id id

abbrev pub is_task : List ℕ → List ℕ → TaskRow → Bool
is_task job id task = same task.job job && same task.id id

abbrev pub is_run : ℕ → RunRow → Bool
is_run number run = nat_eq run.number number

abbrev pub is_prep : List ℕ → ℕ → PrepRow → Bool
is_prep job node prep = same prep.job job && nat_eq prep.node node

-- the row with the key

abbrev pub pool_of : State → List ℕ → Option PoolRow
pool_of s id = find (is_pool id) s.pools

abbrev pub node_of : State → ℕ → Option NodeRow
node_of s number = find (is_node number) s.nodes

abbrev pub job_of : State → List ℕ → Option JobRow
job_of s id = find (is_job id) s.jobs

abbrev pub task_of : State → List ℕ → List ℕ → Option TaskRow
task_of s job id = find (is_task job id) s.tasks

abbrev pub run_of : State → ℕ → Option RunRow
run_of s number = find (is_run number) s.runs

abbrev pub prep_of : State → List ℕ → ℕ → Option PrepRow
prep_of s job node = find (is_prep job node) s.preps

-- rows that pass a test, changed in place

abbrev pub change_pools : (PoolRow → Bool) → (PoolRow → PoolRow) → State → State
change_pools test change s = record s { pools = change_where test change s.pools }

abbrev pub change_nodes : (NodeRow → Bool) → (NodeRow → NodeRow) → State → State
change_nodes test change s = record s { nodes = change_where test change s.nodes }

abbrev pub change_jobs : (JobRow → Bool) → (JobRow → JobRow) → State → State
change_jobs test change s = record s { jobs = change_where test change s.jobs }

abbrev pub change_tasks : (TaskRow → Bool) → (TaskRow → TaskRow) → State → State
change_tasks test change s = record s { tasks = change_where test change s.tasks }

abbrev pub change_runs : (RunRow → Bool) → (RunRow → RunRow) → State → State
change_runs test change s = record s { runs = change_where test change s.runs }

abbrev pub change_preps : (PrepRow → Bool) → (PrepRow → PrepRow) → State → State
change_preps test change s = record s { preps = change_where test change s.preps }

-- the row in place of the one with its key

abbrev pub put_pool : PoolRow → State → State
put_pool pool s = change_pools (is_pool pool.id) (λ old. pool) s

abbrev pub put_job : JobRow → State → State
put_job job s = change_jobs (is_job job.id) (λ old. job) s

abbrev pub put_task : TaskRow → State → State
put_task task s = change_tasks (is_task task.job task.id) (λ old. task) s

-- a new row, at the end

abbrev pub add_pool_row : PoolRow → State → State
add_pool_row pool s = record s { pools = s.pools ++ pool ∷ [] }

abbrev pub add_node_row : NodeRow → State → State
add_node_row node s = record s { nodes = s.nodes ++ node ∷ []; next_node = s.next_node + 1 }

abbrev pub add_job_row : JobRow → State → State
add_job_row job s = record s { jobs = s.jobs ++ job ∷ [] }

abbrev pub add_task_row : TaskRow → State → State
add_task_row task s = record s { tasks = s.tasks ++ task ∷ [] }

abbrev pub add_prep_row : PrepRow → State → State
add_prep_row prep s = record s { preps = s.preps ++ prep ∷ [] }

-- a new run has the number `next_run`, which rises by one
abbrev pub add_run_row : RunRow → State → State
add_run_row run s = record s { runs = s.runs ++ run ∷ []; next_run = s.next_run + 1 }
