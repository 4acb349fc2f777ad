-- What due steps put into the tables.
use Rattle.std.proofs.Common.{◌≡◌, ℕ, ◌+◌, Bool, false, not, nat_eq, nat_lt, List, [], ◌∷◌, ◌++◌, Some, refl, ap}
use Rattle.std.specs.List.{list_any, find}
use Rattle.bt_rows.specs.Changes.{apply_change, apply_changes}
use Rattle.bt_rows.specs.Keys.{same_pool, same_pool_equiv, same_node, same_job, same_job_equiv, same_task, same_task_equiv, same_run}
use Rattle.bt_rows.specs.Lists.{put_row}
use Rattle.bt_rows.specs.declared.tables.Change.TheVariants.{PutPool, PutNode, PutJob, PutTask, PutRun, Counters}
use Rattle.bt_rows.proofs.DistinctRows.{found_first}
use Rattle.batch_model.specs.Finding.{Each}
use Rattle.batch_model.specs.Rows.{put_pool, put_job, put_task, add_node_row, add_run_row}
use Rattle.batch_model.specs.Sound.{NumbersAreNew}
use Rattle.batch_model.specs.WellFormed.{KeysAreDistinct}
use Rattle.batch_model.specs.Variants.{State, PoolRow, NodeRow, JobRow, TaskRow, RunRow}
use Rattle.model_lists.proofs.Putting.{put_row-found, put_row-new}
use Rattle.model_lists.proofs.NextNumbers.{below_other}
use Rattle.model_lists.proofs.RowLists.{each_weaker, none_any}
use Rattle.model_lists.proofs.Tests.{true_not}

-- a pool in the place of one that a search finds
pub pool_changed : (test : PoolRow → Bool) (pool row : PoolRow) (s : State) → KeysAreDistinct s → find test s.pools ≡ Some pool → row.id ≡ pool.id → apply_change (PutPool row) s ≡ put_pool row s
pool_changed test pool row s keys found id =
    ap (λ pools. record s { pools = pools })
    (put_row-found same_pool same_pool_equiv (λ (other : PoolRow). same_pool other row) (λ (old : PoolRow). row) pool (λ x. same_key x) same_key s.pools keys.pools
    first)
  where
    same_key : (x : PoolRow) → same_pool x row ≡ same_pool x pool
    same_key x = rw id refl

    first : find (λ (other : PoolRow). same_pool other row) s.pools ≡ Some pool
    first = rw id (found_first same_pool same_pool_equiv test pool s.pools keys.pools found)

-- a job in the place of one that a search finds
pub job_changed : (test : JobRow → Bool) (job row : JobRow) (s : State) → KeysAreDistinct s → find test s.jobs ≡ Some job → row.id ≡ job.id → apply_change (PutJob row) s ≡ put_job row s
job_changed test job row s keys found id =
    ap (λ jobs. record s { jobs = jobs })
    (put_row-found same_job same_job_equiv (λ (other : JobRow). same_job other row) (λ (old : JobRow). row) job same_key same_key s.jobs keys.jobs
    first)
  where
    same_key : (x : JobRow) → same_job x row ≡ same_job x job
    same_key x = rw id refl

    first : find (λ (other : JobRow). same_job other row) s.jobs ≡ Some job
    first = rw id (found_first same_job same_job_equiv test job s.jobs keys.jobs found)

-- a task in the place of one that a search finds
pub task_changed : (test : TaskRow → Bool) (task row : TaskRow) (s : State) → KeysAreDistinct s → find test s.tasks ≡ Some task → row.job ≡ task.job → row.id ≡ task.id → apply_change (PutTask row) s ≡ put_task row s
task_changed test task row s keys found job id =
    ap (λ tasks. record s { tasks = tasks })
    (put_row-found same_task same_task_equiv (λ (other : TaskRow). same_task other row) (λ (old : TaskRow). row) task same_key same_key s.tasks keys.tasks
    first)
  where
    same_key : (x : TaskRow) → same_task x row ≡ same_task x task
    same_key x = rw (job, id) refl

    first : find (λ (other : TaskRow). same_task other row) s.tasks ≡ Some task
    first = rw (job, id) (found_first same_task same_task_equiv test task s.tasks keys.tasks found)

-- numbers below the next one are other numbers
module _ {R : Type 0} (number : R → ℕ) where
  next_is_new : (next : ℕ) (row : R) (xs : List R) → Each (λ x. nat_lt (number x) next) xs → number row ≡ next → list_any (λ x. nat_eq (number x) (number row)) xs ≡ false
  next_is_new next row xs below is_next =
      rw is_next
      (none_any (λ x. nat_eq (number x) next) xs
      (each_weaker (λ x. nat_lt (number x) next) (λ x. not (nat_eq (number x) next)) (λ x l. true_not (below_other (number x) next l)) xs below))

-- a node with the next number, and the counter after it
pub node_put : (s : State) (row : NodeRow) (after run : ℕ) → NumbersAreNew s → row.number ≡ s.next_node → after ≡ s.next_node + 1 → run ≡ s.next_run → apply_changes (PutNode row ∷ Counters after run ∷ []) s ≡ add_node_row row s
node_put s row after run numbers is_next rises stays =
    made (put_row (λ (other : NodeRow). same_node other row) row s.nodes)
    (put_row-new (λ (other : NodeRow). nat_eq other.number row.number) row s.nodes
    (next_is_new (λ (other : NodeRow). other.number) s.next_node row s.nodes numbers.nodes is_next))
  where
    made : (nodes : List NodeRow) → nodes ≡ s.nodes ++ row ∷ [] → record s { nodes = nodes; next_node = after; next_run = run } ≡ add_node_row row s
    made nodes e = rw (e, rises, stays) refl

-- a run with the next number, and the counter after it, if every run has a lower number
pub next_run_put : (s : State) (row : RunRow) (after node : ℕ) → Each (λ run. nat_lt run.number s.next_run) s.runs → row.number ≡ s.next_run → after ≡ s.next_run + 1 → node ≡ s.next_node → apply_changes (PutRun row ∷ Counters node after ∷ []) s ≡ add_run_row row s
next_run_put s row after node below is_next rises stays =
    made (put_row (λ (other : RunRow). same_run other row) row s.runs)
    (put_row-new (λ (other : RunRow). nat_eq other.number row.number) row s.runs
    (next_is_new (λ (other : RunRow). other.number) s.next_run row s.runs below is_next))
  where
    made : (runs : List RunRow) → runs ≡ s.runs ++ row ∷ [] → record s { runs = runs; next_node = node; next_run = after } ≡ add_run_row row s
    made runs e = rw (e, rises, stays) refl

-- the same in sound tables
pub run_put : (s : State) (row : RunRow) (after node : ℕ) → NumbersAreNew s → row.number ≡ s.next_run → after ≡ s.next_run + 1 → node ≡ s.next_node → apply_changes (PutRun row ∷ Counters node after ∷ []) s ≡ add_run_row row s
run_put s row after node numbers = next_run_put s row after node numbers.runs

-- a node and a run with the next numbers, and the counters after them
pub node_and_run_put : (s : State) (node : NodeRow) (run : RunRow) (nodes runs : ℕ) → NumbersAreNew s → node.number ≡ s.next_node → run.number ≡ s.next_run → nodes ≡ s.next_node + 1 → runs ≡ s.next_run + 1 → apply_changes (PutNode node ∷ PutRun run ∷ Counters nodes runs ∷ []) s ≡ add_run_row run (add_node_row node s)
node_and_run_put s node run nodes runs numbers is_node is_run more_nodes more_runs =
    made (put_row (λ (other : NodeRow). same_node other node) node s.nodes) (put_row (λ (other : RunRow). same_run other run) run s.runs)
    (put_row-new (λ (other : NodeRow). nat_eq other.number node.number) node s.nodes
    (next_is_new (λ (other : NodeRow). other.number) s.next_node node s.nodes numbers.nodes is_node))
    (put_row-new (λ (other : RunRow). nat_eq other.number run.number) run s.runs
    (next_is_new (λ (other : RunRow). other.number) s.next_run run s.runs numbers.runs is_run))
  where
    made : (new_nodes : List NodeRow) (new_runs : List RunRow) → new_nodes ≡ s.nodes ++ node ∷ [] → new_runs ≡ s.runs ++ run ∷ [] → record s { nodes = new_nodes; runs = new_runs; next_node = nodes; next_run = runs } ≡ add_run_row run (add_node_row node s)
    made new_nodes new_runs e f = rw (e, f, more_nodes, more_runs) refl
