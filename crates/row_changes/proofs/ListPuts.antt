-- Puts and drops of rows change one list of the tables.
use Rattle.std.proofs.Common.{◌≡◌, Bool, List, [], ◌∷◌, ◌++◌, Option, Some, None, true, false, not, cond, filter, refl, ◌∙◌, ap}
use Rattle.bt_rows.specs.Changes.{apply_change, apply_changes}
use Rattle.bt_rows.specs.Lists.{drop_row, AreDistinct}
use Rattle.bt_rows.specs.Keys.{same_pool, same_node, same_job, same_job_equiv, same_task, same_task_equiv, same_run, same_run_equiv, same_prep, same_prep_equiv}
use Rattle.bt_rows.specs.declared.tables.Change.{Change}
use Rattle.bt_rows.specs.declared.tables.Change.TheVariants.{PutPool, PutNode, PutTask, PutRun}
use Rattle.batch_model.specs.Finding.{only_if}
use Rattle.batch_model.specs.Variants.{State, PoolRow, NodeRow, JobRow, TaskRow, RunRow, PrepRow}
use Rattle.row_changes.specs.Puts.{puts_of, put_if_some, changes_where, job_drop, task_drop, run_drop, prep_drop}
use Rattle.row_changes.proofs.PutsInPlace.{put_if_some as put_row_if_some, put_each, drop_where, drop_where_filters}

-- changes after others
pub apply_append : (changes later : List Change) (s : State) → apply_changes (changes ++ later) s ≡ apply_changes later (apply_changes changes s)
apply_append [] later s = refl
apply_append (change ∷ changes) later s = apply_append changes later (apply_change change s)

-- puts

pools_cons : (give : PoolRow → Option PoolRow) (o : Option PoolRow) (rest : List PoolRow) (s : State) → ((t : State) → apply_changes (puts_of PutPool give rest) t ≡ record t { pools = put_each same_pool give rest t.pools }) → apply_changes (put_if_some PutPool o ++ puts_of PutPool give rest) s ≡ record s { pools = put_each same_pool give rest (put_row_if_some same_pool o s.pools) }
pools_cons give None rest s ih = ih s
pools_cons give (Some row) rest s ih = ih (apply_change (PutPool row) s)

pub pools_put : (give : PoolRow → Option PoolRow) (pools : List PoolRow) (s : State) → apply_changes (puts_of PutPool give pools) s ≡ record s { pools = put_each same_pool give pools s.pools }
pools_put give [] s = refl
pools_put give (pool ∷ pools) s = pools_cons give (give pool) pools s (pools_put give pools)

nodes_cons : (give : NodeRow → Option NodeRow) (o : Option NodeRow) (rest : List NodeRow) (s : State) → ((t : State) → apply_changes (puts_of PutNode give rest) t ≡ record t { nodes = put_each same_node give rest t.nodes }) → apply_changes (put_if_some PutNode o ++ puts_of PutNode give rest) s ≡ record s { nodes = put_each same_node give rest (put_row_if_some same_node o s.nodes) }
nodes_cons give None rest s ih = ih s
nodes_cons give (Some row) rest s ih = ih (apply_change (PutNode row) s)

pub nodes_put : (give : NodeRow → Option NodeRow) (nodes : List NodeRow) (s : State) → apply_changes (puts_of PutNode give nodes) s ≡ record s { nodes = put_each same_node give nodes s.nodes }
nodes_put give [] s = refl
nodes_put give (node ∷ nodes) s = nodes_cons give (give node) nodes s (nodes_put give nodes)

tasks_cons : (give : TaskRow → Option TaskRow) (o : Option TaskRow) (rest : List TaskRow) (s : State) → ((t : State) → apply_changes (puts_of PutTask give rest) t ≡ record t { tasks = put_each same_task give rest t.tasks }) → apply_changes (put_if_some PutTask o ++ puts_of PutTask give rest) s ≡ record s { tasks = put_each same_task give rest (put_row_if_some same_task o s.tasks) }
tasks_cons give None rest s ih = ih s
tasks_cons give (Some row) rest s ih = ih (apply_change (PutTask row) s)

pub tasks_put : (give : TaskRow → Option TaskRow) (tasks : List TaskRow) (s : State) → apply_changes (puts_of PutTask give tasks) s ≡ record s { tasks = put_each same_task give tasks s.tasks }
tasks_put give [] s = refl
tasks_put give (task ∷ tasks) s = tasks_cons give (give task) tasks s (tasks_put give tasks)

runs_cons : (give : RunRow → Option RunRow) (o : Option RunRow) (rest : List RunRow) (s : State) → ((t : State) → apply_changes (puts_of PutRun give rest) t ≡ record t { runs = put_each same_run give rest t.runs }) → apply_changes (put_if_some PutRun o ++ puts_of PutRun give rest) s ≡ record s { runs = put_each same_run give rest (put_row_if_some same_run o s.runs) }
runs_cons give None rest s ih = ih s
runs_cons give (Some row) rest s ih = ih (apply_change (PutRun row) s)

pub runs_put : (give : RunRow → Option RunRow) (runs : List RunRow) (s : State) → apply_changes (puts_of PutRun give runs) s ≡ record s { runs = put_each same_run give runs s.runs }
runs_put give [] s = refl
runs_put give (run ∷ runs) s = runs_cons give (give run) runs s (runs_put give runs)

-- drops

jobs_drop_cons : (test : JobRow → Bool) (job : JobRow) (rest : List JobRow) (b : Bool) (s : State)
    → ((t : State) → apply_changes (changes_where job_drop test rest) t ≡ record t { jobs = drop_where same_job test rest t.jobs })
    → apply_changes (put_if_some job_drop (only_if b (Some job)) ++ changes_where job_drop test rest) s
    ≡ record s { jobs = drop_where same_job test rest (cond b (drop_row (λ y. same_job y job) s.jobs) s.jobs) }
jobs_drop_cons test job rest true s ih = ih (apply_change (job_drop job) s)
jobs_drop_cons test job rest false s ih = ih s

jobs_drop : (test : JobRow → Bool) (jobs : List JobRow) (s : State)
    → apply_changes (changes_where job_drop test jobs) s ≡ record s { jobs = drop_where same_job test jobs s.jobs }
jobs_drop test [] s = refl
jobs_drop test (job ∷ jobs) s = jobs_drop_cons test job jobs (test job) s (jobs_drop test jobs)

tasks_drop_cons : (test : TaskRow → Bool) (task : TaskRow) (rest : List TaskRow) (b : Bool) (s : State)
    → ((t : State) → apply_changes (changes_where task_drop test rest) t ≡ record t { tasks = drop_where same_task test rest t.tasks })
    → apply_changes (put_if_some task_drop (only_if b (Some task)) ++ changes_where task_drop test rest) s
    ≡ record s { tasks = drop_where same_task test rest (cond b (drop_row (λ y. same_task y task) s.tasks) s.tasks) }
tasks_drop_cons test task rest true s ih = ih (apply_change (task_drop task) s)
tasks_drop_cons test task rest false s ih = ih s

tasks_drop : (test : TaskRow → Bool) (tasks : List TaskRow) (s : State)
    → apply_changes (changes_where task_drop test tasks) s ≡ record s { tasks = drop_where same_task test tasks s.tasks }
tasks_drop test [] s = refl
tasks_drop test (task ∷ tasks) s = tasks_drop_cons test task tasks (test task) s (tasks_drop test tasks)

runs_drop_cons : (test : RunRow → Bool) (run : RunRow) (rest : List RunRow) (b : Bool) (s : State)
    → ((t : State) → apply_changes (changes_where run_drop test rest) t ≡ record t { runs = drop_where same_run test rest t.runs })
    → apply_changes (put_if_some run_drop (only_if b (Some run)) ++ changes_where run_drop test rest) s
    ≡ record s { runs = drop_where same_run test rest (cond b (drop_row (λ y. same_run y run) s.runs) s.runs) }
runs_drop_cons test run rest true s ih = ih (apply_change (run_drop run) s)
runs_drop_cons test run rest false s ih = ih s

runs_drop : (test : RunRow → Bool) (runs : List RunRow) (s : State)
    → apply_changes (changes_where run_drop test runs) s ≡ record s { runs = drop_where same_run test runs s.runs }
runs_drop test [] s = refl
runs_drop test (run ∷ runs) s = runs_drop_cons test run runs (test run) s (runs_drop test runs)

preps_drop_cons : (test : PrepRow → Bool) (prep : PrepRow) (rest : List PrepRow) (b : Bool) (s : State)
    → ((t : State) → apply_changes (changes_where prep_drop test rest) t ≡ record t { preps = drop_where same_prep test rest t.preps })
    → apply_changes (put_if_some prep_drop (only_if b (Some prep)) ++ changes_where prep_drop test rest) s
    ≡ record s { preps = drop_where same_prep test rest (cond b (drop_row (λ y. same_prep y prep) s.preps) s.preps) }
preps_drop_cons test prep rest true s ih = ih (apply_change (prep_drop prep) s)
preps_drop_cons test prep rest false s ih = ih s

preps_drop : (test : PrepRow → Bool) (preps : List PrepRow) (s : State)
    → apply_changes (changes_where prep_drop test preps) s ≡ record s { preps = drop_where same_prep test preps s.preps }
preps_drop test [] s = refl
preps_drop test (prep ∷ preps) s = preps_drop_cons test prep preps (test prep) s (preps_drop test preps)

-- the rows of a list that pass a test are dropped, if no two of the list have the same key

pub jobs_dropped : (test : JobRow → Bool) (s : State) → AreDistinct same_job s.jobs
    → apply_changes (changes_where job_drop test s.jobs) s ≡ record s { jobs = filter (λ job. not (test job)) s.jobs }
jobs_dropped test s d =
    jobs_drop test s.jobs s ∙ ap (λ jobs. record s { jobs = jobs }) (drop_where_filters same_job same_job_equiv test s.jobs d)

pub tasks_dropped : (test : TaskRow → Bool) (s : State) → AreDistinct same_task s.tasks
    → apply_changes (changes_where task_drop test s.tasks) s ≡ record s { tasks = filter (λ task. not (test task)) s.tasks }
tasks_dropped test s d =
    tasks_drop test s.tasks s ∙ ap (λ tasks. record s { tasks = tasks }) (drop_where_filters same_task same_task_equiv test s.tasks d)

pub runs_dropped : (test : RunRow → Bool) (s : State) → AreDistinct same_run s.runs
    → apply_changes (changes_where run_drop test s.runs) s ≡ record s { runs = filter (λ run. not (test run)) s.runs }
runs_dropped test s d =
    runs_drop test s.runs s ∙ ap (λ runs. record s { runs = runs }) (drop_where_filters same_run same_run_equiv test s.runs d)

pub preps_dropped : (test : PrepRow → Bool) (s : State) → AreDistinct same_prep s.preps
    → apply_changes (changes_where prep_drop test s.preps) s ≡ record s { preps = filter (λ prep. not (test prep)) s.preps }
preps_dropped test s d =
    preps_drop test s.preps s ∙ ap (λ preps. record s { preps = preps }) (drop_where_filters same_prep same_prep_equiv test s.preps d)
