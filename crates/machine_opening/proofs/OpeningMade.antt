-- The puts and drops of the opening lead to opened tables.
use Rattle.std.proofs.Common.{◌≡◌, ℕ, Bool, true, false, not, ◌&&◌, nat_eq, List, [], ◌∷◌, ◌++◌, Option, Some, None, is_some, is_none, cond, map, unwrap_or, refl, sym, ◌∙◌, ap, subst}
use Rattle.std.specs.Cmp.{nat_eq_equiv}
use Rattle.std.proofs.lemmas.Bool.Decides.{Decides-eqb}
use Rattle.bt_rows.specs.Changes.{apply_change, apply_changes}
use Rattle.bt_rows.specs.Keys.{same_pool, same_pool_equiv, same_task, same_task_equiv, same_run, same_run_equiv, node_has_number, prep_has_key, same_prep_equiv}
use Rattle.bt_rows.specs.declared.tables.Change.{Change}
use Rattle.bt_rows.specs.declared.tables.Change.TheVariants.{PutPool, PutTask, PutRun}
use Rattle.batch_model.specs.Finding.{only_if, change_where}
use Rattle.batch_model.specs.Runs.{is_unended}
use Rattle.batch_model.specs.Tasks.{is_placed, is_undisturbed, main_ending}
use Rattle.batch_model.specs.Pools.{is_resizing, is_stopping}
use Rattle.batch_model.specs.Opening.{opening, is_refilled, refilled, is_emptied, emptied, is_cut_short, requeued, withdrawn}
use Rattle.batch_model.specs.WellFormed.{KeysAreDistinct}
use Rattle.batch_model.specs.Variants.{State, PoolRow, Alloc, Steady, Resizing, Stopping, ResizeError, NodeRow, TaskRow, Want, RunRow, RunState, PrepRow}
use Rattle.model_lists.proofs.Tests.{and_first, and_second}
use Rattle.row_changes.specs.Puts.{puts_of}
use Rattle.row_changes.specs.Puts.{prep_drop, key_of_prep}
use Rattle.machine_opening.specs.Openings.{is_fresh, opened_pool, opened_task, opened_run, pool_puts, task_puts, run_puts, node_drops, drop_of_node, prep_drops, with_opening}
use Rattle.row_changes.proofs.PutsInPlace.{put_in_place, put_is_change_where, drop_each, drop_all}
use Rattle.row_changes.proofs.ListPuts.{apply_append, pools_put, tasks_put, runs_put}

-- pools

-- a pool that resizes from now already
is_resizing_alone : (alloc : Alloc) → is_resizing alloc ≡ true → Resizing ≡ alloc
is_resizing_alone Steady h = cc
is_resizing_alone Resizing h = refl
is_resizing_alone Stopping h = cc

is_none_alone : {A : Type 0} (o : Option A) → is_none o ≡ true → None ≡ o
is_none_alone None h = refl
is_none_alone (Some x) h = cc

-- a pool with four of its own values
same_values : (pool : PoolRow) (alloc : Alloc) (began timeout : ℕ) (error : Option ResizeError) → alloc ≡ pool.alloc → began ≡ pool.began → timeout ≡ pool.timeout → error ≡ pool.error → record pool { alloc = alloc; began = began; timeout = timeout; error = error } ≡ pool
same_values pool alloc began timeout error a b t e = rw (a, b, t, e) refl

-- the refill changes nothing of a pool that resizes from now already
fresh_stays : (now : ℕ) (pool : PoolRow) → is_fresh now pool ≡ true → refilled now pool ≡ pool
fresh_stays now pool h =
    let three = and_first (is_resizing pool.alloc && nat_eq pool.began now && nat_eq pool.timeout pool.usual_timeout) (is_none pool.error) h in
    let two = and_first (is_resizing pool.alloc && nat_eq pool.began now) (nat_eq pool.timeout pool.usual_timeout) three in
    same_values pool Resizing now pool.usual_timeout None
    (is_resizing_alone pool.alloc (and_first (is_resizing pool.alloc) (nat_eq pool.began now) two))
    (sym ((Decides-eqb pool.began now).0 (and_second (is_resizing pool.alloc) (nat_eq pool.began now) two)))
    (sym ((Decides-eqb pool.timeout pool.usual_timeout).0 (and_second (is_resizing pool.alloc && nat_eq pool.began now) (nat_eq pool.timeout pool.usual_timeout) three)))
    (is_none_alone pool.error (and_second (is_resizing pool.alloc && nat_eq pool.began now && nat_eq pool.timeout pool.usual_timeout) (is_none pool.error) h))

-- the pool that a put has keeps its id; r, f and z are the tests of the opening
id_kept : (now : ℕ) (pool row : PoolRow) (r f z : Bool) → cond r (only_if (not f) (Some (refilled now pool))) (only_if z (Some (emptied pool))) ≡ Some row → row.id ≡ pool.id
id_kept now pool row true true z h = cc
id_kept now pool row true false z h = let i : refilled now pool ≡ row = cc in ap (λ (other : PoolRow). other.id) (sym i)
id_kept now pool row false f true h = let i : emptied pool ≡ row = cc in ap (λ (other : PoolRow). other.id) (sym i)
id_kept now pool row false f false h = cc

pool_key_kept : (now : ℕ) (pool row : PoolRow) → opened_pool now pool ≡ Some row → (other : PoolRow) → same_pool other row ≡ same_pool other pool
pool_key_kept now pool row h other =
    rw (id_kept now pool row (is_refilled pool) (is_fresh now pool) (is_emptied pool) h) refl

-- the opening of one pool
abbrev opened : ℕ → PoolRow → PoolRow
opened now pool =
    cond (is_emptied (cond (is_refilled pool) (refilled now pool) pool)) (emptied (cond (is_refilled pool) (refilled now pool) pool)) (cond (is_refilled pool) (refilled now pool) pool)

opened_by : (now : ℕ) (pool : PoolRow) (r f z : Bool) → is_fresh now pool ≡ f → is_emptied pool ≡ z → unwrap_or (cond r (only_if (not f) (Some (refilled now pool))) (only_if z (Some (emptied pool)))) pool ≡ cond (is_emptied (cond r (refilled now pool) pool)) (emptied (cond r (refilled now pool) pool)) (cond r (refilled now pool) pool)
opened_by now pool true true z i e = sym (fresh_stays now pool i)
opened_by now pool true false z i e = refl
opened_by now pool false f true i e = rw e refl
opened_by now pool false f false i e = rw e refl

pools_opened : (now : ℕ) (pools : List PoolRow) → map (λ pool. unwrap_or (opened_pool now pool) pool) pools ≡ change_where is_emptied emptied (change_where is_refilled (refilled now) pools)
pools_opened now [] = refl
pools_opened now (pool ∷ pools) =
    rw (opened_by now pool (is_refilled pool) (is_fresh now pool) (is_emptied pool) refl refl, pools_opened now pools) refl

-- rows that the opening leaves as they are give no puts

puts_none : {R : Type 0} (put : R → Change) (give : R → Option R) (f : R → R) → ((x : R) → f x ≡ x → give x ≡ None) → (xs : List R) → map f xs ≡ xs → puts_of put give xs ≡ []
puts_none put give f none [] same = refl
puts_none put give f none (x ∷ xs) same =
    let first : f x ≡ x = cc in
    let others : map f xs ≡ xs = cc in
    rw (none x first, puts_none put give f none xs others) refl

-- a pool that the refill leaves as it is
fresh_if_same : (now : ℕ) (pool : PoolRow) → refilled now pool ≡ pool → is_fresh now pool ≡ true
fresh_if_same now pool same =
    subst (λ other. is_fresh now other ≡ true) same
    (rw (nat_eq_equiv.refl now, nat_eq_equiv.refl pool.usual_timeout) refl)

-- a stopping pool is not steady
stopping_alone : (alloc : Alloc) → Steady ≡ alloc → is_stopping alloc ≡ false
stopping_alone alloc e = subst (λ other. is_stopping other ≡ false) e refl

unchanged_by : (now : ℕ) (pool : PoolRow) (r f z : Bool) → is_fresh now pool ≡ f → is_emptied pool ≡ z → unwrap_or (cond r (only_if (not f) (Some (refilled now pool))) (only_if z (Some (emptied pool)))) pool ≡ pool → cond r (only_if (not f) (Some (refilled now pool))) (only_if z (Some (emptied pool))) ≡ None
unchanged_by now pool true true z i e same = refl
unchanged_by now pool true false z i e same = let fresh : is_fresh now pool ≡ true = fresh_if_same now pool same in cc
unchanged_by now pool false f true i e same =
    let off : is_stopping pool.alloc ≡ false = stopping_alone pool.alloc (ap (λ (other : PoolRow). other.alloc) same) in
    let on : is_stopping pool.alloc ≡ true = and_first (is_stopping pool.alloc) (nat_eq pool.dedicated 0) e in
    cc
unchanged_by now pool false f false i e same = refl

unchanged_pool : (now : ℕ) (pool : PoolRow) → unwrap_or (opened_pool now pool) pool ≡ pool → opened_pool now pool ≡ None
unchanged_pool now pool same = unchanged_by now pool (is_refilled pool) (is_fresh now pool) (is_emptied pool) refl refl same

-- a task that is cut short has no wanted end
unchanged_task_by : (s : State) (task : TaskRow) (b : Bool) → is_cut_short s task ≡ b → cond b (requeued task) task ≡ task → only_if b (Some (requeued task)) ≡ None
unchanged_task_by s task true i same =
    let wants : is_none task.wanted ≡ false = subst (λ (wanted : Option Want). is_none wanted ≡ false) (ap (λ (other : TaskRow). other.wanted) same) refl in
    let none : is_none task.wanted ≡ true =
    and_first (is_none task.wanted) (is_none task.fail)
    (and_second (is_placed task.stage) (is_undisturbed task) (and_first (is_placed task.stage && is_undisturbed task) (not (is_some (main_ending s task))) i)) in
    cc
unchanged_task_by s task false i same = refl

unchanged_task : (s : State) (task : TaskRow) → cond (is_cut_short s task) (requeued task) task ≡ task → opened_task s task ≡ None
unchanged_task s task same = unchanged_task_by s task (is_cut_short s task) refl same

-- an unended run is not withdrawn
unchanged_run_by : (now : ℕ) (run : RunRow) (b : Bool) → is_unended run.state ≡ b → cond b (withdrawn now run) run ≡ run → only_if b (Some (withdrawn now run)) ≡ None
unchanged_run_by now run true i same =
    let over : is_unended run.state ≡ false = subst (λ (state : RunState). is_unended state ≡ false) (ap (λ (other : RunRow). other.state) same) refl in
    cc
unchanged_run_by now run false i same = refl

unchanged_run : (now : ℕ) (run : RunRow) → cond (is_unended run.state) (withdrawn now run) run ≡ run → opened_run now run ≡ None
unchanged_run now run same = unchanged_run_by now run (is_unended run.state) refl same

-- drops change one list of the tables

nodes_dropped : (nodes : List NodeRow) (s : State) → apply_changes (map drop_of_node nodes) s ≡ record s { nodes = drop_each (λ node. node_has_number node.number) nodes s.nodes }
nodes_dropped [] s = refl
nodes_dropped (node ∷ nodes) s = nodes_dropped nodes (apply_change (drop_of_node node) s)

preps_dropped : (preps : List PrepRow) (s : State) → apply_changes (map prep_drop preps) s ≡ record s { preps = drop_each (λ prep. prep_has_key (key_of_prep prep)) preps s.preps }
preps_dropped [] s = refl
preps_dropped (prep ∷ preps) s = preps_dropped preps (apply_change (prep_drop prep) s)

module _ (s : State) (keys : KeysAreDistinct s) where
  -- the tables with so many lists opened

  abbrev with_pools : State
  with_pools = record s { pools = (opening s).pools }

  abbrev with_tasks : State
  with_tasks = record with_pools { tasks = (opening s).tasks }

  abbrev with_runs : State
  with_runs = record with_tasks { runs = (opening s).runs }

  abbrev with_nodes : State
  with_nodes = record with_runs { nodes = [] }

  pools_open : apply_changes (pool_puts s) s ≡ with_pools
  pools_open =
      pools_put (opened_pool s.moment) s.pools s
      ∙ ap (λ pools. record s { pools = pools })
      (put_in_place same_pool same_pool_equiv (opened_pool s.moment) (pool_key_kept s.moment) s.pools keys.pools ∙ pools_opened s.moment s.pools)

  tasks_open : apply_changes (task_puts s) with_pools ≡ with_tasks
  tasks_open =
      tasks_put (opened_task s) s.tasks with_pools
      ∙ ap (λ tasks. record with_pools { tasks = tasks })
      (put_is_change_where same_task same_task_equiv (is_cut_short s) requeued (λ task other. refl) s.tasks keys.tasks)

  runs_open : apply_changes (run_puts s) with_tasks ≡ with_runs
  runs_open =
      runs_put (opened_run s.moment) s.runs with_tasks
      ∙ ap (λ runs. record with_tasks { runs = runs })
      (put_is_change_where same_run same_run_equiv (λ (run : RunRow). is_unended run.state) (withdrawn s.moment) (λ run other. refl) s.runs keys.runs)

  nodes_open : apply_changes (node_drops s) with_runs ≡ with_nodes
  nodes_open =
      nodes_dropped s.nodes with_runs
      ∙ ap (λ nodes. record with_runs { nodes = nodes })
      (drop_all (λ (node : NodeRow). node_has_number node.number) (λ node. nat_eq_equiv.refl node.number) s.nodes)

  preps_open : apply_changes (prep_drops s) with_nodes ≡ opening s
  preps_open =
      preps_dropped s.preps with_nodes
      ∙ ap (λ preps. record with_nodes { preps = preps })
      (drop_all (λ (prep : PrepRow). prep_has_key (key_of_prep prep)) same_prep_equiv.refl s.preps)

  -- the changes of the opening lead to opened tables
  pub opening_made : apply_changes (with_opening s []) s ≡ opening s
  opening_made =
      apply_append (pool_puts s ++ task_puts s ++ run_puts s ++ node_drops s) (prep_drops s) s
      ∙ ap (apply_changes (prep_drops s))
      (apply_append (pool_puts s ++ task_puts s ++ run_puts s) (node_drops s) s
      ∙ ap (apply_changes (node_drops s))
      (apply_append (pool_puts s ++ task_puts s) (run_puts s) s
      ∙ ap (apply_changes (run_puts s))
      (apply_append (pool_puts s) (task_puts s) s
      ∙ ap (apply_changes (task_puts s)) pools_open
      ∙ tasks_open)
      ∙ runs_open)
      ∙ nodes_open)
      ∙ preps_open

  -- if the opening leaves the tables as they are, no change is made

  no_pool_puts : opening s ≡ s → pool_puts s ≡ []
  no_pool_puts same =
      puts_none PutPool (opened_pool s.moment) (λ pool. unwrap_or (opened_pool s.moment pool) pool) (unchanged_pool s.moment) s.pools
      (pools_opened s.moment s.pools ∙ ap (λ (t : State). t.pools) same)

  no_task_puts : opening s ≡ s → task_puts s ≡ []
  no_task_puts same =
      puts_none PutTask (opened_task s) (λ task. cond (is_cut_short s task) (requeued task) task) (unchanged_task s) s.tasks
      (ap (λ (t : State). t.tasks) same)

  no_run_puts : opening s ≡ s → run_puts s ≡ []
  no_run_puts same =
      puts_none PutRun (opened_run s.moment) (λ run. cond (is_unended run.state) (withdrawn s.moment run) run) (unchanged_run s.moment) s.runs
      (ap (λ (t : State). t.runs) same)

  no_node_drops : opening s ≡ s → node_drops s ≡ []
  no_node_drops same = ap (map drop_of_node) (sym (ap (λ (t : State). t.nodes) same))

  no_prep_drops : opening s ≡ s → prep_drops s ≡ []
  no_prep_drops same = ap (map prep_drop) (sym (ap (λ (t : State). t.preps) same))

  pub opening_none : opening s ≡ s → with_opening s [] ≡ []
  opening_none same =
      rw (no_pool_puts same, no_task_puts same, no_run_puts same, no_node_drops same, no_prep_drops same) refl
