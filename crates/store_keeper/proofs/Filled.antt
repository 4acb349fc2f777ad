-- Tables that are filled with the rows of a store are its content exactly if there are as many rows as entries.
use Rattle.std.proofs.Common.{◌≡◌, ℕ, Bool, true, false, ◌&&◌, List, [], ◌∷◌, length, map, nat_eq, Option, Some, None, is_some, Result}
use Rattle.std.proofs.Common.{refl, sym, ap, subst, ◌∙◌, arith, eq-eqb, eqb-true}
use Rattle.std.proofs.lemmas.Bool.{and_parts, and_from}
use Rattle.serde_json.specs.Data.{Data}
use Rattle.row_fields.specs.declared.fault.RowFault.{RowFault}
use Rattle.bt_rows.specs.Lists.{AreDistinct}
use Rattle.bt_rows.specs.State.{State, empty_state}
use Rattle.bt_rows.specs.Changes.{apply_changes}
use Rattle.bt_rows.specs.Keys.{same_pool, same_node, same_job, same_task, same_run, same_prep, same_sample, same_scale}
use Rattle.bt_rows.specs.declared.pool.PoolRow.{PoolRow}
use Rattle.bt_rows.specs.declared.node.NodeRow.{NodeRow}
use Rattle.bt_rows.specs.declared.job.JobRow.{JobRow}
use Rattle.bt_rows.specs.declared.task.TaskRow.{TaskRow}
use Rattle.bt_rows.specs.declared.run.RunRow.{RunRow}
use Rattle.bt_rows.specs.declared.prep.PrepRow.{PrepRow}
use Rattle.bt_rows.specs.declared.sample.SampleRow.{SampleRow}
use Rattle.bt_rows.specs.declared.scale.ScaleRow.{ScaleRow}
use Rattle.bt_rows.specs.declared.tables.Change.TheVariants.{PutPool, PutNode, PutJob, PutTask, PutRun, PutPrep, PutSample, PutScale}
use Rattle.batch_model.specs.WellFormed.{IsWellFormed}
use Rattle.keeper_store.specs.declared.entries.Entry.{Entry}
use Rattle.keeper_store.specs.declared.content.Stored.{Stored}
use Rattle.store_keeper.specs.Reading.{rows_in, number_or, has_known_version, state_in}
use Rattle.store_keeper.specs.Reading.{pools_in, nodes_in, jobs_in, tasks_in, runs_in, preps_in, samples_in, scales_in}
use Rattle.store_keeper.specs.Keys.{pool_key, node_key, job_key, task_key, run_key, prep_key, sample_key, scale_key}
use Rattle.store_keeper.specs.Keys.{pool_keyed, node_keyed, job_keyed, task_keyed, run_keyed, prep_keyed, sample_keyed, scale_keyed}
use Rattle.row_texts.specs.Pools.{pool_in}
use Rattle.row_texts.specs.Nodes.{node_in}
use Rattle.row_texts.specs.Jobs.{job_in}
use Rattle.row_texts.specs.Tasks.{task_in}
use Rattle.row_texts.specs.Runs.{run_in}
use Rattle.row_texts.specs.Preps.{prep_in}
use Rattle.row_texts.specs.Samples.{sample_in}
use Rattle.row_texts.specs.Scales.{scale_in}
use Rattle.store_keeper.specs.Filling.{with_rows, filled, numbered, are_rows, has_all}
use Rattle.store_keeper.specs.Found.{IsContentOf}
use Rattle.store_keeper.proofs.EntryRows.{part}
use Rattle.store_keeper.proofs.PutAll.{put_all, all_last, all_new}
use Rattle.store_keeper.proofs.Readings.{reading_of, state_from}

-- the rows, if they were read
abbrev listed : {R : Type 0} → Option (List R) → List R
listed None = []
listed (Some rows) = rows

-- ---- puts of the rows of a kind change its list alone

pools_put : (rows : List PoolRow) (s : State) → apply_changes (map PutPool rows) s ≡ record s { pools = put_all same_pool rows s.pools }
pools_put [] s = refl
pools_put (row ∷ rows) s = pools_put rows _

nodes_put : (rows : List NodeRow) (s : State) → apply_changes (map PutNode rows) s ≡ record s { nodes = put_all same_node rows s.nodes }
nodes_put [] s = refl
nodes_put (row ∷ rows) s = nodes_put rows _

jobs_put : (rows : List JobRow) (s : State) → apply_changes (map PutJob rows) s ≡ record s { jobs = put_all same_job rows s.jobs }
jobs_put [] s = refl
jobs_put (row ∷ rows) s = jobs_put rows _

tasks_put : (rows : List TaskRow) (s : State) → apply_changes (map PutTask rows) s ≡ record s { tasks = put_all same_task rows s.tasks }
tasks_put [] s = refl
tasks_put (row ∷ rows) s = tasks_put rows _

runs_put : (rows : List RunRow) (s : State) → apply_changes (map PutRun rows) s ≡ record s { runs = put_all same_run rows s.runs }
runs_put [] s = refl
runs_put (row ∷ rows) s = runs_put rows _

preps_put : (rows : List PrepRow) (s : State) → apply_changes (map PutPrep rows) s ≡ record s { preps = put_all same_prep rows s.preps }
preps_put [] s = refl
preps_put (row ∷ rows) s = preps_put rows _

samples_put : (rows : List SampleRow) (s : State) → apply_changes (map PutSample rows) s ≡ record s { samples = put_all same_sample rows s.samples }
samples_put [] s = refl
samples_put (row ∷ rows) s = samples_put rows _

scales_put : (rows : List ScaleRow) (s : State) → apply_changes (map PutScale rows) s ≡ record s { scales = put_all same_scale rows s.scales }
scales_put [] s = refl
scales_put (row ∷ rows) s = scales_put rows _

-- ---- the rows that were read, or none, are put

pools_filled : (read : Option (List PoolRow)) (s : State) → with_rows PutPool read s ≡ record s { pools = put_all same_pool (listed read) s.pools }
pools_filled None s = refl
pools_filled (Some rows) s = pools_put rows s

nodes_filled : (read : Option (List NodeRow)) (s : State) → with_rows PutNode read s ≡ record s { nodes = put_all same_node (listed read) s.nodes }
nodes_filled None s = refl
nodes_filled (Some rows) s = nodes_put rows s

jobs_filled : (read : Option (List JobRow)) (s : State) → with_rows PutJob read s ≡ record s { jobs = put_all same_job (listed read) s.jobs }
jobs_filled None s = refl
jobs_filled (Some rows) s = jobs_put rows s

tasks_filled : (read : Option (List TaskRow)) (s : State) → with_rows PutTask read s ≡ record s { tasks = put_all same_task (listed read) s.tasks }
tasks_filled None s = refl
tasks_filled (Some rows) s = tasks_put rows s

runs_filled : (read : Option (List RunRow)) (s : State) → with_rows PutRun read s ≡ record s { runs = put_all same_run (listed read) s.runs }
runs_filled None s = refl
runs_filled (Some rows) s = runs_put rows s

preps_filled : (read : Option (List PrepRow)) (s : State) → with_rows PutPrep read s ≡ record s { preps = put_all same_prep (listed read) s.preps }
preps_filled None s = refl
preps_filled (Some rows) s = preps_put rows s

samples_filled : (read : Option (List SampleRow)) (s : State) → with_rows PutSample read s ≡ record s { samples = put_all same_sample (listed read) s.samples }
samples_filled None s = refl
samples_filled (Some rows) s = samples_put rows s

scales_filled : (read : Option (List ScaleRow)) (s : State) → with_rows PutScale read s ≡ record s { scales = put_all same_scale (listed read) s.scales }
scales_filled None s = refl
scales_filled (Some rows) s = scales_put rows s

-- what each list becomes
abbrev pools_of : Stored → List PoolRow
pools_of stored = put_all same_pool (listed (pools_in stored.pools)) []

abbrev nodes_of : Stored → List NodeRow
nodes_of stored = put_all same_node (listed (nodes_in stored.nodes)) []

abbrev jobs_of : Stored → List JobRow
jobs_of stored = put_all same_job (listed (jobs_in stored.jobs)) []

abbrev tasks_of : Stored → List TaskRow
tasks_of stored = put_all same_task (listed (tasks_in stored.tasks)) []

abbrev runs_of : Stored → List RunRow
runs_of stored = put_all same_run (listed (runs_in stored.runs)) []

abbrev preps_of : Stored → List PrepRow
preps_of stored = put_all same_prep (listed (preps_in stored.preps)) []

abbrev samples_of : Stored → List SampleRow
samples_of stored = put_all same_sample (listed (samples_in stored.samples)) []

abbrev scales_of : Stored → List ScaleRow
scales_of stored = put_all same_scale (listed (scales_in stored.scales)) []

-- the tables that the entries fill
abbrev pub filling : Stored → State
filling stored = record {
  pools = pools_of stored;
  nodes = nodes_of stored;
  jobs = jobs_of stored;
  tasks = tasks_of stored;
  runs = runs_of stored;
  preps = preps_of stored;
  samples = samples_of stored;
  scales = scales_of stored;
  next_node = number_or 1 stored.metas.next_node;
  next_run = number_or 1 stored.metas.next_run;
  moment = number_or 0 stored.metas.moment;
}

pub filled_is : (stored : Stored) → numbered stored.metas (filled stored empty_state) ≡ filling stored
filled_is stored =
    let one = record empty_state { pools = pools_of stored } in
    let two = record one { nodes = nodes_of stored } in
    let three = record two { jobs = jobs_of stored } in
    let four = record three { tasks = tasks_of stored } in
    let five = record four { runs = runs_of stored } in
    let six = record five { preps = preps_of stored } in
    let seven = record six { samples = samples_of stored } in
    rw (
      pools_filled (pools_in stored.pools) empty_state,
      nodes_filled (nodes_in stored.nodes) one,
      jobs_filled (jobs_in stored.jobs) two,
      tasks_filled (tasks_in stored.tasks) three,
      runs_filled (runs_in stored.runs) four,
      preps_filled (preps_in stored.preps) five,
      samples_filled (samples_in stored.samples) six,
      scales_filled (scales_in stored.scales) seven,
    )
    refl

-- ---- one list

module _ {R : Type 0} (key_of : R → List ℕ) (keyed : R → Bool) (in_data : Data → Result R RowFault) where
  rows_length : (entries : List Entry) (rows : List R) → rows_in key_of keyed in_data entries ≡ Some rows → length rows ≡ length entries
  rows_length [] rows h = let none : rows ≡ [] = cc in ap length none
  rows_length (entry ∷ entries) rows h =
      let p = part key_of keyed in_data entry entries rows h in
      let rest : length p.rest ≡ length entries = rows_length entries p.rest p.rest_in in
      rw p.is (omega (arith, rest))

  module _ (same : R → R → Bool) where
    whole_case : (entries : List Entry) (read : Option (List R)) → rows_in key_of keyed in_data entries ≡ read → is_some read ≡ true
        → nat_eq (length (put_all same (listed read) [])) (length entries) ≡ true → rows_in key_of keyed in_data entries ≡ Some (put_all same (listed read) [])
    whole_case entries None h s n = absurd (cc)
    whole_case entries (Some rows) h s n =
        let counted : length rows ≡ length entries = rows_length entries rows h in
        let as_many : length (put_all same rows []) ≡ length entries = eqb-true (length (put_all same rows [])) (length entries) n in
        let last : put_all same rows [] ≡ rows = all_last same rows [] (omega (arith, counted, as_many)) in
        h ∙ ap (λ (r : List R). Some r) (sym last)

    -- if there are as many rows as entries, these are the rows
    list_whole : (entries : List Entry) → is_some (rows_in key_of keyed in_data entries) ≡ true
        → nat_eq (length (put_all same (listed (rows_in key_of keyed in_data entries)) [])) (length entries) ≡ true
        → rows_in key_of keyed in_data entries ≡ Some (put_all same (listed (rows_in key_of keyed in_data entries)) [])
    list_whole entries s n = whole_case entries (rows_in key_of keyed in_data entries) refl s n

    -- entries that are rows with keys of their own
    record AreOwn (entries : List Entry) (rows : List R) : Type 0 where
      pub there : is_some (rows_in key_of keyed in_data entries) ≡ true
      pub is : put_all same (listed (rows_in key_of keyed in_data entries)) [] ≡ rows
      pub counted : nat_eq (length rows) (length entries) ≡ true

    list_own : (entries : List Entry) (rows : List R) → rows_in key_of keyed in_data entries ≡ Some rows → AreDistinct same rows → AreOwn entries rows
    list_own entries rows h d = record {
      there = rw h refl;
      is = rw h (all_new same rows [] d);
      counted = eq-eqb (length rows) (length entries) (rows_length entries rows h);
    }

-- ---- all lists

record Eight (a b c d e f g h : Bool) : Type 0 where
  pub pools : a ≡ true
  pub nodes : b ≡ true
  pub jobs : c ≡ true
  pub tasks : d ≡ true
  pub runs : e ≡ true
  pub preps : f ≡ true
  pub samples : g ≡ true
  pub scales : h ≡ true

eight_of : (a b c d e f g h : Bool) → (((a && b) && (c && d)) && ((e && f) && (g && h))) ≡ true → Eight a b c d e f g h
eight_of a b c d e f g h all =
    let halves = and_parts ((a && b) && (c && d)) ((e && f) && (g && h)) all in
    let first = and_parts (a && b) (c && d) halves.0 in
    let second = and_parts (e && f) (g && h) halves.1 in
    let ab = and_parts a b first.0 in
    let cd = and_parts c d first.1 in
    let ef = and_parts e f second.0 in
    let gh = and_parts g h second.1 in
    record { pools = ab.0; nodes = ab.1; jobs = cd.0; tasks = cd.1; runs = ef.0; preps = ef.1; samples = gh.0; scales = gh.1 }

of_eight : (a b c d e f g h : Bool) → Eight a b c d e f g h → (((a && b) && (c && d)) && ((e && f) && (g && h))) ≡ true
of_eight a b c d e f g h all = rw (all.pools, all.nodes, all.jobs, all.tasks, all.runs, all.preps, all.samples, all.scales) refl

rows_of_all : (stored : Stored) → are_rows stored ≡ true
    → Eight (is_some (pools_in stored.pools)) (is_some (nodes_in stored.nodes)) (is_some (jobs_in stored.jobs)) (is_some (tasks_in stored.tasks))
    (is_some (runs_in stored.runs)) (is_some (preps_in stored.preps)) (is_some (samples_in stored.samples)) (is_some (scales_in stored.scales))
rows_of_all stored h = eight_of _ _ _ _ _ _ _ _ h

counts_of_all : (s : State) (stored : Stored) → has_all s stored ≡ true
    → Eight (nat_eq (length s.pools) (length stored.pools)) (nat_eq (length s.nodes) (length stored.nodes))
    (nat_eq (length s.jobs) (length stored.jobs)) (nat_eq (length s.tasks) (length stored.tasks))
    (nat_eq (length s.runs) (length stored.runs)) (nat_eq (length s.preps) (length stored.preps))
    (nat_eq (length s.samples) (length stored.samples)) (nat_eq (length s.scales) (length stored.scales))
counts_of_all s stored h = eight_of _ _ _ _ _ _ _ _ h

-- if each entry is a row and there are as many rows as entries, the content is the tables that the entries fill
pub content_is : (stored : Stored) → has_known_version stored.metas ≡ true → are_rows stored ≡ true → has_all (filling stored) stored ≡ true
    → state_in stored ≡ Some (filling stored)
content_is stored version rows all =
    let r = rows_of_all stored rows in
    let n = counts_of_all (filling stored) stored all in
    state_from stored (filling stored) (record {
      version = version;
      pools = list_whole pool_key pool_keyed pool_in same_pool stored.pools r.pools n.pools;
      nodes = list_whole node_key node_keyed node_in same_node stored.nodes r.nodes n.nodes;
      jobs = list_whole job_key job_keyed job_in same_job stored.jobs r.jobs n.jobs;
      tasks = list_whole task_key task_keyed task_in same_task stored.tasks r.tasks n.tasks;
      runs = list_whole run_key run_keyed run_in same_run stored.runs r.runs n.runs;
      preps = list_whole prep_key prep_keyed prep_in same_prep stored.preps r.preps n.preps;
      samples = list_whole sample_key sample_keyed sample_in same_sample stored.samples r.samples n.samples;
      scales = list_whole scale_key scale_keyed scale_in same_scale stored.scales r.scales n.scales;
      next_node = refl;
      next_run = refl;
      moment = refl;
    })

-- what is known of a content that is tables with keys of their own
pub record IsWhole (stored : Stored) (s : State) : Type 0 where
  pub version : has_known_version stored.metas ≡ true
  pub rows : are_rows stored ≡ true
  pub is : filling stored ≡ s
  pub all : has_all s stored ≡ true

pub whole_of : (stored : Stored) (s : State) → IsContentOf stored s → IsWhole stored s
whole_of stored s c =
    let r = reading_of stored s c.reading in
    let pools = list_own pool_key pool_keyed pool_in same_pool stored.pools s.pools r.pools c.formed.keys.pools in
    let nodes = list_own node_key node_keyed node_in same_node stored.nodes s.nodes r.nodes c.formed.keys.nodes in
    let jobs = list_own job_key job_keyed job_in same_job stored.jobs s.jobs r.jobs c.formed.keys.jobs in
    let tasks = list_own task_key task_keyed task_in same_task stored.tasks s.tasks r.tasks c.formed.keys.tasks in
    let runs = list_own run_key run_keyed run_in same_run stored.runs s.runs r.runs c.formed.keys.runs in
    let preps = list_own prep_key prep_keyed prep_in same_prep stored.preps s.preps r.preps c.formed.keys.preps in
    let samples = list_own sample_key sample_keyed sample_in same_sample stored.samples s.samples r.samples c.formed.keys.samples in
    let scales = list_own scale_key scale_keyed scale_in same_scale stored.scales s.scales r.scales c.formed.keys.scales in
    record {
      version = r.version;
      rows = of_eight _ _ _ _ _ _ _ _ (record {
        pools = pools.there;
        nodes = nodes.there;
        jobs = jobs.there;
        tasks = tasks.there;
        runs = runs.there;
        preps = preps.there;
        samples = samples.there;
        scales = scales.there;
      });
      is = rw (pools.is, nodes.is, jobs.is, tasks.is, runs.is, preps.is, samples.is, scales.is, sym r.next_node, sym r.next_run, sym r.moment) refl;
      all = of_eight _ _ _ _ _ _ _ _ (record {
        pools = pools.counted;
        nodes = nodes.counted;
        jobs = jobs.counted;
        tasks = tasks.counted;
        runs = runs.counted;
        preps = preps.counted;
        samples = samples.counted;
        scales = scales.counted;
      });
    }

-- what was found out of the tables that a store's entries fill
pub record IsTested (stored : Stored) (s : State) (rows formed : Bool) : Type 0 where
  pub state : s ≡ numbered stored.metas (filled stored empty_state)
  pub rows_is : rows ≡ (are_rows stored && has_all s stored)
  pub yes : formed ≡ true → IsWellFormed s
  pub no : IsWellFormed s → formed ≡ true

pub found_content : (stored : Stored) (s : State) (rows formed : Bool) → has_known_version stored.metas ≡ true → IsTested stored s rows formed
    → (rows && formed) ≡ true → IsContentOf stored s
found_content stored s rows formed version t h =
    let both = and_parts rows formed h in
    let is : s ≡ filling stored = t.state ∙ filled_is stored in
    let tests = and_parts (are_rows stored) (has_all s stored) (sym t.rows_is ∙ both.0) in
    let all : has_all (filling stored) stored ≡ true = ap (λ (x : State). has_all x stored) (sym is) ∙ tests.1 in
    record {
      reading = content_is stored version tests.0 all ∙ ap (λ (x : State). Some x) (sym is);
      formed = t.yes both.1;
    }

pub no_content : (stored : Stored) (s : State) (rows formed : Bool) → IsTested stored s rows formed → (rows && formed) ≡ false
    → (other : State) → IsContentOf stored other → ⊥
no_content stored s rows formed t h other c =
    let w = whole_of stored other c in
    let is : s ≡ other = t.state ∙ filled_is stored ∙ w.is in
    let all : has_all s stored ≡ true = ap (λ (x : State). has_all x stored) is ∙ w.all in
    let are : rows ≡ true = t.rows_is ∙ and_from (are_rows stored) (has_all s stored) w.rows all in
    let good : formed ≡ true = t.no (subst IsWellFormed (sym is) c.formed) in
    let yes : (rows && formed) ≡ true = and_from rows formed are good in
    absurd (cc)

pub no_version : (stored : Stored) → has_known_version stored.metas ≡ false → (other : State) → IsContentOf stored other → ⊥
no_version stored h other c = let w = whole_of stored other c in let version = w.version in absurd (cc)
