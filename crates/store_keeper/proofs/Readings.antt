-- What is known of a content that is tables, list by list.
use Rattle.std.proofs.Common.{◌≡◌, ℕ, Bool, true, false, cond, List, Option, Some, None, refl, sym, ap, ◌∙◌}
use Rattle.std.specs.Option.{option_map, option_and_then}
use Rattle.bt_rows.specs.State.{State}
use Rattle.bt_rows.specs.declared.pool.PoolRow.{PoolRow}
use Rattle.bt_rows.specs.declared.node.NodeRow.{NodeRow}
use Rattle.bt_rows.specs.declared.job.JobRow.{JobRow}
use Rattle.bt_rows.specs.declared.task.TaskRow.{TaskRow}
use Rattle.bt_rows.specs.declared.run.RunRow.{RunRow}
use Rattle.bt_rows.specs.declared.prep.PrepRow.{PrepRow}
use Rattle.bt_rows.specs.declared.sample.SampleRow.{SampleRow}
use Rattle.bt_rows.specs.declared.scale.ScaleRow.{ScaleRow}
use Rattle.keeper_store.specs.declared.entries.Entry.{Entry}
use Rattle.keeper_store.specs.declared.content.Stored.{Stored}
use Rattle.store_keeper.specs.Reading.{number_or, has_known_version, state_of, rows_state, state_in}
use Rattle.store_keeper.specs.Reading.{pools_in, nodes_in, jobs_in, tasks_in, runs_in, preps_in, samples_in, scales_in}

pub record IsReading (stored : Stored) (s : State) : Type 0 where
  pub version : has_known_version stored.metas ≡ true
  pub pools : pools_in stored.pools ≡ Some s.pools
  pub nodes : nodes_in stored.nodes ≡ Some s.nodes
  pub jobs : jobs_in stored.jobs ≡ Some s.jobs
  pub tasks : tasks_in stored.tasks ≡ Some s.tasks
  pub runs : runs_in stored.runs ≡ Some s.runs
  pub preps : preps_in stored.preps ≡ Some s.preps
  pub samples : samples_in stored.samples ≡ Some s.samples
  pub scales : scales_in stored.scales ≡ Some s.scales
  pub next_node : s.next_node ≡ number_or 1 stored.metas.next_node
  pub next_run : s.next_run ≡ number_or 1 stored.metas.next_run
  pub moment : s.moment ≡ number_or 0 stored.metas.moment

some_of : {A B : Type 0} (f : A → Option B) (o : Option A) (b : B) → option_and_then f o ≡ Some b → (a : A) × (o ≡ Some a) × (f a ≡ Some b)
some_of f None b h = absurd (cc)
some_of f (Some a) b h = (a, refl, h)

some_is : {A : Type 0} (a b : A) → Some a ≡ Some b → a ≡ b
some_is a b h = cc

map_of : {A B : Type 0} (f : A → B) (o : Option A) (b : B) → option_map f o ≡ Some b → (a : A) × (o ≡ Some a) × (f a ≡ b)
map_of f None b h = absurd (cc)
map_of f (Some a) b h = (a, refl, some_is (f a) b h)

if_some : {B : Type 0} (c : Bool) (o : Option B) (b : B) → cond c o None ≡ Some b → (c ≡ true) × (o ≡ Some b)
if_some true o b h = (refl, h)
if_some false o b h = absurd (cc)

pub reading_of : (stored : Stored) (s : State) → state_in stored ≡ Some s → IsReading stored s
reading_of stored s h =
    let v = if_some (has_known_version stored.metas) (rows_state stored) s h in
    let pools = some_of _ (pools_in stored.pools) s v.1 in
    let nodes = some_of _ (nodes_in stored.nodes) s pools.2 in
    let jobs = some_of _ (jobs_in stored.jobs) s nodes.2 in
    let tasks = some_of _ (tasks_in stored.tasks) s jobs.2 in
    let runs = some_of _ (runs_in stored.runs) s tasks.2 in
    let preps = some_of _ (preps_in stored.preps) s runs.2 in
    let samples = some_of _ (samples_in stored.samples) s preps.2 in
    let scales = map_of _ (scales_in stored.scales) s samples.2 in
    let whole : state_of stored.metas pools.0 nodes.0 jobs.0 tasks.0 runs.0 preps.0 samples.0 scales.0 ≡ s = scales.2 in
    record {
      version = v.0;
      pools = pools.1 ∙ ap (λ (x : State). Some x.pools) whole;
      nodes = nodes.1 ∙ ap (λ (x : State). Some x.nodes) whole;
      jobs = jobs.1 ∙ ap (λ (x : State). Some x.jobs) whole;
      tasks = tasks.1 ∙ ap (λ (x : State). Some x.tasks) whole;
      runs = runs.1 ∙ ap (λ (x : State). Some x.runs) whole;
      preps = preps.1 ∙ ap (λ (x : State). Some x.preps) whole;
      samples = samples.1 ∙ ap (λ (x : State). Some x.samples) whole;
      scales = scales.1 ∙ ap (λ (x : State). Some x.scales) whole;
      next_node = sym (ap (λ (x : State). x.next_node) whole);
      next_run = sym (ap (λ (x : State). x.next_run) whole);
      moment = sym (ap (λ (x : State). x.moment) whole);
    }

with_numbers : (s : State) (node run moment : ℕ) → s.next_node ≡ node → s.next_run ≡ run → s.moment ≡ moment
    → record s { next_node = node; next_run = run; moment = moment } ≡ s
with_numbers s node run moment a b c = rw (sym a, sym b, sym c) refl

pub state_from : (stored : Stored) (s : State) → IsReading stored s → state_in stored ≡ Some s
state_from stored s r =
    rw (r.version, r.pools, r.nodes, r.jobs, r.tasks, r.runs, r.preps, r.samples, r.scales)
    (ap (λ (x : State). Some x) (with_numbers s _ _ _ r.next_node r.next_run r.moment))

-- ---- another list of one kind

pub with_pools : (stored : Stored) (s : State) (entries : List Entry) (rows : List PoolRow) → IsReading stored s → pools_in entries ≡ Some rows
    → IsReading (record stored { pools = entries }) (record s { pools = rows })
with_pools stored s entries rows r h = record {
  version = r.version;
  pools = h;
  nodes = r.nodes;
  jobs = r.jobs;
  tasks = r.tasks;
  runs = r.runs;
  preps = r.preps;
  samples = r.samples;
  scales = r.scales;
  next_node = r.next_node;
  next_run = r.next_run;
  moment = r.moment;
}

pub with_nodes : (stored : Stored) (s : State) (entries : List Entry) (rows : List NodeRow) → IsReading stored s → nodes_in entries ≡ Some rows
    → IsReading (record stored { nodes = entries }) (record s { nodes = rows })
with_nodes stored s entries rows r h = record {
  version = r.version;
  pools = r.pools;
  nodes = h;
  jobs = r.jobs;
  tasks = r.tasks;
  runs = r.runs;
  preps = r.preps;
  samples = r.samples;
  scales = r.scales;
  next_node = r.next_node;
  next_run = r.next_run;
  moment = r.moment;
}

pub with_jobs : (stored : Stored) (s : State) (entries : List Entry) (rows : List JobRow) → IsReading stored s → jobs_in entries ≡ Some rows
    → IsReading (record stored { jobs = entries }) (record s { jobs = rows })
with_jobs stored s entries rows r h = record {
  version = r.version;
  pools = r.pools;
  nodes = r.nodes;
  jobs = h;
  tasks = r.tasks;
  runs = r.runs;
  preps = r.preps;
  samples = r.samples;
  scales = r.scales;
  next_node = r.next_node;
  next_run = r.next_run;
  moment = r.moment;
}

pub with_tasks : (stored : Stored) (s : State) (entries : List Entry) (rows : List TaskRow) → IsReading stored s → tasks_in entries ≡ Some rows
    → IsReading (record stored { tasks = entries }) (record s { tasks = rows })
with_tasks stored s entries rows r h = record {
  version = r.version;
  pools = r.pools;
  nodes = r.nodes;
  jobs = r.jobs;
  tasks = h;
  runs = r.runs;
  preps = r.preps;
  samples = r.samples;
  scales = r.scales;
  next_node = r.next_node;
  next_run = r.next_run;
  moment = r.moment;
}

pub with_runs : (stored : Stored) (s : State) (entries : List Entry) (rows : List RunRow) → IsReading stored s → runs_in entries ≡ Some rows
    → IsReading (record stored { runs = entries }) (record s { runs = rows })
with_runs stored s entries rows r h = record {
  version = r.version;
  pools = r.pools;
  nodes = r.nodes;
  jobs = r.jobs;
  tasks = r.tasks;
  runs = h;
  preps = r.preps;
  samples = r.samples;
  scales = r.scales;
  next_node = r.next_node;
  next_run = r.next_run;
  moment = r.moment;
}

pub with_preps : (stored : Stored) (s : State) (entries : List Entry) (rows : List PrepRow) → IsReading stored s → preps_in entries ≡ Some rows
    → IsReading (record stored { preps = entries }) (record s { preps = rows })
with_preps stored s entries rows r h = record {
  version = r.version;
  pools = r.pools;
  nodes = r.nodes;
  jobs = r.jobs;
  tasks = r.tasks;
  runs = r.runs;
  preps = h;
  samples = r.samples;
  scales = r.scales;
  next_node = r.next_node;
  next_run = r.next_run;
  moment = r.moment;
}

pub with_samples : (stored : Stored) (s : State) (entries : List Entry) (rows : List SampleRow) → IsReading stored s → samples_in entries ≡ Some rows
    → IsReading (record stored { samples = entries }) (record s { samples = rows })
with_samples stored s entries rows r h = record {
  version = r.version;
  pools = r.pools;
  nodes = r.nodes;
  jobs = r.jobs;
  tasks = r.tasks;
  runs = r.runs;
  preps = r.preps;
  samples = h;
  scales = r.scales;
  next_node = r.next_node;
  next_run = r.next_run;
  moment = r.moment;
}

pub with_scales : (stored : Stored) (s : State) (entries : List Entry) (rows : List ScaleRow) → IsReading stored s → scales_in entries ≡ Some rows
    → IsReading (record stored { scales = entries }) (record s { scales = rows })
with_scales stored s entries rows r h = record {
  version = r.version;
  pools = r.pools;
  nodes = r.nodes;
  jobs = r.jobs;
  tasks = r.tasks;
  runs = r.runs;
  preps = r.preps;
  samples = r.samples;
  scales = h;
  next_node = r.next_node;
  next_run = r.next_run;
  moment = r.moment;
}

-- ---- other numbers

pub with_counters : (stored : Stored) (s : State) (node run : ℕ) → IsReading stored s
    → IsReading (record stored { metas = record stored.metas { next_node = Some node; next_run = Some run } }) (record s { next_node = node; next_run = run })
with_counters stored s node run r = record {
  version = r.version;
  pools = r.pools;
  nodes = r.nodes;
  jobs = r.jobs;
  tasks = r.tasks;
  runs = r.runs;
  preps = r.preps;
  samples = r.samples;
  scales = r.scales;
  next_node = refl;
  next_run = refl;
  moment = r.moment;
}

pub with_moment : (stored : Stored) (s : State) (moment : ℕ) → IsReading stored s
    → IsReading (record stored { metas = record stored.metas { moment = Some moment } }) (record s { moment = moment })
with_moment stored s moment r = record {
  version = r.version;
  pools = r.pools;
  nodes = r.nodes;
  jobs = r.jobs;
  tasks = r.tasks;
  runs = r.runs;
  preps = r.preps;
  samples = r.samples;
  scales = r.scales;
  next_node = r.next_node;
  next_run = r.next_run;
  moment = refl;
}
