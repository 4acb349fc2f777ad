-- Each edit of a content that is tables is a change of these.
use Rattle.std.proofs.Common.{◌≡◌, ℕ, ◌^◌, ◌<◌, true, List, [], ◌∷◌, ◌++◌}
use Rattle.std.proofs.lemmas.Bool.{and_parts}
use Rattle.std.specs.Str.{bytes_eq}
use Rattle.bt_base.specs.Ids.{IsId}
use Rattle.row_texts.specs.declared.row.RowKind.TheVariants as kinds
use Rattle.row_texts.specs.Pools.{pool_in}
use Rattle.row_texts.specs.Nodes.{node_in}
use Rattle.row_texts.specs.Jobs.{job_in}
use Rattle.row_texts.specs.Tasks.{task_in}
use Rattle.row_texts.specs.Runs.{run_in}
use Rattle.row_texts.specs.Preps.{prep_in}
use Rattle.row_texts.specs.Samples.{sample_in}
use Rattle.row_texts.specs.Scales.{scale_in}
use Rattle.bt_rows.specs.declared.pool.PoolRow.{PoolRow}
use Rattle.bt_rows.specs.declared.node.NodeRow.{NodeRow}
use Rattle.bt_rows.specs.declared.job.JobRow.{JobRow}
use Rattle.bt_rows.specs.declared.task.TaskRow.{TaskRow}
use Rattle.bt_rows.specs.declared.run.RunRow.{RunRow}
use Rattle.bt_rows.specs.declared.prep.PrepRow.{PrepRow}
use Rattle.bt_rows.specs.declared.sample.SampleRow.{SampleRow}
use Rattle.bt_rows.specs.declared.scale.ScaleRow.{ScaleRow}
use Rattle.bt_rows.specs.declared.task.TaskKey.{TaskKey}
use Rattle.bt_rows.specs.declared.prep.PrepKey.{PrepKey}
use Rattle.bt_rows.specs.declared.sample.SampleKey.{SampleKey}
use Rattle.bt_rows.specs.Lists.{put_row, drop_row}
use Rattle.bt_rows.specs.Changes.{apply_change}
use Rattle.bt_rows.specs.Keys.{same_pool, pool_has_id, same_node, node_has_number, same_job, job_has_id, same_task, task_has_key, same_run, run_has_number}
use Rattle.bt_rows.specs.Keys.{same_prep, prep_has_key, same_sample, sample_has_key, same_scale, scale_has_pool}
use Rattle.bt_rows.specs.declared.tables.Change.TheVariants.{PutPool, DropPool, PutNode, DropNode, PutJob, DropJob, PutTask, DropTask}
use Rattle.bt_rows.specs.declared.tables.Change.TheVariants.{PutRun, DropRun, PutPrep, DropPrep, PutSample, DropSample, PutScale, DropScale}
use Rattle.bt_rows.specs.declared.tables.Change.TheVariants.{Counters, Now}
use Rattle.keeper_store.specs.declared.edit.Edit.{Edit}
use Rattle.keeper_store.specs.declared.edit.Edit.TheVariants as edits
use Rattle.keeper_store.specs.declared.edit.MetaName.TheVariants as names
use Rattle.keeper_store.specs.Lists.{put_entry, drop_entry}
use Rattle.keeper_store.specs.Contents.{put_in, drop_in, apply_edits}
use Rattle.store_keeper.specs.Keys.{pool_key, node_key, job_key, task_key, run_key, prep_key, sample_key, scale_key}
use Rattle.store_keeper.specs.Keys.{pool_keyed, node_keyed, job_keyed, task_keyed, run_keyed, prep_keyed, sample_keyed, scale_keyed}
use Rattle.store_keeper.specs.Keys.{id_key, number_key, ids_key, id_number_key, label_key, is_id, is_number}
use Rattle.store_keeper.specs.Edits.{Puts, Extends}
use Rattle.store_keeper.proofs.KeyTexts.{id_is, ids_alike, numbers_alike, tasks_alike, preps_alike, samples_alike, below}
use Rattle.store_keeper.proofs.EntryRows.{row_again, put_in_rows, drop_in_rows}
use Rattle.store_keeper.proofs.Readings.{reading_of, state_from, with_counters, with_moment}
use Rattle.store_keeper.proofs.Readings.{with_pools, with_nodes, with_jobs, with_tasks, with_runs, with_preps, with_samples, with_scales}

-- ---- pools

pool_agrees : (old row : PoolRow) → pool_keyed old ≡ true → pool_keyed row ≡ true → bytes_eq (pool_key old) (pool_key row) ≡ same_pool old row
pool_agrees old row k n = ids_alike old.id row.id

pub extends_put_pool : (row : PoolRow) (old new : List Edit)
    → Puts kinds.Pool pool_key pool_keyed pool_in row old new → Extends (PutPool row) old new
extends_put_pool row old new p = record {
  more = edits.Put kinds.Pool p.entry ∷ [];
  added = p.added;
  are_edits = record {
    lead = λ stored s h.
        let r = reading_of stored s h in
        let again = row_again pool_key pool_keyed pool_in p.entry row p.key p.known p.text in
        let rows = put_in_rows pool_key pool_keyed pool_in same_pool pool_agrees p.entry row again stored.pools s.pools r.pools in
        state_from (put_in kinds.Pool p.entry stored) (apply_change (PutPool row) s)
        (with_pools stored s (put_entry p.entry stored.pools) (put_row (λ x. same_pool x row) row s.pools) r rows);
  };
}

pool_tells : (key : List ℕ) → (old : PoolRow) → pool_keyed old ≡ true → bytes_eq (pool_key old) (id_key key) ≡ pool_has_id key old
pool_tells key old k = ids_alike old.id key

pub extends_drop_pool : (key : List ℕ) (old new : List Edit) → new ≡ old ++ edits.Drop kinds.Pool (id_key key) ∷ []
    → Extends (DropPool key) old new
extends_drop_pool key old new added = record {
  more = edits.Drop kinds.Pool (id_key key) ∷ [];
  added = added;
  are_edits = record {
    lead = λ stored s h.
        let r = reading_of stored s h in
        let text = id_key key in
        let rows = drop_in_rows pool_key pool_keyed pool_in (pool_has_id key) text (pool_tells key) stored.pools s.pools r.pools in
        state_from (drop_in kinds.Pool text stored) (apply_change (DropPool key) s)
        (with_pools stored s (drop_entry text stored.pools) (drop_row (pool_has_id key) s.pools) r rows);
  };
}

-- ---- nodes

node_agrees : (old row : NodeRow) → node_keyed old ≡ true → node_keyed row ≡ true → bytes_eq (node_key old) (node_key row) ≡ same_node old row
node_agrees old row k n = numbers_alike old.number row.number (below old.number k) (below row.number n)

pub extends_put_node : (row : NodeRow) (old new : List Edit)
    → Puts kinds.Node node_key node_keyed node_in row old new → Extends (PutNode row) old new
extends_put_node row old new p = record {
  more = edits.Put kinds.Node p.entry ∷ [];
  added = p.added;
  are_edits = record {
    lead = λ stored s h.
        let r = reading_of stored s h in
        let again = row_again node_key node_keyed node_in p.entry row p.key p.known p.text in
        let rows = put_in_rows node_key node_keyed node_in same_node node_agrees p.entry row again stored.nodes s.nodes r.nodes in
        state_from (put_in kinds.Node p.entry stored) (apply_change (PutNode row) s)
        (with_nodes stored s (put_entry p.entry stored.nodes) (put_row (λ x. same_node x row) row s.nodes) r rows);
  };
}

node_tells : (key : ℕ) → key < 2 ^ 64 → (old : NodeRow) → node_keyed old ≡ true → bytes_eq (node_key old) (number_key key) ≡ node_has_number key old
node_tells key p old k = numbers_alike old.number key (below old.number k) p

pub extends_drop_node : (key : ℕ) (old new : List Edit) → key < 2 ^ 64 → new ≡ old ++ edits.Drop kinds.Node (number_key key) ∷ []
    → Extends (DropNode key) old new
extends_drop_node key old new p added = record {
  more = edits.Drop kinds.Node (number_key key) ∷ [];
  added = added;
  are_edits = record {
    lead = λ stored s h.
        let r = reading_of stored s h in
        let text = number_key key in
        let rows = drop_in_rows node_key node_keyed node_in (node_has_number key) text (node_tells key p) stored.nodes s.nodes r.nodes in
        state_from (drop_in kinds.Node text stored) (apply_change (DropNode key) s)
        (with_nodes stored s (drop_entry text stored.nodes) (drop_row (node_has_number key) s.nodes) r rows);
  };
}

-- ---- jobs

job_agrees : (old row : JobRow) → job_keyed old ≡ true → job_keyed row ≡ true → bytes_eq (job_key old) (job_key row) ≡ same_job old row
job_agrees old row k n = ids_alike old.id row.id

pub extends_put_job : (row : JobRow) (old new : List Edit)
    → Puts kinds.Job job_key job_keyed job_in row old new → Extends (PutJob row) old new
extends_put_job row old new p = record {
  more = edits.Put kinds.Job p.entry ∷ [];
  added = p.added;
  are_edits = record {
    lead = λ stored s h.
        let r = reading_of stored s h in
        let again = row_again job_key job_keyed job_in p.entry row p.key p.known p.text in
        let rows = put_in_rows job_key job_keyed job_in same_job job_agrees p.entry row again stored.jobs s.jobs r.jobs in
        state_from (put_in kinds.Job p.entry stored) (apply_change (PutJob row) s)
        (with_jobs stored s (put_entry p.entry stored.jobs) (put_row (λ x. same_job x row) row s.jobs) r rows);
  };
}

job_tells : (key : List ℕ) → (old : JobRow) → job_keyed old ≡ true → bytes_eq (job_key old) (id_key key) ≡ job_has_id key old
job_tells key old k = ids_alike old.id key

pub extends_drop_job : (key : List ℕ) (old new : List Edit) → new ≡ old ++ edits.Drop kinds.Job (id_key key) ∷ []
    → Extends (DropJob key) old new
extends_drop_job key old new added = record {
  more = edits.Drop kinds.Job (id_key key) ∷ [];
  added = added;
  are_edits = record {
    lead = λ stored s h.
        let r = reading_of stored s h in
        let text = id_key key in
        let rows = drop_in_rows job_key job_keyed job_in (job_has_id key) text (job_tells key) stored.jobs s.jobs r.jobs in
        state_from (drop_in kinds.Job text stored) (apply_change (DropJob key) s)
        (with_jobs stored s (drop_entry text stored.jobs) (drop_row (job_has_id key) s.jobs) r rows);
  };
}

-- ---- tasks

task_agrees : (old row : TaskRow) → task_keyed old ≡ true → task_keyed row ≡ true → bytes_eq (task_key old) (task_key row) ≡ same_task old row
task_agrees old row k n = tasks_alike old.job old.id row.job row.id (id_is old.job k) (id_is row.job n)

pub extends_put_task : (row : TaskRow) (old new : List Edit)
    → Puts kinds.Task task_key task_keyed task_in row old new → Extends (PutTask row) old new
extends_put_task row old new p = record {
  more = edits.Put kinds.Task p.entry ∷ [];
  added = p.added;
  are_edits = record {
    lead = λ stored s h.
        let r = reading_of stored s h in
        let again = row_again task_key task_keyed task_in p.entry row p.key p.known p.text in
        let rows = put_in_rows task_key task_keyed task_in same_task task_agrees p.entry row again stored.tasks s.tasks r.tasks in
        state_from (put_in kinds.Task p.entry stored) (apply_change (PutTask row) s)
        (with_tasks stored s (put_entry p.entry stored.tasks) (put_row (λ x. same_task x row) row s.tasks) r rows);
  };
}

task_tells : (key : TaskKey) → IsId key.job → (old : TaskRow) → task_keyed old ≡ true
    → bytes_eq (task_key old) (ids_key key.job key.id) ≡ task_has_key key old
task_tells key p old k = tasks_alike old.job old.id key.job key.id (id_is old.job k) p

pub extends_drop_task : (key : TaskKey) (old new : List Edit) → IsId key.job → new ≡ old ++ edits.Drop kinds.Task (ids_key key.job key.id) ∷ []
    → Extends (DropTask key) old new
extends_drop_task key old new p added = record {
  more = edits.Drop kinds.Task (ids_key key.job key.id) ∷ [];
  added = added;
  are_edits = record {
    lead = λ stored s h.
        let r = reading_of stored s h in
        let text = ids_key key.job key.id in
        let rows = drop_in_rows task_key task_keyed task_in (task_has_key key) text (task_tells key p) stored.tasks s.tasks r.tasks in
        state_from (drop_in kinds.Task text stored) (apply_change (DropTask key) s)
        (with_tasks stored s (drop_entry text stored.tasks) (drop_row (task_has_key key) s.tasks) r rows);
  };
}

-- ---- runs

run_agrees : (old row : RunRow) → run_keyed old ≡ true → run_keyed row ≡ true → bytes_eq (run_key old) (run_key row) ≡ same_run old row
run_agrees old row k n = numbers_alike old.number row.number (below old.number k) (below row.number n)

pub extends_put_run : (row : RunRow) (old new : List Edit)
    → Puts kinds.Run run_key run_keyed run_in row old new → Extends (PutRun row) old new
extends_put_run row old new p = record {
  more = edits.Put kinds.Run p.entry ∷ [];
  added = p.added;
  are_edits = record {
    lead = λ stored s h.
        let r = reading_of stored s h in
        let again = row_again run_key run_keyed run_in p.entry row p.key p.known p.text in
        let rows = put_in_rows run_key run_keyed run_in same_run run_agrees p.entry row again stored.runs s.runs r.runs in
        state_from (put_in kinds.Run p.entry stored) (apply_change (PutRun row) s)
        (with_runs stored s (put_entry p.entry stored.runs) (put_row (λ x. same_run x row) row s.runs) r rows);
  };
}

run_tells : (key : ℕ) → key < 2 ^ 64 → (old : RunRow) → run_keyed old ≡ true → bytes_eq (run_key old) (number_key key) ≡ run_has_number key old
run_tells key p old k = numbers_alike old.number key (below old.number k) p

pub extends_drop_run : (key : ℕ) (old new : List Edit) → key < 2 ^ 64 → new ≡ old ++ edits.Drop kinds.Run (number_key key) ∷ []
    → Extends (DropRun key) old new
extends_drop_run key old new p added = record {
  more = edits.Drop kinds.Run (number_key key) ∷ [];
  added = added;
  are_edits = record {
    lead = λ stored s h.
        let r = reading_of stored s h in
        let text = number_key key in
        let rows = drop_in_rows run_key run_keyed run_in (run_has_number key) text (run_tells key p) stored.runs s.runs r.runs in
        state_from (drop_in kinds.Run text stored) (apply_change (DropRun key) s)
        (with_runs stored s (drop_entry text stored.runs) (drop_row (run_has_number key) s.runs) r rows);
  };
}

-- ---- preps

prep_agrees : (old row : PrepRow) → prep_keyed old ≡ true → prep_keyed row ≡ true → bytes_eq (prep_key old) (prep_key row) ≡ same_prep old row
prep_agrees old row k n =
    let x = and_parts (is_id old.job) (is_number old.node) k in
    let y = and_parts (is_id row.job) (is_number row.node) n in
    preps_alike old.job row.job old.node row.node (id_is old.job x.0) (id_is row.job y.0) (below old.node x.1) (below row.node y.1)

pub extends_put_prep : (row : PrepRow) (old new : List Edit)
    → Puts kinds.Prep prep_key prep_keyed prep_in row old new → Extends (PutPrep row) old new
extends_put_prep row old new p = record {
  more = edits.Put kinds.Prep p.entry ∷ [];
  added = p.added;
  are_edits = record {
    lead = λ stored s h.
        let r = reading_of stored s h in
        let again = row_again prep_key prep_keyed prep_in p.entry row p.key p.known p.text in
        let rows = put_in_rows prep_key prep_keyed prep_in same_prep prep_agrees p.entry row again stored.preps s.preps r.preps in
        state_from (put_in kinds.Prep p.entry stored) (apply_change (PutPrep row) s)
        (with_preps stored s (put_entry p.entry stored.preps) (put_row (λ x. same_prep x row) row s.preps) r rows);
  };
}

prep_tells : (key : PrepKey) → IsId key.job × (key.node < 2 ^ 64) → (old : PrepRow) → prep_keyed old ≡ true
    → bytes_eq (prep_key old) (id_number_key key.job key.node) ≡ prep_has_key key old
prep_tells key p old k =
    let x = and_parts (is_id old.job) (is_number old.node) k in
    preps_alike old.job key.job old.node key.node (id_is old.job x.0) p.0 (below old.node x.1) p.1

pub extends_drop_prep : (key : PrepKey) (old new : List Edit) → IsId key.job × (key.node < 2 ^ 64)
    → new ≡ old ++ edits.Drop kinds.Prep (id_number_key key.job key.node) ∷ []
    → Extends (DropPrep key) old new
extends_drop_prep key old new p added = record {
  more = edits.Drop kinds.Prep (id_number_key key.job key.node) ∷ [];
  added = added;
  are_edits = record {
    lead = λ stored s h.
        let r = reading_of stored s h in
        let text = id_number_key key.job key.node in
        let rows = drop_in_rows prep_key prep_keyed prep_in (prep_has_key key) text (prep_tells key p) stored.preps s.preps r.preps in
        state_from (drop_in kinds.Prep text stored) (apply_change (DropPrep key) s)
        (with_preps stored s (drop_entry text stored.preps) (drop_row (prep_has_key key) s.preps) r rows);
  };
}

-- ---- samples

sample_agrees : (old row : SampleRow) → sample_keyed old ≡ true → sample_keyed row ≡ true → bytes_eq (sample_key old) (sample_key row) ≡ same_sample old row
sample_agrees old row k n =
    let x = and_parts (is_id old.pool) (is_number old.label) k in
    let y = and_parts (is_id row.pool) (is_number row.label) n in
    let ids = id_is old.pool x.0 in
    let other = id_is row.pool y.0 in
    samples_alike old.pool row.pool old.metric row.metric old.label row.label ids other (below old.label x.1) (below row.label y.1)

pub extends_put_sample : (row : SampleRow) (old new : List Edit)
    → Puts kinds.Sample sample_key sample_keyed sample_in row old new → Extends (PutSample row) old new
extends_put_sample row old new p = record {
  more = edits.Put kinds.Sample p.entry ∷ [];
  added = p.added;
  are_edits = record {
    lead = λ stored s h.
        let r = reading_of stored s h in
        let again = row_again sample_key sample_keyed sample_in p.entry row p.key p.known p.text in
        let rows = put_in_rows sample_key sample_keyed sample_in same_sample sample_agrees p.entry row again stored.samples s.samples r.samples in
        state_from (put_in kinds.Sample p.entry stored) (apply_change (PutSample row) s)
        (with_samples stored s (put_entry p.entry stored.samples) (put_row (λ x. same_sample x row) row s.samples) r rows);
  };
}

sample_tells : (key : SampleKey) → IsId key.pool × (key.label < 2 ^ 64) → (old : SampleRow) → sample_keyed old ≡ true
    → bytes_eq (sample_key old) (label_key key.pool key.metric key.label) ≡ sample_has_key key old
sample_tells key p old k =
    let x = and_parts (is_id old.pool) (is_number old.label) k in
    samples_alike old.pool key.pool old.metric key.metric old.label key.label (id_is old.pool x.0) p.0 (below old.label x.1) p.1

pub extends_drop_sample : (key : SampleKey) (old new : List Edit) → IsId key.pool × (key.label < 2 ^ 64)
    → new ≡ old ++ edits.Drop kinds.Sample (label_key key.pool key.metric key.label) ∷ []
    → Extends (DropSample key) old new
extends_drop_sample key old new p added = record {
  more = edits.Drop kinds.Sample (label_key key.pool key.metric key.label) ∷ [];
  added = added;
  are_edits = record {
    lead = λ stored s h.
        let r = reading_of stored s h in
        let text = label_key key.pool key.metric key.label in
        let rows = drop_in_rows sample_key sample_keyed sample_in (sample_has_key key) text (sample_tells key p) stored.samples s.samples r.samples in
        state_from (drop_in kinds.Sample text stored) (apply_change (DropSample key) s)
        (with_samples stored s (drop_entry text stored.samples) (drop_row (sample_has_key key) s.samples) r rows);
  };
}

-- ---- scales

scale_agrees : (old row : ScaleRow) → scale_keyed old ≡ true → scale_keyed row ≡ true → bytes_eq (scale_key old) (scale_key row) ≡ same_scale old row
scale_agrees old row k n = ids_alike old.pool row.pool

pub extends_put_scale : (row : ScaleRow) (old new : List Edit)
    → Puts kinds.Scale scale_key scale_keyed scale_in row old new → Extends (PutScale row) old new
extends_put_scale row old new p = record {
  more = edits.Put kinds.Scale p.entry ∷ [];
  added = p.added;
  are_edits = record {
    lead = λ stored s h.
        let r = reading_of stored s h in
        let again = row_again scale_key scale_keyed scale_in p.entry row p.key p.known p.text in
        let rows = put_in_rows scale_key scale_keyed scale_in same_scale scale_agrees p.entry row again stored.scales s.scales r.scales in
        state_from (put_in kinds.Scale p.entry stored) (apply_change (PutScale row) s)
        (with_scales stored s (put_entry p.entry stored.scales) (put_row (λ x. same_scale x row) row s.scales) r rows);
  };
}

scale_tells : (key : List ℕ) → (old : ScaleRow) → scale_keyed old ≡ true → bytes_eq (scale_key old) (id_key key) ≡ scale_has_pool key old
scale_tells key old k = ids_alike old.pool key

pub extends_drop_scale : (key : List ℕ) (old new : List Edit) → new ≡ old ++ edits.Drop kinds.Scale (id_key key) ∷ []
    → Extends (DropScale key) old new
extends_drop_scale key old new added = record {
  more = edits.Drop kinds.Scale (id_key key) ∷ [];
  added = added;
  are_edits = record {
    lead = λ stored s h.
        let r = reading_of stored s h in
        let text = id_key key in
        let rows = drop_in_rows scale_key scale_keyed scale_in (scale_has_pool key) text (scale_tells key) stored.scales s.scales r.scales in
        state_from (drop_in kinds.Scale text stored) (apply_change (DropScale key) s)
        (with_scales stored s (drop_entry text stored.scales) (drop_row (scale_has_pool key) s.scales) r rows);
  };
}

-- ---- the numbers beside the rows

pub extends_counters : (node run : ℕ) (old new : List Edit)
    → new ≡ old ++ edits.Meta names.NextNode node ∷ edits.Meta names.NextRun run ∷ [] → Extends (Counters node run) old new
extends_counters node run old new added = record {
  more = edits.Meta names.NextNode node ∷ edits.Meta names.NextRun run ∷ [];
  added = added;
  are_edits = record {
    lead = λ stored s h.
        state_from (apply_edits (edits.Meta names.NextNode node ∷ edits.Meta names.NextRun run ∷ []) stored) (apply_change (Counters node run) s)
        (with_counters stored s node run (reading_of stored s h));
  };
}

pub extends_now : (moment : ℕ) (old new : List Edit) → new ≡ old ++ edits.Meta names.Moment moment ∷ [] → Extends (Now moment) old new
extends_now moment old new added = record {
  more = edits.Meta names.Moment moment ∷ [];
  added = added;
  are_edits = record {
    lead = λ stored s h.
        state_from (apply_edits (edits.Meta names.Moment moment ∷ []) stored) (apply_change (Now moment) s)
        (with_moment stored s moment (reading_of stored s h));
  };
}
