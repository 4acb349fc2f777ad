-- The tests decide the rules.
use Rattle.std.proofs.Common.{◌≡◌, ◌+◌, Bool, true, not, List, [], ◌∷◌, length, refl, ap}
use Rattle.std.specs.List.{list_any}
use Rattle.std.proofs.lemmas.Bool.{and_parts, and_from}
use Rattle.bt_base.specs.Moments.{last_moment}
use Rattle.bt_rows.specs.Lists.{AreDistinct}
use Rattle.row_keys.specs.Passes.{are_distinct}
use Rattle.model_lists.proofs.Tests.{not_true}
use Rattle.model_lists.proofs.NextNumbers.{tested, ordered}
use Rattle.batch_model.specs.Finding.{last_number}
use Rattle.batch_model.specs.Limits.{pool_limit, job_limit, task_limit}
use Rattle.batch_model.specs.WellFormed.{KeysAreDistinct, RowsAreValid, CountsAreInRange, CountersAreAbove, TasksAreFitting, TriesAreBelow, NamedRowsAreThere}
use Rattle.batch_model.specs.WellFormed.{PoolsAreFitting, IsWellFormed}
use Rattle.batch_model.specs.Variants.{State}
use Rattle.tables_check.specs.Rules.{keys_are_distinct, rows_are_valid, counts_are_in_range, counters_are_above, tasks_are_fitting, tries_are_below}
use Rattle.tables_check.specs.Rules.{named_rows_are_there, pools_are_fitting, is_well_formed}

module _ {R : Type 0} (same : R → R → Bool) where
  distinct_to : (rows : List R) → AreDistinct same rows → are_distinct same rows ≡ true
  distinct_to [] h = refl
  distinct_to (row ∷ rows) h = and_from _ _ (ap not h.0) (distinct_to rows h.1)

  distinct_from : (rows : List R) → are_distinct same rows ≡ true → AreDistinct same rows
  distinct_from [] h = tt
  distinct_from (row ∷ rows) h =
      let p = and_parts (not (list_any (same row) rows)) (are_distinct same rows) h in
      (not_true (list_any (same row) rows) p.0, distinct_from rows p.1)

keys_to : (s : State) → KeysAreDistinct s → keys_are_distinct s ≡ true
keys_to s h =
    and_from _ _ (and_from _ _ (distinct_to _ _ h.pools) (and_from _ _ (distinct_to _ _ h.nodes)
    (and_from _ _ (distinct_to _ _ h.jobs) (distinct_to _ _ h.tasks))))
    (and_from _ _ (distinct_to _ _ h.runs) (and_from _ _ (distinct_to _ _ h.preps) (and_from _ _ (distinct_to _ _ h.samples) (distinct_to _ _ h.scales))))

keys_from : (s : State) → keys_are_distinct s ≡ true → KeysAreDistinct s
keys_from s h =
    let p = and_parts _ _ h in
    let a = and_parts _ _ p.0 in
    let b = and_parts _ _ a.1 in
    let c = and_parts _ _ b.1 in
    let d = and_parts _ _ p.1 in
    let e = and_parts _ _ d.1 in
    let f = and_parts _ _ e.1 in
    record {
      pools = distinct_from _ _ a.0;
      nodes = distinct_from _ _ b.0;
      jobs = distinct_from _ _ c.0;
      tasks = distinct_from _ _ c.1;
      runs = distinct_from _ _ d.0;
      preps = distinct_from _ _ e.0;
      samples = distinct_from _ _ f.0;
      scales = distinct_from _ _ f.1;
    }

rows_to : (s : State) → RowsAreValid s → rows_are_valid s ≡ true
rows_to s h =
    and_from _ _ (and_from _ _ (tested s.moment last_moment h.moment) (and_from _ _ h.pools (and_from _ _ h.nodes h.jobs)))
    (and_from _ _ h.tasks (and_from _ _ h.runs (and_from _ _ h.samples h.scales)))

rows_from : (s : State) → rows_are_valid s ≡ true → RowsAreValid s
rows_from s h =
    let p = and_parts _ _ h in
    let a = and_parts _ _ p.0 in
    let b = and_parts _ _ a.1 in
    let c = and_parts _ _ b.1 in
    let d = and_parts _ _ p.1 in
    let e = and_parts _ _ d.1 in
    let f = and_parts _ _ e.1 in
    record { moment = ordered s.moment last_moment a.0; pools = b.0; nodes = c.0; jobs = c.1; tasks = d.0; runs = e.0; samples = f.0; scales = f.1 }

counts_to : (s : State) → CountsAreInRange s → counts_are_in_range s ≡ true
counts_to s h =
    and_from _ _ (and_from _ _ (tested (length s.pools) pool_limit h.pools)
    (and_from _ _ (tested (length s.jobs) job_limit h.jobs) (tested (length s.tasks) task_limit h.tasks)))
    (and_from _ _ (and_from _ _ (tested 1 s.next_node h.first_node) (tested s.next_node (last_number + 1) h.next_node))
    (and_from _ _ (tested 1 s.next_run h.first_run) (tested s.next_run (last_number + 64) h.next_run)))

counts_from : (s : State) → counts_are_in_range s ≡ true → CountsAreInRange s
counts_from s h =
    let p = and_parts _ _ h in
    let a = and_parts _ _ p.0 in
    let b = and_parts _ _ a.1 in
    let c = and_parts _ _ p.1 in
    let d = and_parts _ _ c.0 in
    let e = and_parts _ _ c.1 in
    record {
      pools = ordered (length s.pools) pool_limit a.0;
      jobs = ordered (length s.jobs) job_limit b.0;
      tasks = ordered (length s.tasks) task_limit b.1;
      first_node = ordered 1 s.next_node d.0;
      next_node = ordered s.next_node (last_number + 1) d.1;
      first_run = ordered 1 s.next_run e.0;
      next_run = ordered s.next_run (last_number + 64) e.1;
    }

counters_to : (s : State) → CountersAreAbove s → counters_are_above s ≡ true
counters_to s h = and_from _ _ (and_from _ _ h.runs h.nodes) (and_from _ _ h.nodes_of_runs h.nodes_of_preps)

counters_from : (s : State) → counters_are_above s ≡ true → CountersAreAbove s
counters_from s h =
    let p = and_parts _ _ h in
    let a = and_parts _ _ p.0 in
    let b = and_parts _ _ p.1 in
    record { runs = a.0; nodes = a.1; nodes_of_runs = b.0; nodes_of_preps = b.1 }

fitting_to : (s : State) → TasksAreFitting s → tasks_are_fitting s ≡ true
fitting_to s h = and_from _ _ h.marks (and_from _ _ h.closing h.attempts)

fitting_from : (s : State) → tasks_are_fitting s ≡ true → TasksAreFitting s
fitting_from s h =
    let p = and_parts _ _ h in
    let a = and_parts _ _ p.1 in
    record { marks = p.0; closing = a.0; attempts = a.1 }

tries_from : (s : State) → tries_are_below s ≡ true → TriesAreBelow s
tries_from s h = let p = and_parts _ _ h in record { nodes = p.0; preps = p.1 }

named_to : (s : State) → NamedRowsAreThere s → named_rows_are_there s ≡ true
named_to s h = and_from _ _ (and_from _ _ h.jobs_of_tasks h.jobs_of_runs) (and_from _ _ h.tasks_of_runs (distinct_to _ _ h.main_runs))

named_from : (s : State) → named_rows_are_there s ≡ true → NamedRowsAreThere s
named_from s h =
    let p = and_parts _ _ h in
    let a = and_parts _ _ p.0 in
    let b = and_parts _ _ p.1 in
    record { jobs_of_tasks = a.0; jobs_of_runs = a.1; tasks_of_runs = b.0; main_runs = distinct_from _ _ b.1 }

pools_to : (s : State) → PoolsAreFitting s → pools_are_fitting s ≡ true
pools_to s h =
    and_from _ _ (and_from _ _ h.deleting (and_from _ _ h.pools_of_scales h.pools_of_samples))
    (and_from _ _ (and_from _ _ h.labels (distinct_to _ _ h.order)) (and_from _ _ h.covered h.kept))

pools_from : (s : State) → pools_are_fitting s ≡ true → PoolsAreFitting s
pools_from s h =
    let p = and_parts _ _ h in
    let a = and_parts _ _ p.0 in
    let b = and_parts _ _ a.1 in
    let c = and_parts _ _ p.1 in
    let d = and_parts _ _ c.0 in
    let e = and_parts _ _ c.1 in
    record {
      deleting = a.0;
      pools_of_scales = b.0;
      pools_of_samples = b.1;
      labels = d.0;
      order = distinct_from _ _ d.1;
      covered = e.0;
      kept = e.1;
    }

pub well_formed_to : (s : State) → IsWellFormed s → is_well_formed s ≡ true
well_formed_to s h =
    and_from _ _ (and_from _ _ (keys_to s h.keys) (and_from _ _ (rows_to s h.rows)
    (and_from _ _ (counts_to s h.counts) (and_from _ _ (counters_to s h.counters) (fitting_to s h.fitting)))))
    (and_from _ _ (and_from _ _ h.tries.nodes h.tries.preps) (and_from _ _ (named_to s h.named) (and_from _ _ h.quiet (pools_to s h.pools))))

pub well_formed_from : (s : State) → is_well_formed s ≡ true → IsWellFormed s
well_formed_from s h =
    let p = and_parts _ _ h in
    let a = and_parts _ _ p.0 in
    let b = and_parts _ _ a.1 in
    let c = and_parts _ _ b.1 in
    let d = and_parts _ _ c.1 in
    let e = and_parts _ _ p.1 in
    let f = and_parts _ _ e.1 in
    let g = and_parts _ _ f.1 in
    record {
      keys = keys_from s a.0;
      rows = rows_from s b.0;
      counts = counts_from s c.0;
      counters = counters_from s d.0;
      fitting = fitting_from s d.1;
      tries = tries_from s e.0;
      named = named_from s f.0;
      quiet = g.0;
      pools = pools_from s g.1;
    }
