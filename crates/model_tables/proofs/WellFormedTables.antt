-- Sound tables are well formed, as empty ones are.
use Rattle.std.proofs.Common.{ℕ, nat_lt, refl, arith}
use Rattle.batch_model.specs.Sound.{IsSound, has_node_row}
use Rattle.batch_model.specs.WellFormed.{IsWellFormed}
use Rattle.batch_model.specs.Variants.{State, empty_state, PrepRow}
use Rattle.model_lists.proofs.RowLists.{each_weaker}
use Rattle.model_tables.proofs.StartAdded.{row_below}

-- sound tables are well formed
pub well_formed : (seats : ℕ) (s : State) → IsSound seats s → IsWellFormed s
well_formed seats s h = record {
  keys = h.consistent.keys;
  rows = h.limited.rows;
  counts = h.limited.counts;
  counters = record {
    runs = h.consistent.numbers.runs;
    nodes = h.consistent.numbers.nodes;
    nodes_of_runs = h.consistent.numbers.nodes_of_runs;
    nodes_of_preps =
        each_weaker (λ (prep : PrepRow). has_node_row s prep.node) (λ (prep : PrepRow). nat_lt prep.node s.next_node)
        (λ prep e. row_below s prep.node e h.consistent.numbers.nodes) s.preps h.preparing.nodes_of_preps;
  };
  fitting = h.consistent.fitting;
  tries = record {
    nodes = h.starts.tries;
    preps = h.preparing.tries;
  };
  named = h.consistent.named;
  quiet = h.limited.quiet;
  pools = h.limited.pools;
}

-- empty tables are well formed
pub well_formed_empty : IsWellFormed empty_state
well_formed_empty = record {
  keys = record { pools = tt; nodes = tt; jobs = tt; tasks = tt; runs = tt; preps = tt; samples = tt; scales = tt };
  rows = record { moment = omega arith; pools = refl; nodes = refl; jobs = refl; tasks = refl; runs = refl; samples = refl; scales = refl };
  counts = record {
    pools = omega arith;
    jobs = omega arith;
    tasks = omega arith;
    first_node = omega arith;
    next_node = omega arith;
    first_run = omega arith;
    next_run = omega arith;
  };
  counters = record { runs = refl; nodes = refl; nodes_of_runs = refl; nodes_of_preps = refl };
  fitting = record { marks = refl; closing = refl; attempts = refl };
  tries = record { nodes = refl; preps = refl };
  named = record { jobs_of_tasks = refl; jobs_of_runs = refl; tasks_of_runs = refl; main_runs = tt };
  quiet = refl;
  pools = record { deleting = refl; pools_of_scales = refl; pools_of_samples = refl; labels = refl; order = tt; covered = refl; kept = refl };
}
