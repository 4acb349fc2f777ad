-- Tables stay sound when nodes change their stages and the failures of their start tasks.
use Rattle.std.proofs.Common.{◌≡◌, ℕ, Bool, true, not, ◌||◌, nat_lt, refl, ap, ◌∙◌}
use Rattle.bt_rows.specs.Keys.{same_node}
use Rattle.bt_rows.specs.Ranges.{is_from_to}
use Rattle.batch_model.specs.Rows.{is_node, change_nodes}
use Rattle.batch_model.specs.Runs.{is_unended}
use Rattle.batch_model.specs.Sound.{IsConsistent, IsWithinLimits, are_out_of_order, share_seat, has_node_while_unended, is_of_pool, fits_nodes, has_slots_for}
use Rattle.batch_model.specs.WellFormed.{is_node_in_range, has_pool_row}
use Rattle.batch_model.specs.Variants.{State, NodeRow, NodeStage, RunRow}
use Rattle.model_lists.proofs.RowLists.{each_weaker}
use Rattle.model_lists.proofs.ChangedRows.{each_change_same, any_change_same}
use Rattle.model_lists.proofs.DistinctLists.{distinct_change}

-- a node in another stage, with other failures
abbrev pub restaged : (NodeRow → NodeStage) → (NodeRow → ℕ) → NodeRow → NodeRow
restaged stage_of tries_of node = record node { stage = stage_of node; tries = tries_of node }

module _ (test : NodeRow → Bool) (stage_of : NodeRow → NodeStage) (tries_of : NodeRow → ℕ) (s : State) where
  -- the nodes' change, and the tables after it
  abbrev change : NodeRow → NodeRow
  change = restaged stage_of tries_of

  abbrev after : State
  after = change_nodes test change s

  -- a run that has not ended still has its node
  node_there : (run : RunRow) → has_node_while_unended s run ≡ true → has_node_while_unended after run ≡ true
  node_there run h = ap (λ b. not (is_unended run.state) || b) (any_change_same test change (is_node run.node) (λ node t. refl) s.nodes) ∙ h

  -- the rows fit each other
  pub consistent_node_changed : (seats : ℕ) → IsConsistent seats s → IsConsistent seats (change_nodes test (restaged stage_of tries_of) s)
  consistent_node_changed seats h = record {
    keys = record {
      pools = h.keys.pools;
      nodes = distinct_change test change same_node (λ x y t. refl) (λ x y t. refl) s.nodes h.keys.nodes;
      jobs = h.keys.jobs;
      tasks = h.keys.tasks;
      runs = h.keys.runs;
      preps = h.keys.preps;
      samples = h.keys.samples;
      scales = h.keys.scales;
    };
    numbers = record {
      begun = h.numbers.begun;
      runs = h.numbers.runs;
      nodes = each_change_same test change (λ (node : NodeRow). nat_lt node.number s.next_node) (λ node t k. k) s.nodes h.numbers.nodes;
      nodes_of_runs = h.numbers.nodes_of_runs;
      order = distinct_change test change are_out_of_order (λ x y t. refl) (λ x y t. refl) s.nodes h.numbers.order;
    };
    fitting = record { marks = h.fitting.marks; closing = h.fitting.closing; attempts = h.fitting.attempts };
    named = record {
      jobs_of_tasks = h.named.jobs_of_tasks;
      jobs_of_runs = h.named.jobs_of_runs;
      tasks_of_runs = h.named.tasks_of_runs;
      main_runs = h.named.main_runs;
    };
    seated = record {
      distinct = distinct_change test change share_seat (λ x y t. refl) (λ x y t. refl) s.nodes h.seated.distinct;
      in_range = each_change_same test change (λ (node : NodeRow). is_from_to 1 seats node.seat) (λ node t k. k) s.nodes h.seated.in_range;
      few = h.seated.few;
      pools_of_nodes = each_change_same test change (λ (node : NodeRow). has_pool_row s node.pool) (λ node t k. k) s.nodes h.seated.pools_of_nodes;
      nodes_of_runs = each_weaker (has_node_while_unended s) (has_node_while_unended after) node_there s.runs h.seated.nodes_of_runs;
    };
    belonging = h.belonging;
    ending = h.ending;
    naming = record {
      on_nodes =
          each_weaker (fits_nodes s) (fits_nodes after)
          (λ run. each_change_same test change (is_of_pool run) (λ node t k. k) s.nodes) s.runs h.naming.on_nodes;
      of_jobs = h.naming.of_jobs;
    };
    slots = each_change_same test change (has_slots_for s) (λ node t k. k) s.nodes h.slots;
    built = record { runs = h.built.runs };
  }

  -- values stay within the limits
  pub limited_node_changed : IsWithinLimits s → IsWithinLimits (change_nodes test (restaged stage_of tries_of) s)
  limited_node_changed h = record {
    rows = record {
      moment = h.rows.moment;
      pools = h.rows.pools;
      nodes = each_change_same test change is_node_in_range (λ node t k. k) s.nodes h.rows.nodes;
      jobs = h.rows.jobs;
      tasks = h.rows.tasks;
      runs = h.rows.runs;
      samples = h.rows.samples;
      scales = h.rows.scales;
    };
    counts = record {
      pools = h.counts.pools;
      jobs = h.counts.jobs;
      tasks = h.counts.tasks;
      first_node = h.counts.first_node;
      next_node = h.counts.next_node;
      first_run = h.counts.first_run;
      next_run = h.counts.next_run;
    };
    quiet = h.quiet;
    pools = record {
      deleting = h.pools.deleting;
      pools_of_scales = h.pools.pools_of_scales;
      pools_of_samples = h.pools.pools_of_samples;
      labels = h.pools.labels;
      order = h.pools.order;
      covered = h.pools.covered;
      kept = h.pools.kept;
    };
  }
