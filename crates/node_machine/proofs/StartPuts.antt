-- What endings of start runs put into the tables.
use Rattle.std.proofs.Common.{◌≡◌, ℕ, ◌+◌, nat_lt, [], ◌∷◌, Some, refl, ◌∙◌, ap}
use Rattle.bt_rows.specs.Changes.{apply_change, apply_changes}
use Rattle.bt_rows.specs.Keys.{same_node, same_node_equiv}
use Rattle.bt_rows.specs.Lists.{AreDistinct}
use Rattle.bt_rows.specs.declared.tables.Change.TheVariants.{PutNode, PutRun, Counters}
use Rattle.batch_model.specs.Events.{ended_run}
use Rattle.batch_model.specs.Rows.{is_node, is_run, node_of, add_run_row}
use Rattle.batch_model.specs.Runs.{start_run}
use Rattle.batch_model.specs.Starts.{change_node, counted_node, start_again}
use Rattle.batch_model.specs.Variants.{State, NodeRow, StartTask, Ending, RunRow}
use Rattle.model_lists.proofs.ChangedRows.{each_change_same}
use Rattle.model_lists.proofs.Putting.{put_row-found}
use Rattle.machine_plans.specs.Plans.{with_moment}
use Rattle.machine_plans.proofs.DuePuts.{next_run_put}
use Rattle.machine_plans.proofs.EventPuts.{ended_put}
use Rattle.node_machine.specs.Endings.{IsThere, with_end}

-- a node in its place, with its number
node_put : (t : State) (node : NodeRow) (change : NodeRow → NodeRow) → AreDistinct same_node t.nodes → node_of t node.number ≡ Some node → ((x : NodeRow) → same_node x (change node) ≡ same_node x node) → apply_change (PutNode (change node)) t ≡ change_node node change t
node_put t node change distinct found keeps =
    ap (λ nodes. record t { nodes = nodes })
    (put_row-found same_node same_node_equiv (is_node node.number) change node (λ x. refl) keeps t.nodes distinct found)

module _ (s : State) (run : RunRow) (there : IsThere s run) (now : ℕ) (ending : Ending) where
  -- the run ends
  pub end_put : (ended : RunRow) → ended ≡ ended_run now ending run → apply_change (PutRun ended) (with_moment now s) ≡ with_end now ending run s
  end_put ended is_ended =
      ap (λ row. apply_change (PutRun row) (with_moment now s)) is_ended
      ∙ ended_put s there.keys run there.found now ending

  -- the run ends, and its node changes
  pub end_and_node : (ended : RunRow) (row node : NodeRow) (change : NodeRow → NodeRow) → ended ≡ ended_run now ending run → row ≡ change node → ((x : NodeRow) → same_node x (change node) ≡ same_node x node) → node_of s node.number ≡ Some node → apply_changes (PutRun ended ∷ PutNode row ∷ []) (with_moment now s) ≡ change_node node change (with_end now ending run s)
  end_and_node ended row node change is_ended is_row keeps found =
      ap (apply_change (PutNode row)) (end_put ended is_ended)
      ∙ (ap (λ each. apply_change (PutNode each) (with_end now ending run s)) is_row
      ∙ node_put (with_end now ending run s) node change there.keys.nodes found keeps)

  -- the run ends, the failure is counted, and the start task is run again
  pub end_and_again : (ended again : RunRow) (row node : NodeRow) (start : StartTask) (nodes runs : ℕ) → ended ≡ ended_run now ending run → row ≡ counted_node node → again ≡ start_run (with_moment now s) node start → nodes ≡ s.next_node → runs ≡ s.next_run + 1 → node_of s node.number ≡ Some node → apply_changes (PutRun ended ∷ PutNode row ∷ PutRun again ∷ Counters nodes runs ∷ []) (with_moment now s) ≡ start_again node start (with_end now ending run s)
  end_and_again ended again row node start nodes runs is_ended is_row is_again stays rises found =
      let counted = change_node node counted_node (with_end now ending run s) in
      ap (apply_changes (PutRun again ∷ Counters nodes runs ∷ [])) (end_and_node ended row node counted_node is_ended is_row (λ x. refl) found)
      ∙ (next_run_put counted again runs nodes
      (each_change_same (is_run run.number) (ended_run now ending) (λ (other : RunRow). nat_lt other.number s.next_run) (λ x e h. h) s.runs there.below)
      (ap (λ (each : RunRow). each.number) is_again) rises stays
      ∙ ap (λ each. add_run_row each counted) is_again)
