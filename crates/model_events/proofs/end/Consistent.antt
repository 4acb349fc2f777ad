-- A run that ends leaves consistent tables: a start run's ending changes its node.
use Rattle.std.proofs.Common.{◌≡◌, ℕ, Bool, true, false, not, List, map, Option, Some, cond, refl, sym, ap, subst, ◌+◌, ◌||◌, ◌∙◌}
use Rattle.std.specs.List.{find}
use Rattle.bt_base.specs.Ids.{same}
use Rattle.bt_base.proofs.SameIds.{same_equiv}
use Rattle.bt_rows.specs.Keys.{same_run, same_run_equiv, same_node, same_node_equiv}
use Rattle.bt_rows.proofs.DistinctRows.{found_first}
use Rattle.batch_model.specs.Rows.{is_run, change_runs, is_node, node_of}
use Rattle.batch_model.specs.Runs.{is_taken}
use Rattle.batch_model.specs.Events.{ended_run}
use Rattle.batch_model.specs.Sound.{IsConsistent}
use Rattle.batch_model.specs.Variants.{State, Ending, RunRow, RunState, Waiting, Queued}
use Rattle.batch_model.specs.Variants.{Taken, Ended, Withdrawn, NodeRow}
use Rattle.batch_model.specs.Starts.{usable_in, failed_in, counted_node, change_node, start_ended}
use Rattle.model_lists.proofs.MappedRows.{map_found}
use Rattle.model_lists.proofs.RowLists.{any_found}
use Rattle.model_lists.proofs.ChangedRows.{each_change_same, any_change_same}
use Rattle.model_lists.proofs.DistinctLists.{each_with_key}
use Rattle.model_lists.proofs.NextNumbers.{is_itself}
use Rattle.model_tables.proofs.RunsMove.{Moves, moves_same, moves_if, moved, consistent_moved}
use Rattle.model_tables.proofs.NodeChanged.{consistent_node_changed}
use Rattle.model_tables.proofs.StartAdded.{HasNode, consistent_start_added}
use Rattle.model_events.proofs.end.StartCases.{StartEnds, nothing, starts, again, fails, start_cases}

-- a node that is found by its number is there
pub has_found_node : (seats : ℕ) (s : State) (number : ℕ) (node : NodeRow) → IsConsistent seats s → node_of s number ≡ Some node → HasNode s node
has_found_node seats s number node h found = record {
  there = any_found (is_node node.number) (is_node number) node s.nodes found (is_itself node.number);
  in_pool =
      each_with_key same_node same_node_equiv (λ (other : NodeRow). same other.pool node.pool) node node s.nodes h.keys.nodes
      (found_first same_node same_node_equiv (is_node number) node s.nodes h.keys.nodes found)
      (same_equiv.refl node.pool);
}

-- it is still there when its failures are counted
pub has_counted : (s : State) (node : NodeRow) → HasNode s node → HasNode (change_node node counted_node s) node
has_counted s node has = record {
  there = any_change_same (is_node node.number) counted_node (is_node node.number) (λ other t. refl) s.nodes ∙ has.there;
  in_pool =
      each_change_same (is_node node.number) counted_node (λ (other : NodeRow). not (is_node node.number other) || same other.pool node.pool)
      (λ other t k. k) s.nodes has.in_pool;
}

-- each case keeps tables sound
consistent_by_start : (seats : ℕ) (s after : State) (run : RunRow) (ending : Ending) → IsConsistent seats s → StartEnds s run ending after
    → IsConsistent seats after
consistent_by_start seats s after run ending h nothing = h
consistent_by_start seats s after run ending h (starts node found well) =
    consistent_node_changed (is_node node.number) (λ (each : NodeRow). usable_in each.stage) (λ (each : NodeRow). each.tries) s seats h
consistent_by_start seats s after run ending h (again node start found there failed left) =
    consistent_start_added seats (change_node node counted_node s) node start
    (consistent_node_changed (is_node node.number) (λ (each : NodeRow). each.stage) (λ (each : NodeRow). each.tries + 1) s seats h)
    (has_counted s node (has_found_node seats s run.node node h found))
consistent_by_start seats s after run ending h (fails node start found there failed) =
    consistent_node_changed (is_node node.number) (λ (each : NodeRow). failed_in each.stage) (λ (each : NodeRow). each.tries + 1) s seats h

-- a start run that ends keeps tables sound
pub consistent_start_ended : (seats : ℕ) (s : State) (run : RunRow) (ending : Ending) → IsConsistent seats s → IsConsistent seats (start_ended run ending s)
consistent_start_ended seats s run ending h = consistent_by_start seats s (start_ended run ending s) run ending h (start_cases s run ending)

-- a taken run ends, and others stay
abbrev ended_if_taken : Ending → RunState → RunState
ended_if_taken ending Waiting = Waiting
ended_if_taken ending Queued = Queued
ended_if_taken ending Taken = Ended ending
ended_if_taken ending (Ended earlier) = Ended earlier
ended_if_taken ending Withdrawn = Withdrawn

-- so each state moves on
moves_ended : (ending : Ending) (state : RunState) → Moves state (ended_if_taken ending state)
moves_ended ending Waiting = moves_same Waiting
moves_ended ending Queued = moves_same Queued
moves_ended ending Taken = record { unended = λ h. refl; ends = λ h. refl; stays = λ h. refl }
moves_ended ending (Ended earlier) = moves_same (Ended earlier)
moves_ended ending Withdrawn = moves_same Withdrawn

-- a taken run ends
taken_ends : (ending : Ending) (state : RunState) → is_taken state ≡ true → ended_if_taken ending state ≡ Ended ending
taken_ends ending Waiting h = cc
taken_ends ending Queued h = cc
taken_ends ending Taken h = refl
taken_ends ending (Ended earlier) h = cc
taken_ends ending Withdrawn h = cc

module _ (now : ℕ) (ending : Ending) (run : RunRow) where
  -- the states after the event
  abbrev into : RunRow → RunState
  into row = cond (is_run run.number row) (ended_if_taken ending row.state) row.state

  -- the moments at which runs ended
  abbrev ended_at : RunRow → Option ℕ
  ended_at row = cond (is_run run.number row) (Some now) row.ended

  -- the run itself
  alike_here : (row : RunRow) (b : Bool) → ended_if_taken ending row.state ≡ Ended ending
      → cond b (ended_run now ending row) row ≡ record row { state = cond b (ended_if_taken ending row.state) row.state; ended = cond b (Some now) row.ended }
  alike_here row true h = ap (λ (state : RunState). record row { state = state; ended = Some now }) (sym h)
  alike_here row false h = refl

  -- the other runs
  alike_elsewhere : (row : RunRow) (b : Bool) → b ≡ false
      → cond b (ended_run now ending row) row ≡ record row { state = cond b (ended_if_taken ending row.state) row.state; ended = cond b (Some now) row.ended }
  alike_elsewhere row true h = cc
  alike_elsewhere row false h = refl

-- a taken run ends
pub consistent_run : (seats : ℕ) (s : State) (ending : Ending) (run : RunRow) → IsConsistent seats s → find (is_run run.number) s.runs ≡ Some run
    → is_taken run.state ≡ true → IsConsistent seats (change_runs (is_run run.number) (ended_run s.moment ending) s)
consistent_run seats s ending run h found taken =
    let runs : map (λ row. cond (is_run run.number row) (ended_run s.moment ending row) row) s.runs ≡ map after s.runs =
    map_found same_run same_run_equiv (λ row. cond (is_run run.number row) (ended_run s.moment ending row) row) after (is_run run.number)
    (is_run run.number) run s.runs
    (λ row k. k)
    (alike_here s.moment ending run run (is_run run.number run) (taken_ends ending run.state taken))
    (λ row. alike_elsewhere s.moment ending run row (is_run run.number row))
    h.keys.runs found
    in
    subst (λ (rows : List RunRow). IsConsistent seats (record s { runs = rows })) (sym runs)
    (consistent_moved (into s.moment ending run) (λ row. row.taken) (ended_at s.moment ending run)
    (λ row. moves_if (is_run run.number row) row.state (ended_if_taken ending row.state) (moves_ended ending row.state)) seats s h)
  where
    after : RunRow → RunRow
    after = moved (into s.moment ending run) (λ row. row.taken) (ended_at s.moment ending run)
