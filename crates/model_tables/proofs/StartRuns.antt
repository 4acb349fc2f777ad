-- Start runs of consistent tables.
use Rattle.std.proofs.Common.{◌≡◌, Bool, true, false, not, ◌&&◌, ◌||◌, Some}
use Rattle.std.proofs.Common.{is_none, refl}
use Rattle.std.specs.List.{find}
use Rattle.bt_base.specs.Ids.{same}
use Rattle.batch_model.specs.Rows.{is_node}
use Rattle.batch_model.specs.Runs.{is_unended, is_start}
use Rattle.batch_model.specs.Sound.{has_node_while_unended, is_of_pool, fits_nodes, has_node_row}
use Rattle.batch_model.specs.Variants.{State, NodeRow, RunRow}
use Rattle.model_lists.proofs.Tests.{asked}
use Rattle.model_lists.proofs.RowLists.{each_found, find_test, find_any}

-- a start run that has not ended names no job and no task
pub start_names_none : (s : State) (run : RunRow) → is_start run.kind ≡ true → is_unended run.state ≡ true → has_node_while_unended s run ≡ true
    → fits_nodes s run ≡ true → (is_none run.job && is_none run.task) ≡ true
start_names_none s run start unended there fits =
    let node : (node : NodeRow) × (find (is_node run.node) s.nodes ≡ Some node) =
    find_any (is_node run.node) s.nodes (asked (is_unended run.state) (has_node_row s run.node) there unended)
    in
    let of_pool : is_of_pool run node.0 ≡ true = each_found (is_of_pool run) (is_node run.node) node.0 s.nodes node.1 fits in
    names_none (is_node run.node node.0) (same node.0.pool run.pool) (is_start run.kind) (is_none run.job && is_none run.task)
    (find_test (is_node run.node) node.0 s.nodes node.1) start of_pool
  where
    names_none : (on pool start none : Bool) → on ≡ true → start ≡ true → (not on || (pool && not (start && not none))) ≡ true → none ≡ true
    names_none true true true true h k m = refl
    names_none true true true false h k m = cc
    names_none true true false none h k m = cc
    names_none true false start none h k m = cc
    names_none false pool start none h k m = cc
