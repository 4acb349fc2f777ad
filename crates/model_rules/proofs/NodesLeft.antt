-- Of a resizing pool with more nodes than its target one leaves: the tables stay sound, and the rank falls.
use Rattle.std.proofs.Common.{◌≡◌, ℕ, ◌+◌, ◌≤◌, ◌<◌, Bool, true, false, not, nat_lt, Some, find, refl, ap, arith, subst}
use Rattle.std.specs.List.{find}
use Rattle.std.proofs.lemmas.Bool.Decides.{Decides-ltb}
use Rattle.bt_base.proofs.Turns.{lex_lt, lex_first, lex_next}
use Rattle.bt_rows.specs.Keys.{same_pool, same_node, same_node_equiv}
use Rattle.bt_rows.specs.Lists.{AreDistinct}
use Rattle.batch_model.specs.Finding.{best}
use Rattle.batch_model.specs.Rows.{is_node, change_nodes}
use Rattle.batch_model.specs.Nodes.{is_leaving, is_in_pool, stays}
use Rattle.batch_model.specs.Pools.{is_resizing, staying, staying_count}
use Rattle.batch_model.specs.Leaving.{leaving_by, leave}
use Rattle.batch_model.specs.Dues.{leaves_before, has_too_many, node_leaves, one_leaves, remove_node}
use Rattle.batch_model.specs.Measure.{leaving_count, steps_of_pool, pools_left, rank}
use Rattle.batch_model.specs.Sound.{IsSound}
use Rattle.batch_model.specs.Steps.{DueStep}
use Rattle.batch_model.specs.Variants.{State, PoolRow, NodeRow, Dealloc, ByRequeue, ByTerminate, TaskCompletion, RetainedData}
use Rattle.model_lists.proofs.Tests.{and_first, and_second, not_true}
use Rattle.model_lists.proofs.RowLists.{find_test}
use Rattle.model_lists.proofs.KeptRows.{kept_pass}
use Rattle.model_tables.proofs.NodesLeave.{sound_left}
use Rattle.model_rules.proofs.NodeCounts.{one_if, counts_one, counts_nothing, staying_left, leaving_left, counts_staying, counts_no_leaving, in_pool_as, pools_fall}
use Rattle.model_rules.proofs.Rules.{IsDueKept, from_map, from_then}
use Rattle.model_rules.proofs.place.NodeChosen.{best_passes, best_first}

-- more nodes stay than the pool's target
abbrev stays_above : State → PoolRow → Bool
stays_above s pool = nat_lt pool.dedicated (staying_count s pool.id)

module _ (s : State) (pool : PoolRow) (node : NodeRow) (chosen : best (leaves_before s) (staying s pool.id) ≡ Some node) where
  -- the node that is chosen stays in the pool
  stays_there : stays pool.id node ≡ true
  stays_there = best_passes (leaves_before s) (stays pool.id) (staying s pool.id) node (kept_pass (stays pool.id) s.nodes) chosen

  -- it is not leaving yet
  not_leaving : is_leaving node.stage ≡ false
  not_leaving = not_true (is_leaving node.stage) (and_second (is_in_pool pool.id node) (not (is_leaving node.stage)) stays_there)

  module _ (keys : AreDistinct same_node s.nodes) (option : Dealloc) where
    -- it is the one with its number
    first : find (λ other. same_node other node) s.nodes ≡ Some node
    first = best_first same_node same_node_equiv (leaves_before s) (stays pool.id) s.nodes node keys chosen

    -- the tables with the node that leaves, before what is on it is stopped
    abbrev with_left : State
    with_left = change_nodes (is_node node.number) (leaving_by option) s

    module _ (other : PoolRow) where
      -- the node is another row's just if that is the pool's
      its : one_if (is_in_pool other.id node) ≡ one_if (same_pool other pool)
      its = ap one_if (in_pool_as node pool other (and_first (is_in_pool pool.id node) (not (is_leaving node.stage)) stays_there))

      -- in its pool one stays less
      fewer_stay : staying_count with_left other.id + one_if (same_pool other pool) ≡ staying_count s other.id
      fewer_stay = omega (arith, staying_left s node keys first option other.id, counts_staying node other.id not_leaving, its)

      -- and one is leaving more
      more_leave : leaving_count with_left other.id ≡ leaving_count s other.id + one_if (same_pool other pool)
      more_leave = omega (arith, leaving_left s node keys first option other.id, counts_no_leaving node other.id not_leaving, its)

      -- another pool has as many steps
      other_steps : same_pool other pool ≡ false → steps_of_pool with_left other ≤ steps_of_pool s other
      other_steps apart =
          let none : one_if (same_pool other pool) ≡ 0 = counts_nothing (same_pool other pool) apart in
          omega (arith, fewer_stay, more_leave, none)

      -- that pool has fewer
      fewer_steps : same_pool other pool ≡ true → stays_above s other ≡ true → steps_of_pool with_left other < steps_of_pool s other
      fewer_steps alike above =
          let one : one_if (same_pool other pool) ≡ 1 = counts_one (same_pool other pool) alike in
          let more : other.dedicated < staying_count s other.id = (Decides-ltb other.dedicated (staying_count s other.id)).0 above in
          omega (arith, fewer_stay, more_leave, one, more)

    -- over all pools there are fewer steps
    fewer_to_go : find (has_too_many s) s.pools ≡ Some pool → AreDistinct same_pool s.pools → pools_left with_left < pools_left s
    fewer_to_go found pool_keys =
        pools_fall (steps_of_pool with_left) (steps_of_pool s) (stays_above s) (has_too_many s) pool s.pools pool_keys found
        (and_second (is_resizing pool.alloc) (stays_above s pool) (find_test (has_too_many s) pool s.pools found)) other_steps fewer_steps

-- what is stopped on the node changes tasks, runs and preparations alone
leave_falls : (option : Dealloc) (test : NodeRow → Bool) (s : State) → pools_left (change_nodes test (leaving_by option) s) < pools_left s
    → lex_lt (rank (leave option test s)) (rank s) ≡ true
leave_falls ByRequeue test s fewer = lex_next _ _ _ _ (omega arith) (lex_next _ _ _ _ (omega arith) (lex_first _ _ _ _ fewer refl))
leave_falls ByTerminate test s fewer = lex_next _ _ _ _ (omega arith) (lex_next _ _ _ _ (omega arith) (lex_first _ _ _ _ fewer refl))
leave_falls TaskCompletion test s fewer = lex_next _ _ _ _ (omega arith) (lex_next _ _ _ _ (omega arith) (lex_first _ _ _ _ fewer refl))
leave_falls RetainedData test s fewer = lex_next _ _ _ _ (omega arith) (lex_next _ _ _ _ (omega arith) (lex_first _ _ _ _ fewer refl))

module _ (seats : ℕ) (s : State) (h : IsSound seats s) where
  -- the node that is chosen leaves
  leaves_kept : (pool : PoolRow) (node : NodeRow) → find (has_too_many s) s.pools ≡ Some pool → best (leaves_before s) (staying s pool.id) ≡ Some node
      → IsDueKept seats s (node_leaves s pool node)
  leaves_kept pool node found chosen = record {
    sound = sound_left seats pool.option (is_node node.number) s h;
    falls =
        leave_falls pool.option (is_node node.number) s
        (fewer_to_go s pool node chosen h.consistent.keys.nodes pool.option found h.consistent.keys.pools);
    places = tt;
    ends = tt;
    releases = tt;
  }

  -- U13
  pub remove_node_kept : (step : DueStep) → remove_node s ≡ Some step → IsDueKept seats s step
  remove_node_kept step e =
      let pool = from_then (one_leaves s) (find (has_too_many s) s.pools) step e in
      let node = from_map (node_leaves s pool.0) (best (leaves_before s) (staying s pool.0.id)) step pool.1 in
      subst (IsDueKept seats s) node.1 (leaves_kept pool.0 node.0 pool.2 node.2)
