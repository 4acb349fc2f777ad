-- How many nodes of a pool stay and how many are leaving, on which the rank rests: what changes if a node is added, leaves or is dropped.
use Rattle.std.proofs.Common.{◌≡◌, ℕ, ◌+◌, ◌≤◌, ◌<◌, Bool, true, false, not, ◌&&◌, ◌||◌, List, [], ◌∷◌, Some, cond, filter, find, sum_by, refl}
use Rattle.std.proofs.Common.{◌∙◌, ap, subst, arith}
use Rattle.std.specs.List.{list_any, list_all}
use Rattle.std.specs.Cmp.{IsEquivalence}
use Rattle.std.proofs.lemmas.List.Sums.{sum_by-cons}
use Rattle.bt_base.proofs.SameIds.{same_equiv}
use Rattle.bt_rows.specs.Keys.{same_pool, same_pool_equiv, same_node, same_node_equiv}
use Rattle.bt_rows.specs.Lists.{AreDistinct}
use Rattle.bt_rows.proofs.DistinctRows.{found_first}
use Rattle.batch_model.specs.Finding.{Each}
use Rattle.batch_model.specs.Rows.{is_node, add_node_row, change_nodes}
use Rattle.batch_model.specs.Nodes.{is_leaving, is_in_pool, stays}
use Rattle.batch_model.specs.Pools.{staying_count}
use Rattle.batch_model.specs.PoolEvents.{is_leaving_from}
use Rattle.batch_model.specs.Leaving.{leaving_by}
use Rattle.batch_model.specs.Dues.{drop_node}
use Rattle.batch_model.specs.Measure.{leaving_count}
use Rattle.batch_model.specs.Variants.{State, PoolRow, NodeRow, Dealloc}
use Rattle.model_lists.proofs.RowLists.{each_weaker, any_none}
use Rattle.model_lists.proofs.RowSums.{count_append, sum_less_where}
use Rattle.model_lists.proofs.DistinctLists.{each_with_key}
use Rattle.model_lists.proofs.KeyedLists.{put_is_change, sum_by-put_row}

-- what is counted of a row
abbrev pub one_if : Bool → ℕ
one_if test = cond test 1 0

-- a row that passes counts one
pub counts_one : (test : Bool) → test ≡ true → one_if test ≡ 1
counts_one test h = rw h refl

-- another counts nothing
pub counts_nothing : (test : Bool) → test ≡ false → one_if test ≡ 0
counts_nothing test h = rw h refl

-- a test beside one that passes
and_on : (test : Bool) → (test && true) ≡ test
and_on true = refl
and_on false = refl

-- a test beside one that fails
and_off : (test : Bool) → (test && false) ≡ false
and_off true = refl
and_off false = refl

-- the row with a key is dropped

module _ {R : Type 0} (f : R → ℕ) where
  -- if each row is kept, the sum stays
  sum_all_kept : (keep : R → Bool) (xs : List R) → Each keep xs → sum_by f (filter keep xs) ≡ sum_by f xs
  sum_all_kept keep [] h = refl
  sum_all_kept keep (x ∷ xs) h = first (keep x) h (sum_all_kept keep xs)
    where
      first : (b : Bool) → (b && list_all keep xs) ≡ true → (Each keep xs → sum_by f (filter keep xs) ≡ sum_by f xs)
          → sum_by f (cond b (x ∷ filter keep xs) (filter keep xs)) ≡ sum_by f (x ∷ xs)
      first true k ih = rw (sum_by-cons f x (filter keep xs), sum_by-cons f x xs, ih k) refl
      first false k ih = cc

  module _ (same_key : R → R → Bool) (e : IsEquivalence same_key) (row : R) where
    dropped_cons : (x : R) (rest : List R) (b : Bool) → cond b (Some x) (find (λ y. same_key y row) rest) ≡ Some row → list_any (same_key x) rest ≡ false
        → (find (λ y. same_key y row) rest ≡ Some row → sum_by f (filter (λ y. not (same_key y row)) rest) + f row ≡ sum_by f rest)
        → sum_by f (cond (not b) (x ∷ filter (λ y. not (same_key y row)) rest) (filter (λ y. not (same_key y row)) rest)) + f row ≡ sum_by f (x ∷ rest)
    dropped_cons x rest true found alone ih =
        let i : x ≡ row = cc in
        let same_part : f x ≡ f row = ap f i in
        let others : Each (λ y. not (same_key y row)) rest =
        each_weaker (λ y. not (same_key x y)) (λ y. not (same_key y row)) (λ y n. subst (λ z. not (same_key y z) ≡ true) i (rw (e.symm y x) n)) rest
        (any_none (same_key x) rest alone)
        in
        let kept : sum_by f (filter (λ y. not (same_key y row)) rest) ≡ sum_by f rest = sum_all_kept (λ y. not (same_key y row)) rest others in
        rw (sum_by-cons f x rest) (omega (arith, kept, same_part))
    dropped_cons x rest false found alone ih =
        let kept : sum_by f (filter (λ y. not (same_key y row)) rest) + f row ≡ sum_by f rest = ih found in
        rw (sum_by-cons f x (filter (λ y. not (same_key y row)) rest), sum_by-cons f x rest) (omega (arith, kept))

    -- without the row with a key a sum has less by its part, if keys are distinct
    sum_without : (xs : List R) → AreDistinct same_key xs → find (λ y. same_key y row) xs ≡ Some row
        → sum_by f (filter (λ y. not (same_key y row)) xs) + f row ≡ sum_by f xs
    sum_without [] d h = cc
    sum_without (x ∷ rest) d h = dropped_cons x rest (same_key x row) h d.0 (sum_without rest d.1)

-- a node is added

module _ (s : State) (node : NodeRow) (id : List ℕ) where
  -- one stays more, if it is the pool's and stays
  pub staying_added : staying_count (add_node_row node s) id ≡ staying_count s id + one_if (stays id node)
  staying_added = count_append (stays id) s.nodes node

  -- one is leaving more, if it is the pool's and is leaving
  pub leaving_added : leaving_count (add_node_row node s) id ≡ leaving_count s id + one_if (is_leaving_from id node)
  leaving_added = count_append (is_leaving_from id) s.nodes node

module _ (s : State) (node : NodeRow) (keys : AreDistinct same_node s.nodes) (there : find (λ other. same_node other node) s.nodes ≡ Some node) where
  -- a node leaves

  sum_left : (option : Dealloc) (f : NodeRow → ℕ)
      → sum_by f (change_nodes (is_node node.number) (leaving_by option) s).nodes + f node ≡ sum_by f s.nodes + f (leaving_by option node)
  sum_left option f =
      rw (← put_is_change same_node same_node_equiv node s.nodes keys there (leaving_by option) (λ x. refl))
      (sum_by-put_row same_node same_node_equiv node s.nodes keys there f (leaving_by option node) (λ x. refl))

  -- one stays less, if it was the pool's and stayed
  pub staying_left : (option : Dealloc) (id : List ℕ)
      → staying_count (change_nodes (is_node node.number) (leaving_by option) s) id + one_if (stays id node) ≡ staying_count s id
  staying_left option id =
      let total = sum_left option (λ other. one_if (stays id other)) in
      let none : one_if (stays id (leaving_by option node)) ≡ 0 = counts_nothing (stays id (leaving_by option node)) (and_off (is_in_pool id node)) in
      omega (arith, total, none)

  -- one is leaving more, if it is the pool's
  pub leaving_left : (option : Dealloc) (id : List ℕ)
      → leaving_count (change_nodes (is_node node.number) (leaving_by option) s) id + one_if (is_leaving_from id node)
      ≡ leaving_count s id + one_if (is_in_pool id node)
  leaving_left option id =
      let total = sum_left option (λ other. one_if (is_leaving_from id other)) in
      let one : one_if (is_leaving_from id (leaving_by option node)) ≡ one_if (is_in_pool id node) = ap one_if (and_on (is_in_pool id node)) in
      omega (arith, total, one)

  -- a node is dropped

  -- one stays less, if it was the pool's and stayed
  pub staying_dropped : (id : List ℕ) → staying_count (drop_node node s) id + one_if (stays id node) ≡ staying_count s id
  staying_dropped id = sum_without (λ other. one_if (stays id other)) same_node same_node_equiv node s.nodes keys there

  -- one is leaving less, if it was the pool's and was leaving
  pub leaving_dropped : (id : List ℕ) → leaving_count (drop_node node s) id + one_if (is_leaving_from id node) ≡ leaving_count s id
  leaving_dropped id = sum_without (λ other. one_if (is_leaving_from id other)) same_node same_node_equiv node s.nodes keys there

-- what a node counts for a pool

module _ (node : NodeRow) (id : List ℕ) where
  -- a node that is not leaving counts as one that stays
  pub counts_staying : is_leaving node.stage ≡ false → one_if (stays id node) ≡ one_if (is_in_pool id node)
  counts_staying h = rw h (ap one_if (and_on (is_in_pool id node)))

  -- and not as one that is leaving
  pub counts_no_leaving : is_leaving node.stage ≡ false → one_if (is_leaving_from id node) ≡ 0
  counts_no_leaving h = rw h (ap one_if (and_off (is_in_pool id node)))

  -- a node that is leaving counts as such
  pub counts_leaving : is_leaving node.stage ≡ true → one_if (is_leaving_from id node) ≡ one_if (is_in_pool id node)
  counts_leaving h = rw h (ap one_if (and_on (is_in_pool id node)))

  -- and not as one that stays
  pub counts_no_staying : is_leaving node.stage ≡ true → one_if (stays id node) ≡ 0
  counts_no_staying h = rw h (ap one_if (and_off (is_in_pool id node)))

-- a node of a pool is one of another row's pool just if that row has the same id
pub in_pool_as : (node : NodeRow) (pool other : PoolRow) → is_in_pool pool.id node ≡ true → is_in_pool other.id node ≡ same_pool other pool
in_pool_as node pool other h = same_equiv.congr node.pool pool.id other.id h ∙ same_equiv.symm pool.id other.id

-- a sum over pools falls if it does at the rows with the id of one that is found, which pass a test as that one does, and is higher at
-- no other
pub pools_fall : (f g : PoolRow → ℕ) (q test : PoolRow → Bool) (pool : PoolRow) (pools : List PoolRow) → AreDistinct same_pool pools
    → find test pools ≡ Some pool → q pool ≡ true → ((other : PoolRow) → same_pool other pool ≡ false → f other ≤ g other)
    → ((other : PoolRow) → same_pool other pool ≡ true → q other ≡ true → f other < g other) → sum_by f pools < sum_by g pools
pools_fall f g q test pool pools keys found passes elsewhere here =
    sum_less_where (λ other. not (same_pool other pool) || q other) f g (λ other. at_most other (same_pool other pool) refl) test pool pools
    (each_with_key same_pool same_pool_equiv q pool pool pools keys (found_first same_pool same_pool_equiv test pool pools keys found) passes) found
    (here pool (same_pool_equiv.refl pool) passes)
  where
    at_most : (other : PoolRow) (b : Bool) → same_pool other pool ≡ b → (not b || q other) ≡ true → f other ≤ g other
    at_most other true e k = let less = here other e k in omega (arith, less)
    at_most other false e k = elsewhere other e
