-- What is said of start tasks stays so when runs change, when runs, nodes and pools are added, and when a pool changes.
use Rattle.std.proofs.Common.{◌≡◌, ℕ, ◌+◌, ◌≤◌, Bool, true, false, not, ◌&&◌, ◌||◌, nat_eq, nat_lt, List, ◌∷◌, ◌++◌, [], cond, count_by, refl, arith}
use Rattle.std.specs.List.{list_any, list_all}
use Rattle.std.proofs.lemmas.Bool.Decides.{nat_tests}
use Rattle.batch_model.specs.Rows.{is_pool, add_node_row, add_run_row}
use Rattle.batch_model.specs.Runs.{is_start}
use Rattle.batch_model.specs.Nodes.{is_usable}
use Rattle.batch_model.specs.Pools.{waits_for_start}
use Rattle.batch_model.specs.Sound.{StartsAreSound, has_ended_well, has_started, awaits_no_start, has_usable_start}
use Rattle.batch_model.specs.WellFormed.{is_unended_start_on, has_few_tries, has_pool_row}
use Rattle.batch_model.specs.Finding.{Each}
use Rattle.batch_model.specs.Variants.{State, PoolRow, NodeRow, RunRow}
use Rattle.model_lists.proofs.RowLists.{each_append, each_weaker, each_of_two, any_append_old}
use Rattle.model_lists.proofs.RowSums.{count_append}

-- the number of these runs that are unended start runs on the node
abbrev pub starts_on : List RunRow → ℕ → ℕ
starts_on runs node = count_by (is_unended_start_on node) runs

-- the run is a start run on the node, and ended with code 0
abbrev pub is_good_start : ℕ → RunRow → Bool
is_good_start node run = nat_eq run.node node && is_start run.kind && has_ended_well run.state

-- a start run among these ended on the node with code 0
abbrev pub started_among : List RunRow → ℕ → Bool
started_among runs node = list_any (is_good_start node) runs

-- a test beside others from which another follows
or_later : (a b c : Bool) → (b ≡ true → c ≡ true) → (a || b) ≡ true → (a || c) ≡ true
or_later true b c give h = refl
or_later false b c give h = give h

-- the same of the second of three
or_later_second : (a b c d : Bool) → (b ≡ true → c ≡ true) → ((a || b) || d) ≡ true → ((a || c) || d) ≡ true
or_later_second true b c d give h = refl
or_later_second false true c d give h = rw (give refl) refl
or_later_second false false true d give h = refl
or_later_second false false false d give h = h

-- fewer together with the same number
pub few_still : (tries more less next : ℕ) → less ≤ more → nat_lt (tries + more) next ≡ true → nat_lt (tries + less) next ≡ true
few_still tries more less next h k = grind (arith, nat_tests)

-- one more at most, and a next number that is one higher
pub few_next : (tries count after next : ℕ) (b : Bool) → after ≡ count + cond b 1 0 → nat_lt (tries + count) next ≡ true → nat_lt (tries + after) (next + 1) ≡ true
few_next tries count after next true h k = grind (arith, nat_tests)
few_next tries count after next false h k = grind (arith, nat_tests)

-- runs change: no node has more unended start runs, and a start run that ended with code 0 stays such
pub starts_with_runs : (s : State) (runs : List RunRow) → ((node : ℕ) → starts_on runs node ≤ starts_on s.runs node)
    → ((node : ℕ) → started_among s.runs node ≡ true → started_among runs node ≡ true) → StartsAreSound s → StartsAreSound (record s { runs = runs })
starts_with_runs s runs fewer still h = record {
  usable =
      each_weaker (has_usable_start s) (has_usable_start (record s { runs = runs }))
      (λ node. or_later (not (is_usable node.stage) || awaits_no_start s node.pool) (started_among s.runs node.number) (started_among runs node.number)
      (still node.number))
      s.nodes h.usable;
  tries =
      each_weaker (has_few_tries s) (has_few_tries (record s { runs = runs }))
      (λ node. few_still node.tries (starts_on s.runs node.number) (starts_on runs node.number) s.next_run (fewer node.number))
      s.nodes h.tries;
}

-- a run is added, of whatever kind: it raises the next number too
pub starts_run_added : (s : State) (run : RunRow) → StartsAreSound s → StartsAreSound (add_run_row run s)
starts_run_added s run h = record {
  usable =
      each_weaker (has_usable_start s) (has_usable_start (add_run_row run s))
      (λ node. or_later (not (is_usable node.stage) || awaits_no_start s node.pool) (started_among s.runs node.number)
      (started_among (s.runs ++ run ∷ []) node.number)
      (any_append_old (is_good_start node.number) s.runs run))
      s.nodes h.usable;
  tries =
      each_weaker (has_few_tries s) (has_few_tries (add_run_row run s))
      (λ node. few_next node.tries (starts_on s.runs node.number) (starts_on (s.runs ++ run ∷ []) node.number) s.next_run (is_unended_start_on node.number run)
      (count_append (is_unended_start_on node.number) s.runs run))
      s.nodes h.tries;
}

-- a node is added of which the same can be said
pub starts_node_added : (s : State) (node : NodeRow) → has_usable_start s node ≡ true → has_few_tries s node ≡ true → StartsAreSound s
    → StartsAreSound (add_node_row node s)
starts_node_added s node usable few h = record {
  usable = each_append (has_usable_start s) s.nodes node h.usable usable;
  tries = each_append (has_few_tries s) s.nodes node h.tries few;
}

-- no start task is waited for in the pool, among these
abbrev pub none_awaited : List PoolRow → List ℕ → Bool
none_awaited pools id = list_all (λ row. not (is_pool id row && waits_for_start row)) pools

-- pools change: where nodes are and no start task is waited for, none is afterwards
pub starts_with_pools : (s : State) (pools : List PoolRow) → Each (λ (node : NodeRow). has_pool_row s node.pool) s.nodes
    → ((id : List ℕ) → has_pool_row s id ≡ true → awaits_no_start s id ≡ true → none_awaited pools id ≡ true) → StartsAreSound s
    → StartsAreSound (record s { pools = pools })
starts_with_pools s pools there still h = record {
  usable =
      each_of_two (λ (node : NodeRow). has_pool_row s node.pool) (has_usable_start s) (has_usable_start (record s { pools = pools }))
      (λ node e. or_later_second (not (is_usable node.stage)) (awaits_no_start s node.pool) (none_awaited pools node.pool) (has_started s node.number)
      (still node.pool e))
      s.nodes there h.usable;
  tries = h.tries;
}
