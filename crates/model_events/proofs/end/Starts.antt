-- A run that ends, which may be a start run, leaves what is said of start tasks.
use Rattle.std.proofs.Common.{◌≡◌, ℕ, ◌+◌, ◌≤◌, ◌<◌, Bool, true, false, not, ◌&&◌, ◌||◌, nat_eq, nat_lt, List, Option, Some, None, ◌⊎◌, inl, inr, refl, sym}
use Rattle.std.proofs.Common.{◌∙◌, ap, subst, arith}
use Rattle.std.specs.Option.{option_map}
use Rattle.std.specs.List.{find}
use Rattle.std.specs.Cmp.{nat_eq_equiv}
use Rattle.std.proofs.lemmas.Bool.Decides.{nat_tests, Decides-eqb}
use Rattle.bt_rows.specs.Keys.{same_run, same_run_equiv}
use Rattle.bt_rows.specs.Lists.{AreDistinct}
use Rattle.batch_model.specs.Finding.{change_where, at_row}
use Rattle.batch_model.specs.Rows.{is_run, is_node, node_of, change_runs}
use Rattle.batch_model.specs.Runs.{is_taken, is_unended, is_start, start_run}
use Rattle.batch_model.specs.Nodes.{is_usable}
use Rattle.batch_model.specs.Endings.{is_success}
use Rattle.batch_model.specs.Events.{ended_run}
use Rattle.batch_model.specs.Starts.{is_tried_again, usable_in, failed_in, counted_node, change_node, start_failed, start_of, start_ended_at, start_ended_in, start_ended}
use Rattle.batch_model.specs.Sound.{StartsAreSound, has_ended_well, awaits_no_start, has_usable_start}
use Rattle.batch_model.specs.WellFormed.{is_unended_start_on, has_few_tries}
use Rattle.batch_model.specs.Variants.{State, NodeRow, NodeStage, Starting, Usable, StartFailed, Leaving, StartTask, Ending, RunRow}
use Rattle.batch_model.specs.Variants.{RunState, Waiting, Queued, Taken, Ended, Withdrawn}
use Rattle.model_lists.proofs.Tests.{passes_or_not, and_true, and_second, asked}
use Rattle.model_lists.proofs.RowLists.{each_any, find_test, any_found}
use Rattle.model_lists.proofs.RowSums.{count_change_at_most, count_change_less}
use Rattle.model_lists.proofs.ChangedRows.{changed, each_change, any_change_where, find_change}
use Rattle.model_lists.proofs.DistinctLists.{each_with_key}
use Rattle.model_tables.proofs.StartsKept.{starts_on, is_good_start, started_among, starts_with_runs, starts_run_added}

-- a taken run has not ended with code 0
taken_not_well : (state : RunState) → is_taken state ≡ true → has_ended_well state ≡ true → is_unended state ≡ false
taken_not_well Waiting h k = cc
taken_not_well Queued h k = cc
taken_not_well Taken h k = cc
taken_not_well (Ended ending) h k = cc
taken_not_well Withdrawn h k = cc

-- it has not ended
taken_unended : (state : RunState) → is_taken state ≡ true → is_unended state ≡ true
taken_unended Waiting h = refl
taken_unended Queued h = refl
taken_unended Taken h = refl
taken_unended (Ended ending) h = cc
taken_unended Withdrawn h = cc

-- no state that has ended is unended
none_unended : (start on : Bool) → ((start && false) && on) ≡ false
none_unended true on = refl
none_unended false on = refl

-- tests of a node: whether it is usable before and after, whether no start task is waited for, and whether one ended
-- there with code 0, before and after
still_started : (usable after waits started ended : Bool) → (after ≡ true → (usable ≡ true) ⊎ (ended ≡ true)) → (started ≡ true → ended ≡ true)
    → ((not usable || waits) || started) ≡ true → ((not after || waits) || ended) ≡ true
still_started usable false waits started ended give on h = refl
still_started usable true true started ended give on h = refl
still_started usable true false started true give on h = refl
still_started true true false started false give on h = on h
still_started false true false started false give on h = elim (give refl) [
  | inl e ↦ cc
  | inr e ↦ cc
]

-- failures and unended start runs that are together no more
few_after : (tries count before among next : ℕ) → tries + count ≤ before + among → nat_lt (before + among) next ≡ true → nat_lt (tries + count) next ≡ true
few_after tries count before among next h k = grind (arith, nat_tests)

-- the node with another stage and another count of failures
abbrev restaged : (NodeStage → NodeStage) → (ℕ → ℕ) → NodeRow → NodeRow
restaged staged counted node = record node { stage = staged node.stage; tries = counted node.tries }

-- a node whose start task failed for the last time is usable only if it was
failed_usable : (stage : NodeStage) → is_usable (failed_in stage) ≡ true → is_usable stage ≡ true
failed_usable Starting h = cc
failed_usable Usable h = refl
failed_usable StartFailed h = cc
failed_usable (Leaving option) h = cc

module _ (s : State) (ending : Ending) (run : RunRow) (keys : AreDistinct same_run s.runs) (found : find (is_run run.number) s.runs ≡ Some run)
    (taken : is_taken run.state ≡ true) where
  -- the runs after the event
  abbrev ended_runs : List RunRow
  ended_runs = change_where (is_run run.number) (ended_run s.moment ending) s.runs

  -- the tables before the node changes
  abbrev with_ended : State
  with_ended = change_runs (is_run run.number) (ended_run s.moment ending) s

  -- a row with the number of the taken run is taken
  abbrev taken_if_it : RunRow → Bool
  taken_if_it row = not (is_run run.number row) || is_taken row.state

  -- the ended run is no unended start run
  not_on : (node : ℕ) (row : RunRow) → is_unended_start_on node (ended_run s.moment ending row) ≡ false
  not_on node row = none_unended (is_start row.kind) (nat_eq row.node node)

  start_before : (node : ℕ) (row : RunRow) → is_unended_start_on node (ended_run s.moment ending row) ≡ true → is_unended_start_on node row ≡ true
  start_before node row k = let e : is_unended_start_on node (ended_run s.moment ending row) ≡ false = not_on node row in cc

  -- so no node has more of them
  fewer : (node : ℕ) → starts_on ended_runs node ≤ starts_on s.runs node
  fewer node =
      count_change_at_most (is_run run.number) (ended_run s.moment ending) (λ row. true) (is_unended_start_on node)
      (λ row a t. start_before node row) s.runs (each_any (λ row. true) (λ row. refl) s.runs)

  -- the node of a start run has one less
  one_fewer : is_start run.kind ≡ true → starts_on ended_runs run.node < starts_on s.runs run.node
  one_fewer start =
      count_change_less (is_run run.number) (ended_run s.moment ending) (is_unended_start_on run.node) (λ row t. start_before run.node row)
      run s.runs found (nat_eq_equiv.refl run.number)
      (and_true (and_true start (taken_unended run.state taken)) (nat_eq_equiv.refl run.node))
      (not_on run.node run)

  -- it has not ended with code 0 before
  good_after : (node : ℕ) (row : RunRow) → taken_if_it row ≡ true → is_run run.number row ≡ true → is_good_start node row ≡ true
      → is_good_start node (ended_run s.moment ending row) ≡ true
  good_after node row a t k =
      let now_taken : is_taken row.state ≡ true = asked (is_run run.number row) (is_taken row.state) a t in
      let over : is_unended row.state ≡ false = taken_not_well row.state now_taken (and_second _ (has_ended_well row.state) k) in
      let unended : is_unended row.state ≡ true = taken_unended row.state now_taken in
      cc

  -- a start run that ended with code 0 stays such
  still : (node : ℕ) → started_among s.runs node ≡ true → started_among ended_runs node ≡ true
  still node =
      any_change_where (is_run run.number) (ended_run s.moment ending) taken_if_it (is_good_start node) (good_after node) s.runs
      (each_with_key same_run same_run_equiv (λ (row : RunRow). is_taken row.state) run run s.runs keys found taken)

  -- the run itself is found after the event
  found_ended : find (is_run run.number) ended_runs ≡ Some (ended_run s.moment ending run)
  found_ended =
      let e : find (is_run run.number) ended_runs ≡ option_map (changed (is_run run.number) (ended_run s.moment ending)) (find (is_run run.number) s.runs) =
      find_change (is_run run.number) (ended_run s.moment ending) (is_run run.number) (λ row t. refl) s.runs
      in
      let here : is_run run.number run ≡ true = nat_eq_equiv.refl run.number in
      let itself : changed (is_run run.number) (ended_run s.moment ending) run ≡ ended_run s.moment ending run = rw here refl in
      e ∙ ap (option_map (changed (is_run run.number) (ended_run s.moment ending))) found ∙ ap (λ row. Some row) itself

  -- a start run that ends with code 0 is such
  ended_well : is_start run.kind ≡ true → is_success ending ≡ true → started_among ended_runs run.node ≡ true
  ended_well start success =
      any_found (is_good_start run.node) (is_run run.number) (ended_run s.moment ending run) ended_runs found_ended
      (and_true (and_true (nat_eq_equiv.refl run.node) start) success)

  module _ (h : StartsAreSound s) where
    -- the run alone
    pub starts_run_ended : StartsAreSound with_ended
    starts_run_ended = starts_with_runs s ended_runs fewer still h

    module _ (node : NodeRow) (start : is_start run.kind ≡ true) (on : is_node run.node node ≡ true) where
      -- a row with the number of the node has that of the run's
      its_number : (row : NodeRow) → is_node node.number row ≡ true → row.number ≡ run.node
      its_number row t = (Decides-eqb row.number node.number).0 t ∙ (Decides-eqb node.number run.node).0 on

      -- the run, and the stage and the failures of its node
      starts_restaged : (staged : NodeStage → NodeStage) (counted : ℕ → ℕ) → ((n : ℕ) → counted n ≤ n + 1)
          → ((stage : NodeStage) → is_usable (staged stage) ≡ true → (is_usable stage ≡ true) ⊎ (started_among ended_runs run.node ≡ true))
          → StartsAreSound (change_node node (restaged staged counted) with_ended)
      starts_restaged staged counted raises give = record {
        usable =
            each_change (is_node node.number) (restaged staged counted) (has_usable_start s) (has_usable_start with_ended)
            (λ row t. usable_if row (staged row.stage)
            (λ u. subst (λ n. (is_usable row.stage ≡ true) ⊎ (started_among ended_runs n ≡ true)) (sym (its_number row t)) (give row.stage u)))
            (λ row t. usable_if row row.stage (λ u. inl u))
            s.nodes h.usable;
        tries =
            each_change (is_node node.number) (restaged staged counted) (has_few_tries s) (has_few_tries with_ended)
            (λ row t. few_after (counted row.tries) (starts_on ended_runs row.number) row.tries (starts_on s.runs row.number) s.next_run (one_more row t))
            (λ row t. few_after row.tries (starts_on ended_runs row.number) row.tries (starts_on s.runs row.number) s.next_run (no_more row))
            s.nodes h.tries;
      }
        where
          usable_if : (row : NodeRow) (stage : NodeStage)
              → (is_usable stage ≡ true → (is_usable row.stage ≡ true) ⊎ (started_among ended_runs row.number ≡ true)) → has_usable_start s row ≡ true
              → has_usable_start with_ended (record row { stage = stage }) ≡ true
          usable_if row stage gives =
              still_started (is_usable row.stage) (is_usable stage) (awaits_no_start s row.pool) (started_among s.runs row.number)
              (started_among ended_runs row.number) gives (still row.number)

          one_more : (row : NodeRow) → is_node node.number row ≡ true
              → counted row.tries + starts_on ended_runs row.number ≤ row.tries + starts_on s.runs row.number
          one_more row t =
              let less : starts_on ended_runs row.number < starts_on s.runs row.number =
              subst (λ n. starts_on ended_runs n < starts_on s.runs n) (sym (its_number row t)) (one_fewer start)
              in
              let once : counted row.tries ≤ row.tries + 1 = raises row.tries in
              omega arith

          no_more : (row : NodeRow) → row.tries + starts_on ended_runs row.number ≤ row.tries + starts_on s.runs row.number
          no_more row = let less : starts_on ended_runs row.number ≤ starts_on s.runs row.number = fewer row.number in omega arith

      -- a failure: the start task is run again, or it was the last one
      starts_failed : (begins : Option StartTask) → StartsAreSound (at_row (start_failed node) begins with_ended)
      starts_failed None = starts_run_ended
      starts_failed (Some begin) = elim (passes_or_not (is_tried_again with_ended (node.tries + 1) begin)) [
        | inl e ↦
            rw e
            (starts_run_added (change_node node counted_node with_ended) (start_run with_ended node begin)
            (starts_restaged (λ stage. stage) (λ n. n + 1) (λ n. omega arith) (λ stage u. inl u)))
        | inr e ↦ rw e (starts_restaged failed_in (λ n. n + 1) (λ n. omega arith) (λ stage u. inl (failed_usable stage u)))
      ]

      -- the end of a start run on a node that doesn't leave
      starts_ended_at : StartsAreSound (start_ended_at node ending with_ended)
      starts_ended_at = elim (passes_or_not (is_success ending)) [
        | inl e ↦ rw e (starts_restaged usable_in (λ n. n) (λ n. omega arith) (λ stage u. inr (ended_well start e)))
        | inr e ↦ rw e (starts_failed (start_of with_ended node))
      ]

      -- on a node at whatever stage
      starts_ended_in : (stage : NodeStage) → StartsAreSound (start_ended_in stage node ending with_ended)
      starts_ended_in Starting = starts_ended_at
      starts_ended_in Usable = starts_ended_at
      starts_ended_in StartFailed = starts_ended_at
      starts_ended_in (Leaving option) = starts_run_ended

    -- the end of a start run, whose node may be gone
    start_run_ended : is_start run.kind ≡ true → (node : Option NodeRow) → node_of with_ended run.node ≡ node
        → StartsAreSound (at_row (λ (row : NodeRow). start_ended_in row.stage row ending) node with_ended)
    start_run_ended start None e = starts_run_ended
    start_run_ended start (Some node) e = starts_ended_in node start (find_test (is_node run.node) node s.nodes e) node.stage

    -- a start run ends
    pub starts_ended : is_start run.kind ≡ true → StartsAreSound (start_ended run ending with_ended)
    starts_ended start = start_run_ended start (node_of with_ended run.node) refl
