-- A run that is taken leaves what is said of start tasks.
use Rattle.std.proofs.Common.{◌≡◌, ℕ, Bool, true, false, not, ◌||◌, nat_eq, Some, refl}
use Rattle.std.specs.List.{find}
use Rattle.bt_rows.specs.Keys.{same_run, same_run_equiv}
use Rattle.bt_rows.specs.Lists.{AreDistinct}
use Rattle.batch_model.specs.Finding.{Each, change_where}
use Rattle.batch_model.specs.Rows.{is_run, change_runs}
use Rattle.batch_model.specs.Runs.{is_queued, is_unended, is_start}
use Rattle.batch_model.specs.Events.{taken_run, run_taken}
use Rattle.batch_model.specs.Sound.{StartsAreSound, has_ended_well}
use Rattle.batch_model.specs.WellFormed.{is_unended_start_on}
use Rattle.batch_model.specs.Variants.{State, RunRow, RunState, Waiting, Queued, Taken, Ended, Withdrawn}
use Rattle.model_lists.proofs.Tests.{and_true, and_first, and_second, asked}
use Rattle.model_lists.proofs.RowSums.{count_change_at_most}
use Rattle.model_lists.proofs.ChangedRows.{any_change_where}
use Rattle.model_lists.proofs.DistinctLists.{each_with_key}
use Rattle.model_tables.proofs.StartsKept.{is_good_start, starts_with_runs}

-- a queued run has not ended with code 0
queued_not_well : (state : RunState) → is_queued state ≡ true → has_ended_well state ≡ true → is_unended state ≡ false
queued_not_well Waiting h k = cc
queued_not_well Queued h k = cc
queued_not_well Taken h k = cc
queued_not_well (Ended ending) h k = cc
queued_not_well Withdrawn h k = cc

-- it has not ended
queued_unended : (state : RunState) → is_queued state ≡ true → is_unended state ≡ true
queued_unended Waiting h = refl
queued_unended Queued h = refl
queued_unended Taken h = refl
queued_unended (Ended ending) h = cc
queued_unended Withdrawn h = cc

module _ (s : State) (run : RunRow) (keys : AreDistinct same_run s.runs) (found : find (is_run run.number) s.runs ≡ Some run)
    (queued : is_queued run.state ≡ true) where
  -- a row with the number of the queued run is queued
  abbrev queued_if_it : RunRow → Bool
  queued_if_it row = not (is_run run.number row) || is_queued row.state

  each_queued : Each queued_if_it s.runs
  each_queued = each_with_key same_run same_run_equiv (λ (row : RunRow). is_queued row.state) run run s.runs keys found queued

  -- it has not ended before, if it has not ended afterwards
  start_before : (node : ℕ) (row : RunRow) → queued_if_it row ≡ true → is_run run.number row ≡ true → is_unended_start_on node (taken_run s.moment row) ≡ true
      → is_unended_start_on node row ≡ true
  start_before node row a t k =
      and_true
      (and_true (and_first (is_start row.kind) _ (and_first _ (nat_eq row.node node) k))
      (queued_unended row.state (asked (is_run run.number row) (is_queued row.state) a t))) (and_second _ (nat_eq row.node node) k)

  -- it has not ended with code 0
  good_after : (node : ℕ) (row : RunRow) → queued_if_it row ≡ true → is_run run.number row ≡ true → is_good_start node row ≡ true
      → is_good_start node (taken_run s.moment row) ≡ true
  good_after node row a t k =
      let now_queued : is_queued row.state ≡ true = asked (is_run run.number row) (is_queued row.state) a t in
      let over : is_unended row.state ≡ false = queued_not_well row.state now_queued (and_second _ (has_ended_well row.state) k) in
      let unended : is_unended row.state ≡ true = queued_unended row.state now_queued in
      cc

  -- a queued run is taken, and its task starts
  pub starts_taken : StartsAreSound s → StartsAreSound (run_taken s run)
  starts_taken h =
      let runs : StartsAreSound (change_runs (is_run run.number) (taken_run s.moment) s) =
      starts_with_runs s (change_where (is_run run.number) (taken_run s.moment) s.runs)
      (λ node. count_change_at_most (is_run run.number) (taken_run s.moment) queued_if_it (is_unended_start_on node) (start_before node) s.runs each_queued)
      (λ node. any_change_where (is_run run.number) (taken_run s.moment) queued_if_it (is_good_start node) (good_after node) s.runs each_queued)
      h
      in
      record { usable = runs.usable; tries = runs.tries }
