-- Runs of a preparation, and runs and tasks that wait for it: those that waited are queued.
use Rattle.std.proofs.Common.{[], ◌∷◌, is_none, ◌≡◌, ℕ, Bool, true, false, not, ◌&&◌, nat_eq, List, map, Option, Some, None, cond, refl, sym, ◌∙◌, ap, subst}
use Rattle.std.specs.List.{list_any}
use Rattle.std.specs.Option.{option_and_then}
use Rattle.std.specs.Cmp.{nat_eq_equiv}
use Rattle.bt_base.specs.Ids.{same}
use Rattle.bt_base.proofs.SameIds.{same_equiv}
use Rattle.batch_model.specs.Finding.{names}
use Rattle.batch_model.specs.Rows.{is_prep, prep_of, change_runs}
use Rattle.batch_model.specs.Runs.{is_run_of_task, is_unended, is_waiting, is_taken, is_start, is_at_prep, is_present}
use Rattle.batch_model.specs.Tasks.{is_in_job}
use Rattle.batch_model.specs.Preparing.{waits_on, queued, is_waiting_on}
use Rattle.batch_model.specs.Preparing.{prep_of_run}
use Rattle.batch_model.specs.Sound.{IsSound, IsConsistent, has_no_end_yet, has_ended_well}
use Rattle.batch_model.specs.Sound.{is_completed_prep, is_prepared_run, waits_in, is_work_begun}
use Rattle.batch_model.specs.WellFormed.{is_run_valid, is_unended_start_on}
use Rattle.batch_model.specs.Variants.{State, TaskRow, RunRow, RunState, Waiting, Queued, Taken, Ended, Withdrawn}
use Rattle.batch_model.specs.Variants.{PrepRow}
use Rattle.model_lists.proofs.Tests.{and_true, and_first, and_second, asked, or_second}
use Rattle.model_lists.proofs.RowLists.{each_any, any_weaker, find_test}
use Rattle.model_lists.proofs.ChangedRows.{each_change_same, any_change, changed}
use Rattle.model_lists.proofs.RowSums.{count_change_at_most}
use Rattle.model_tables.proofs.PrepsKept.{KeepsKind, preps_with_runs_by, rest_with_runs_by}
use Rattle.model_tables.proofs.RunsMove.{Moves, moves_same, moves_if, moved, consistent_moved}
use Rattle.model_tables.proofs.StartsKept.{is_good_start, starts_with_runs}
use Rattle.model_tables.proofs.JobsStopped.{jobs_together}

-- the preparation of a run is of its job, on its node
pub of_run : (s : State) (run : RunRow) (prep : PrepRow) → prep_of_run s run ≡ Some prep → is_at_prep prep run ≡ true
of_run s run prep e = by_name run.job e
  where
    by_name : (name : Option (List ℕ)) → option_and_then (λ job. prep_of s job run.node) name ≡ Some prep → (names name prep.job && nat_eq run.node prep.node) ≡ true
    by_name None k = cc
    by_name (Some job) k =
        let test : is_prep job run.node prep ≡ true = find_test (is_prep job run.node) prep s.preps k in
        and_true (same_equiv.symm job prep.job ∙ and_first (same prep.job job) _ test) (nat_eq_equiv.symm run.node prep.node ∙ and_second (same prep.job job) _ test)

-- a preparation with the key of another is at its runs
pub at_key : (prep other : PrepRow) (run : RunRow) → is_at_prep prep run ≡ true → is_prep prep.job prep.node other ≡ true → is_at_prep other run ≡ true
at_key prep other run h k =
    and_true (at_name run.job (and_first (names run.job prep.job) _ h) (and_first (same other.job prep.job) _ k))
    (nat_eq_equiv.symm run.node other.node ∙ (nat_eq_equiv.congr other.node prep.node run.node (and_second (same other.job prep.job) _ k)
    ∙ (nat_eq_equiv.symm prep.node run.node ∙ and_second (names run.job prep.job) _ h)))
  where
    at_name : (name : Option (List ℕ)) → names name prep.job ≡ true → same other.job prep.job ≡ true → names name other.job ≡ true
    at_name None n m = cc
    at_name (Some job) n m =
        same_equiv.symm job other.job ∙ (same_equiv.congr other.job prep.job job m ∙ (same_equiv.symm prep.job job ∙ n))

-- a taken run has not ended
pub taken_unended : (state : RunState) → is_taken state ≡ true → is_unended state ≡ true
taken_unended Waiting h = refl
taken_unended Queued h = refl
taken_unended Taken h = refl
taken_unended (Ended ending) h = cc
taken_unended Withdrawn h = cc

pub off_last : (a : Bool) → (a && false) ≡ false
off_last true = refl
off_last false = refl

-- tasks that have a run in common wait for the same preparations
pub waiting_together : (s : State) (prep : PrepRow) (one other : TaskRow) (run : RunRow) → is_present one run ≡ true → is_present other run ≡ true
    → is_waiting_on s prep one ≡ true → is_waiting_on s prep other ≡ true
waiting_together s prep one other run h k w =
    and_true (jobs_together prep.job one other run h k (and_first (is_in_job prep.job one) _ w))
    (any_weaker (λ each. is_present one each && waits_on prep each) (λ each. is_present other each && waits_on prep each)
    (λ each m. and_true (present_too each (and_first (is_present one each) (waits_on prep each) m)) (and_second (is_present one each) (waits_on prep each) m))
    s.runs (and_second (is_in_job prep.job one) _ w))
  where
    of_task : (task : TaskRow) (each : RunRow) → is_present task each ≡ true → is_run_of_task task.job task.id each ≡ true
    of_task task each e = and_first (is_run_of_task task.job task.id each) (nat_eq each.attempt task.attempt) e

    one_name : (name : Option (List ℕ)) (a b : List ℕ) → names name a ≡ true → names name b ≡ true → same a b ≡ true
    one_name None a b n m = cc
    one_name (Some id) a b n m = sym (same_equiv.congr id a b n) ∙ m

    renamed : (name : Option (List ℕ)) (a b : List ℕ) → names name a ≡ true → same a b ≡ true → names name b ≡ true
    renamed None a b n m = cc
    renamed (Some id) a b n m = same_equiv.congr id a b n ∙ m

    attempts : nat_eq one.attempt other.attempt ≡ true
    attempts =
        sym (nat_eq_equiv.congr run.attempt one.attempt other.attempt (and_second (is_run_of_task one.job one.id run) (nat_eq run.attempt one.attempt) h))
        ∙ and_second (is_run_of_task other.job other.id run) (nat_eq run.attempt other.attempt) k

    present_too : (each : RunRow) → is_present one each ≡ true → is_present other each ≡ true
    present_too each e =
        and_true
        (and_true
        (renamed each.job one.job other.job (and_first (names each.job one.job) _ (of_task one each e))
        (one_name run.job one.job other.job (and_first (names run.job one.job) _ (of_task one run h)) (and_first (names run.job other.job) _ (of_task other run k))))
        (renamed each.task one.id other.id (and_second (names each.job one.job) _ (of_task one each e))
        (one_name run.task one.id other.id (and_second (names run.job one.job) _ (of_task one run h)) (and_second (names run.job other.job) _ (of_task other run k)))))
        (nat_eq_equiv.congr each.attempt one.attempt other.attempt (and_second (is_run_of_task one.job one.id each) (nat_eq each.attempt one.attempt) e) ∙ attempts)

-- runs that waited are queued

-- a waiting run is queued, and others stay
abbrev queued_in : RunState → RunState
queued_in Waiting = Queued
queued_in Queued = Queued
queued_in Taken = Taken
queued_in (Ended ending) = Ended ending
queued_in Withdrawn = Withdrawn

-- so each state moves on
moves_queued : (state : RunState) → Moves state (queued_in state)
moves_queued Waiting = record { unended = λ h. refl; ends = λ h. refl; stays = λ h. h }
moves_queued Queued = moves_same Queued
moves_queued Taken = moves_same Taken
moves_queued (Ended ending) = moves_same (Ended ending)
moves_queued Withdrawn = moves_same Withdrawn

-- a run that waits has not ended
waiting_unended : (state : RunState) → is_waiting state ≡ true → is_unended state ≡ true
waiting_unended Waiting h = refl
waiting_unended Queued h = cc
waiting_unended Taken h = cc
waiting_unended (Ended ending) h = cc
waiting_unended Withdrawn h = cc

waiting_not_well : {P : Type 0} (state : RunState) → is_waiting state ≡ true → has_ended_well state ≡ true → P
waiting_not_well Waiting h k = cc
waiting_not_well Queued h k = cc
waiting_not_well Taken h k = cc
waiting_not_well (Ended ending) h k = cc
waiting_not_well Withdrawn h k = cc

module _ (seats : ℕ) (prep : PrepRow) (s : State) (h : IsSound seats s)
    (there : list_any (λ (other : PrepRow). is_prep prep.job prep.node other && is_completed_prep other) s.preps ≡ true) where
  -- the states after that
  abbrev into : RunRow → RunState
  into row = cond (is_at_prep prep row) (queued_in row.state) row.state

  -- the runs after that
  abbrev later : RunRow → RunRow
  later = moved into (λ row. row.taken) (λ row. row.ended)

  alike : (row : RunRow) (state : RunState) (b : Bool) → row.state ≡ state
      → cond (is_waiting state && b) (queued row) row ≡ record row { state = cond b (queued_in state) state }
  alike row Waiting true e = refl
  alike row Waiting false e = ap (λ state. record row { state = state }) e
  alike row Queued true e = ap (λ state. record row { state = state }) e
  alike row Queued false e = ap (λ state. record row { state = state }) e
  alike row Taken true e = ap (λ state. record row { state = state }) e
  alike row Taken false e = ap (λ state. record row { state = state }) e
  alike row (Ended ending) true e = ap (λ state. record row { state = state }) e
  alike row (Ended ending) false e = ap (λ state. record row { state = state }) e
  alike row Withdrawn true e = ap (λ state. record row { state = state }) e
  alike row Withdrawn false e = ap (λ state. record row { state = state }) e

  runs_alike : (rows : List RunRow) → map (λ row. cond (waits_on prep row) (queued row) row) rows ≡ map later rows
  runs_alike [] = refl
  runs_alike (row ∷ rows) = rw (alike row row.state (is_at_prep prep row) refl, runs_alike rows) refl

  -- each run keeps its kind
  kept : (row : RunRow) → KeepsKind row (changed (waits_on prep) queued row)
  kept row = either (waits_on prep row) refl
    where
      either : (b : Bool) → waits_on prep row ≡ b → KeepsKind row (cond b (queued row) row)
      either true e =
          record { kind = refl; node = refl; job = refl; unended = λ k. waiting_unended row.state (and_first (is_waiting row.state) (is_at_prep prep row) e) }
      either false e = record { kind = refl; node = refl; job = refl; unended = λ k. k }

  -- a queued run is prepared
  prepared_now : (row : RunRow) → is_prepared_run s row ≡ true
      → is_prepared_run (change_runs (waits_on prep) queued s) (changed (waits_on prep) queued row) ≡ true
  prepared_now row k = either (waits_on prep row) refl
    where
      either : (b : Bool) → waits_on prep row ≡ b → is_prepared_run s (cond b (queued row) row) ≡ true
      either true e =
          or_second (not (is_work_begun (queued row) && waits_in s (queued row)))
          (any_weaker (λ (other : PrepRow). is_prep prep.job prep.node other && is_completed_prep other)
          (λ (other : PrepRow). is_at_prep other row && is_completed_prep other)
          (λ other m. and_true (at_key prep other row (and_second (is_waiting row.state) (is_at_prep prep row) e)
          (and_first (is_prep prep.job prep.node other) (is_completed_prep other) m)) (and_second (is_prep prep.job prep.node other) (is_completed_prep other) m))
          s.preps there)
      either false e = k

  -- the runs that waited are queued
  pub sound_done : IsSound seats (change_runs (waits_on prep) queued s)
  sound_done =
      let started =
      starts_with_runs s (change_runs (waits_on prep) queued s).runs
      (λ node. count_change_at_most (waits_on prep) queued (λ row. true) (is_unended_start_on node)
      (λ row a t k. and_true (and_true (and_first (is_start row.kind) _ (and_first _ (nat_eq row.node node) k))
      (waiting_unended row.state (and_first (is_waiting row.state) (is_at_prep prep row) t))) (and_second _ (nat_eq row.node node) k)) s.runs
      (each_any (λ row. true) (λ row. refl) s.runs))
      (λ node. any_change (waits_on prep) queued (is_good_start node) (is_good_start node)
      (λ row t k. waiting_not_well row.state (and_first (is_waiting row.state) (is_at_prep prep row) t) (and_second _ (has_ended_well row.state) k))
      (λ row t k. k) s.runs)
      h.starts
      in
      record {
        consistent =
            subst (λ (rows : List RunRow). IsConsistent seats (record s { runs = rows })) (sym (runs_alike s.runs))
            (consistent_moved into (λ row. row.taken) (λ row. row.ended)
            (λ row. moves_if (is_at_prep prep row) row.state (queued_in row.state) (moves_queued row.state)) seats s h.consistent);
        limited = record {
          rows = record {
            moment = h.limited.rows.moment;
            pools = h.limited.rows.pools;
            nodes = h.limited.rows.nodes;
            jobs = h.limited.rows.jobs;
            tasks = h.limited.rows.tasks;
            runs = each_change_same (waits_on prep) queued (is_run_valid s.moment) (λ row t k. k) s.runs h.limited.rows.runs;
            samples = h.limited.rows.samples;
            scales = h.limited.rows.scales;
          };
          counts = record {
            pools = h.limited.counts.pools;
            jobs = h.limited.counts.jobs;
            tasks = h.limited.counts.tasks;
            first_node = h.limited.counts.first_node;
            next_node = h.limited.counts.next_node;
            first_run = h.limited.counts.first_run;
            next_run = h.limited.counts.next_run;
          };
          quiet = h.limited.quiet;
          pools = record {
            deleting = h.limited.pools.deleting;
            pools_of_scales = h.limited.pools.pools_of_scales;
            pools_of_samples = h.limited.pools.pools_of_samples;
            labels = h.limited.pools.labels;
            order = h.limited.pools.order;
            covered = h.limited.pools.covered;
            kept = h.limited.pools.kept;
          };
        };
        unended =
            each_change_same (waits_on prep) queued has_no_end_yet
            (λ row t k. asked (is_unended row.state) (is_none row.ended) k
            (waiting_unended row.state (and_first (is_waiting row.state) (is_at_prep prep row) t))) s.runs h.unended;
        starts = record { usable = started.usable; tries = started.tries };
        preparing = preps_with_runs_by (changed (waits_on prep) queued) kept s prepared_now h.preparing;
        resting = rest_with_runs_by (changed (waits_on prep) queued) kept s h.resting;
      }
