-- Preparation runs that are halted: tables with them, and with the preparations that have failed so, are sound.
use Rattle.std.proofs.Common.{◌≡◌, ℕ, Bool, true, false, not, ◌&&◌, ◌||◌, List, is_none, refl, sym, ◌∙◌, subst}
use Rattle.std.specs.List.{list_all}
use Rattle.std.specs.Cmp.{nat_eq_equiv}
use Rattle.batch_model.specs.Finding.{Each, names}
use Rattle.batch_model.specs.Rows.{change_runs}
use Rattle.batch_model.specs.Runs.{is_unended, is_queued, is_preparation, is_release, is_open_preparation, is_at_prep, halted_in, halted}
use Rattle.batch_model.specs.Preps.{is_prepared, is_prep_running}
use Rattle.batch_model.specs.Stops.{is_cut_off, has_run_cut_off, halt_preparations}
use Rattle.batch_model.specs.Sound.{IsSound, runs_yet, prepare_the_same, names_no_task}
use Rattle.batch_model.specs.WellFormed.{has_few_preparations}
use Rattle.batch_model.specs.Variants.{State, PrepRow, PrepState, PrepRunning, PrepCompleted, PrepFailed, RunRow, RunState, Waiting, Queued, Taken, Ended, Withdrawn}
use Rattle.model_lists.proofs.Tests.{and_true, and_first, and_second, asked}
use Rattle.model_lists.proofs.RowLists.{each_any, each_weaker, any_weaker, find_any, find_test, each_found}
use Rattle.model_lists.proofs.ChangedRows.{each_change, each_change_same, change_agree_where}
use Rattle.model_lists.proofs.KeyedLists.{only_one}
use Rattle.model_lists.proofs.KeptRows.{each_swap}
use Rattle.model_tables.proofs.RunsMove.{both_name, same_by_third}
use Rattle.model_tables.proofs.TasksStopped.{halted_keeps}
use Rattle.model_tables.proofs.RunsHalted.{sound_runs_halted}
use Rattle.model_tables.proofs.PrepsChanged.{open_preps_run, running_apart, preps_changed, sound_preps_changed}

-- two unended preparation runs of one preparation are of one job and node
pub one_prep : (prep : PrepRow) (run other : RunRow) → (is_open_preparation run && is_at_prep prep run) ≡ true
    → (is_open_preparation other && is_at_prep prep other) ≡ true → prepare_the_same run other ≡ true
one_prep prep run other h k =
    let at : is_at_prep prep run ≡ true = and_second (is_open_preparation run) (is_at_prep prep run) h in
    let other_at : is_at_prep prep other ≡ true = and_second (is_open_preparation other) (is_at_prep prep other) k in
    and_true
    (and_true (and_true (and_first (is_open_preparation run) _ h) (and_first (is_open_preparation other) _ k))
    (same_by_third nat_eq_equiv run.node other.node prep.node (and_second (names run.job prep.job) _ at) (and_second (names other.job prep.job) _ other_at)))
    (both_name run.job other.job prep.job (and_first (names run.job prep.job) _ at) (and_first (names other.job prep.job) _ other_at))

-- a preparation that runs is not completed
pub running_not_done : (state : PrepState) → is_prep_running state ≡ true → is_prepared state ≡ false
running_not_done PrepRunning h = refl
running_not_done PrepCompleted h = cc
running_not_done PrepFailed h = cc

-- a queued run has not ended
queued_unended : (state : RunState) → is_queued state ≡ true → is_unended state ≡ true
queued_unended Waiting h = refl
queued_unended Queued h = refl
queued_unended Taken h = refl
queued_unended (Ended ending) h = cc
queued_unended Withdrawn h = cc

-- a queued run has ended once it is halted
gone_if_queued : (now : ℕ) (run : RunRow) → is_queued run.state ≡ true → is_open_preparation (halted now run) ≡ false
gone_if_queued now run h = by_state run.state h
  where
    off : (a : Bool) → (a && false) ≡ false
    off true = refl
    off false = refl

    by_state : (state : RunState) → is_queued state ≡ true → is_open_preparation (halted_in state now run) ≡ false
    by_state Waiting k = cc
    by_state Queued k = off (is_preparation run.kind)
    by_state Taken k = cc
    by_state (Ended ending) k = cc
    by_state Withdrawn k = cc

module _ (seats : ℕ) (test : RunRow → Bool) (s : State) (h : IsSound seats s) where
  -- the runs that are halted
  abbrev is_halted : RunRow → Bool
  is_halted run = test run && is_open_preparation run

  -- such runs name no task
  abbrev is_free : RunRow → Bool
  is_free run = is_halted run && is_none run.task

  -- the tables in which they are halted
  abbrev after : State
  after = change_runs is_halted (halted s.moment) s

  free_alike : (t p r u n : Bool) → (not ((p || r) && u) || n) ≡ true → (t && (p && u)) ≡ ((t && (p && u)) && n)
  free_alike false p r u n k = refl
  free_alike true false r u n k = refl
  free_alike true true r false n k = refl
  free_alike true true r true n k = sym k

  -- they are sound
  sound_after : IsSound seats after
  sound_after =
      subst (λ (runs : List RunRow). IsSound seats (record s { runs = runs }))
      (sym (change_agree_where names_no_task is_halted is_free (halted s.moment)
      (λ run. free_alike (test run) (is_preparation run.kind) (is_release run.kind) (is_unended run.state) (is_none run.task)) s.runs h.consistent.naming.of_jobs))
      (sound_runs_halted is_free s (λ run t. and_second (is_halted run) (is_none run.task) t) seats h)

  -- the run is unended and of the preparation
  abbrev is_open_at : PrepRow → RunRow → Bool
  is_open_at prep run = is_open_preparation run && is_at_prep prep run

  -- a preparation that has failed so has no unended run any more
  none_left : (prep : PrepRow) → Each (λ run. not (has_run_cut_off test s prep && is_open_at prep run)) after.runs
  none_left prep = either (has_run_cut_off test s prep) refl
    where
      cut_open : (run : RunRow) → (is_cut_off test run && is_at_prep prep run) ≡ true → (is_open_at prep run && is_cut_off test run) ≡ true
      cut_open run k =
          let cut : is_cut_off test run ≡ true = and_first (is_cut_off test run) (is_at_prep prep run) k in
          let queued : (is_preparation run.kind && is_queued run.state) ≡ true = and_second (test run) (is_preparation run.kind && is_queued run.state) cut in
          and_true
          (and_true (and_true (and_first (is_preparation run.kind) _ queued) (queued_unended run.state (and_second (is_preparation run.kind) (is_queued run.state) queued)))
          (and_second (is_cut_off test run) (is_at_prep prep run) k))
          cut

      neither : (a b c : Bool) → (b && c) ≡ false → not (a && (b && c)) ≡ true
      neither true b c n = rw n refl
      neither false b c n = refl

      off_first : (b c : Bool) → b ≡ false → (b && c) ≡ false
      off_first b c n = rw n refl

      off_second : (b c : Bool) → c ≡ false → (b && c) ≡ false
      off_second true c n = n
      off_second false c n = refl

      halted_off : (run : RunRow) (at : Bool) → is_at_prep prep run ≡ at → is_halted run ≡ true → (not (is_open_at prep run) || is_cut_off test run) ≡ true
          → is_open_at prep (halted s.moment run) ≡ false
      halted_off run false e t k =
          off_second (is_open_preparation (halted s.moment run)) (is_at_prep prep (halted s.moment run))
          (halted_keeps s.moment (is_at_prep prep) run refl refl ∙ e)
      halted_off run true e t k =
          let cut : is_cut_off test run ≡ true =
          asked (is_open_at prep run) (is_cut_off test run) k (and_true (and_second (test run) (is_open_preparation run) t) e)
          in
          off_first (is_open_preparation (halted s.moment run)) (is_at_prep prep (halted s.moment run))
          (gone_if_queued s.moment run (and_second (is_preparation run.kind) (is_queued run.state) (and_second (test run) _ cut)))

      stays_off : (run : RunRow) (b : Bool) → is_open_at prep run ≡ b → is_halted run ≡ false → (not (is_open_at prep run) || is_cut_off test run) ≡ true
          → is_open_at prep run ≡ false
      stays_off run false e t k = e
      stays_off run true e t k =
          let cut : is_cut_off test run ≡ true = asked (is_open_at prep run) (is_cut_off test run) k e in
          let halts : is_halted run ≡ true = and_true (and_first (test run) _ cut) (and_first (is_open_preparation run) (is_at_prep prep run) e) in
          cc

      either : (b : Bool) → has_run_cut_off test s prep ≡ b → Each (λ run. not (has_run_cut_off test s prep && is_open_at prep run)) after.runs
      either false e = each_any (λ run. not (has_run_cut_off test s prep && is_open_at prep run)) (λ run. rw e refl) after.runs
      either true e =
          each_change is_halted (halted s.moment) (λ run. not (is_open_at prep run) || is_cut_off test run)
          (λ run. not (has_run_cut_off test s prep && is_open_at prep run))
          (λ run t k. neither (has_run_cut_off test s prep) (is_open_preparation (halted s.moment run)) (is_at_prep prep (halted s.moment run))
          (halted_off run (is_at_prep prep run) refl t k))
          (λ run t k. neither (has_run_cut_off test s prep) (is_open_preparation run) (is_at_prep prep run) (stays_off run (is_open_at prep run) refl t k))
          s.runs
          (only_one prepare_the_same (is_open_at prep) (is_cut_off test) (one_prep prep) s.runs h.preparing.single
          (any_weaker (λ run. is_cut_off test run && is_at_prep prep run) (λ run. is_open_at prep run && is_cut_off test run) cut_open s.runs e))

  -- such a preparation was not completed
  none_done : Each (λ (prep : PrepRow). not (has_run_cut_off test s prep && is_prepared prep.state) || false) s.preps
  none_done =
      each_weaker (λ (prep : PrepRow). list_all (λ run. not (is_open_preparation run && is_at_prep prep run) || runs_yet prep) s.runs)
      (λ (prep : PrepRow). not (has_run_cut_off test s prep && is_prepared prep.state) || false)
      (λ prep k. either prep (has_run_cut_off test s prep) refl k) s.preps (open_preps_run s h.consistent.keys.preps h.preparing.running)
    where
      unprepared : (a b : Bool) → b ≡ false → (not (a && b) || false) ≡ true
      unprepared true b n = rw n refl
      unprepared false b n = refl

      either : (prep : PrepRow) (b : Bool) → has_run_cut_off test s prep ≡ b
          → list_all (λ run. not (is_open_preparation run && is_at_prep prep run) || runs_yet prep) s.runs ≡ true
          → (not (has_run_cut_off test s prep && is_prepared prep.state) || false) ≡ true
      either prep false e k = rw e refl
      either prep true e k =
          let found = find_any (λ run. is_cut_off test run && is_at_prep prep run) s.runs e in
          let cut : (is_cut_off test found.0 && is_at_prep prep found.0) ≡ true =
          find_test (λ run. is_cut_off test run && is_at_prep prep run) found.0 s.runs found.1 in
          let queued : (is_preparation found.0.kind && is_queued found.0.state) ≡ true =
          and_second (test found.0) _ (and_first (is_cut_off test found.0) (is_at_prep prep found.0) cut) in
          let runs : runs_yet prep ≡ true =
          asked (is_open_preparation found.0 && is_at_prep prep found.0) (runs_yet prep)
          (each_found (λ run. not (is_open_preparation run && is_at_prep prep run) || runs_yet prep)
          (λ run. is_cut_off test run && is_at_prep prep run) found.0 s.runs found.1 k)
          (and_true
          (and_true (and_first (is_preparation found.0.kind) _ queued) (queued_unended found.0.state (and_second (is_preparation found.0.kind) _ queued)))
          (and_second (is_cut_off test found.0) (is_at_prep prep found.0) cut))
          in
          unprepared (has_run_cut_off test s prep) (is_prepared prep.state) (running_not_done prep.state runs)

  -- the runs are halted, and their preparations have failed
  pub sound_preps_halted : IsSound seats (halt_preparations test s)
  sound_preps_halted =
      let sound : IsSound seats after = sound_after in
      sound_preps_changed (has_run_cut_off test s) (λ prep. PrepFailed) (λ prep. prep.tries) (λ prep. prep.ran) (λ prep. prep.release) after seats sound
      (preps_changed (has_run_cut_off test s) (λ prep. PrepFailed) (λ prep. prep.tries) (λ prep. prep.ran) (λ prep. prep.release) after
      (running_apart (has_run_cut_off test s) (λ prep. PrepFailed) (λ prep. prep.tries) (λ prep. prep.ran) (λ prep. prep.release) after
      (each_swap (λ (prep : PrepRow) (run : RunRow). not (has_run_cut_off test s prep && (is_open_preparation run && is_at_prep prep run))) s.preps after.runs
      (each_any (λ (prep : PrepRow). list_all (λ run. not (has_run_cut_off test s prep && (is_open_preparation run && is_at_prep prep run))) after.runs) none_left
      s.preps))
      sound.preparing.running)
      none_done (λ prep t k. k)
      (each_change_same (has_run_cut_off test s) (λ (prep : PrepRow). record prep { state = PrepFailed }) (has_few_preparations after) (λ prep t k. k) s.preps
      sound.preparing.tries)
      sound.preparing)
