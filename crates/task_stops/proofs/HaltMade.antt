-- The changes that halt preparations are read off the tables before other runs are halted, and lead to the tables in which the preparations
-- are halted afterwards, if no unended preparation run is among those others. None is among the runs of tasks that are stopped, since none
-- names a task.
use Rattle.std.proofs.Common.{◌≡◌, ℕ, Bool, true, false, not, ◌&&◌, ◌||◌, List, [], ◌∷◌, Option, Some, None, cond, is_none, map, nat_eq, refl, sym, ◌∙◌, ap}
use Rattle.std.proofs.lemmas.Bool.{eqb-true}
use Rattle.std.specs.List.{list_any}
use Rattle.bt_base.specs.Ids.{same}
use Rattle.bt_rows.specs.Changes.{apply_changes}
use Rattle.bt_rows.specs.Lists.{AreDistinct}
use Rattle.bt_rows.specs.Keys.{same_prep, same_run, same_run_equiv}
use Rattle.bt_rows.specs.declared.tables.Change.TheVariants.{PutPrep, PutRun}
use Rattle.batch_model.specs.Finding.{Each, names}
use Rattle.batch_model.specs.Leaving.{is_on}
use Rattle.batch_model.specs.Preps.{failed_preparation}
use Rattle.batch_model.specs.Rows.{change_runs}
use Rattle.batch_model.specs.Runs.{is_at_prep, is_open_preparation, is_preparation, is_queued, is_release, is_unended, prepares, halted, halted_in}
use Rattle.batch_model.specs.Sound.{names_no_task}
use Rattle.batch_model.specs.Stops.{halt_preparations, has_run_cut_off, is_cut_off, is_run_of_stopped, stop}
use Rattle.batch_model.specs.Variants.{State, NodeRow, TaskRow, Want, RunRow, RunState, Waiting, Queued, Taken, Ended, Withdrawn, PrepRow}
use Rattle.model_lists.proofs.ChangedRows.{changed, change_agree_where}
use Rattle.model_lists.proofs.RowLists.{each_any, each_head, each_tail, none_any}
use Rattle.model_lists.proofs.Tests.{and_first, and_second, true_not}
use Rattle.row_changes.specs.Puts.{puts_of}
use Rattle.row_changes.proofs.ListPuts.{apply_append, runs_put}
use Rattle.row_changes.proofs.PrepPuts.{names_same, preps_changed}
use Rattle.row_changes.proofs.PutsAfter.{put_is_change_after}
use Rattle.task_stops.specs.HaltChanges.{concerns, concerns_prep, failed_prep, halted_preparation, halt_changes, is_halted_preparation}
use Rattle.task_stops.specs.LeaveTests.{has_passing, leaves}
use Rattle.task_stops.specs.declared.halt.Halted.{Halted}
use Rattle.task_stops.specs.declared.halt.Halted.TheVariants.{OfJob, OnNodes}
use Rattle.task_stops.proofs.RunOfStopped.{none_without_task}
use Rattle.task_stops.proofs.StopMade.{halted_number}

off_second : (a b : Bool) → b ≡ false → (a && b) ≡ false
off_second true b h = h
off_second false b h = refl

off_first : (a b : Bool) → a ≡ false → (a && b) ≡ false
off_first true b h = cc
off_first false b h = refl

-- a preparation with a run that is cut off is one of those that are halted

module _ (test : RunRow → Bool) (prep : PrepRow) where
  -- a run that does not pass
  not_cut_off : (run : RunRow) → test run ≡ false → (is_cut_off test run && is_at_prep prep run) ≡ false
  not_cut_off run h =
      off_first (is_cut_off test run) (is_at_prep prep run) (off_first (test run) (is_preparation run.kind && is_queued run.state) h)

  -- a run that is not the preparation's
  not_at_prep : (run : RunRow) → is_at_prep prep run ≡ false → (is_cut_off test run && is_at_prep prep run) ≡ false
  not_at_prep run h = off_second (is_cut_off test run) (is_at_prep prep run) h

  none_cut_off : (s : State) → ((run : RunRow) → (is_cut_off test run && is_at_prep prep run) ≡ false) → has_run_cut_off test s prep ≡ false
  none_cut_off s h =
      none_any (λ run. is_cut_off test run && is_at_prep prep run) s.runs
      (each_any (λ run. not (is_cut_off test run && is_at_prep prep run)) (λ run. true_not (h run)) s.runs)

of_other_job : (job : List ℕ) (prep : PrepRow) → same prep.job job ≡ false → (run : RunRow) (b : Bool) → names run.job job ≡ b
    → (is_cut_off (prepares job) run && is_at_prep prep run) ≡ false
of_other_job job prep other run true i =
    not_at_prep (prepares job) prep run (off_first (names run.job prep.job) (nat_eq run.node prep.node) (names_same run.job job prep.job i ∙ other))
of_other_job job prep other run false i =
    not_cut_off (prepares job) prep run (off_second (is_open_preparation run) (names run.job job) i)

on_other_node : (test : NodeRow → Bool) (s : State) (prep : PrepRow) → has_passing test s prep.node ≡ false → (run : RunRow) (b : Bool) → nat_eq run.node prep.node ≡ b
    → (is_cut_off (is_on test s) run && is_at_prep prep run) ≡ false
on_other_node test s prep other run true i =
    let same_node : run.node ≡ prep.node = eqb-true run.node prep.node i in
    not_cut_off (is_on test s) prep run (ap (has_passing test s) same_node ∙ other)
on_other_node test s prep other run false i =
    not_at_prep (is_on test s) prep run (off_second (names run.job prep.job) (nat_eq run.node prep.node) i)

pub none_of_other : (which : Halted) (s : State) (prep : PrepRow) → concerns_prep s which prep ≡ false → has_run_cut_off (concerns s which) s prep ≡ false
none_of_other (OfJob job) s prep other =
    none_cut_off (prepares job) prep s (λ run. of_other_job job prep other run (names run.job job) refl)
none_of_other (OnNodes which) s prep other =
    none_cut_off (is_on (leaves which) s) prep s (λ run. on_other_node (leaves which) s prep other run (nat_eq run.node prep.node) refl)

-- runs became what `now` makes of them, and unended preparation runs stayed as they were

-- a queued preparation run has not ended
not_queued : (k : Bool) (state : RunState) → (k && is_unended state) ≡ false → (k && is_queued state) ≡ false
not_queued k Waiting h = off_second k false refl
not_queued k Queued h = h
not_queued k Taken h = off_second k false refl
not_queued k (Ended ending) h = h
not_queued k Withdrawn h = h

module _ (test : RunRow → Bool) (a : RunRow → Bool) (now : RunRow → RunRow) (number : (run : RunRow) → (now run).number ≡ run.number)
    (kept : (run : RunRow) → a run ≡ true → is_open_preparation run ≡ true → now run ≡ run)
    (closed : (run : RunRow) → is_open_preparation run ≡ false → is_open_preparation (now run) ≡ false) where
  -- a test that asks for an unended preparation run answers alike before and after
  alike_after : (p : RunRow → Bool) → ((run : RunRow) → is_open_preparation run ≡ false → p run ≡ false) → (run : RunRow) → a run ≡ true
      → p (now run) ≡ p run
  alike_after p asks run h = either (is_open_preparation run) refl
    where
      either : (b : Bool) → is_open_preparation run ≡ b → p (now run) ≡ p run
      either true o = ap p (kept run h o)
      either false o = asks (now run) (closed run o) ∙ sym (asks run o)

  any_after : (p : RunRow → Bool) → ((run : RunRow) → is_open_preparation run ≡ false → p run ≡ false) → (runs : List RunRow) → Each a runs
      → list_any p (map now runs) ≡ list_any p runs
  any_after p asks [] h = refl
  any_after p asks (run ∷ runs) h =
      rw (alike_after p asks run (each_head a run runs h), any_after p asks runs (each_tail a run runs h)) refl

  -- the tables with the runs as they are now, and with the preparations of `s`
  abbrev with_now : State → State → State
  with_now s u = record u { runs = map now s.runs; preps = s.preps; moment = s.moment }

  cut_off_after : (s u : State) → Each a s.runs → (prep : PrepRow) → has_run_cut_off test s prep ≡ has_run_cut_off test (with_now s u) prep
  cut_off_after s u each prep =
      sym (any_after (λ run. is_cut_off test run && is_at_prep prep run)
      (λ run o. off_first (is_cut_off test run) (is_at_prep prep run)
      (off_second (test run) (is_preparation run.kind && is_queued run.state) (not_queued (is_preparation run.kind) run.state o))) s.runs each)

  halted_after : (s u : State) → Each a s.runs → AreDistinct same_run s.runs
      → apply_changes (puts_of PutRun (halted_preparation test s.moment) s.runs) (with_now s u)
      ≡ change_runs (is_halted_preparation test) (halted s.moment) (with_now s u)
  halted_after s u each distinct =
      runs_put (halted_preparation test s.moment) s.runs (with_now s u)
      ∙ ap (λ runs. record (with_now s u) { runs = runs })
      (put_is_change_after same_run same_run_equiv now (λ run other. ap (nat_eq other.number) (number run))
      (is_halted_preparation test) (is_halted_preparation test) (halted s.moment)
      (λ run other. ap (nat_eq other.number) (halted_number run.state s.moment run)) a
      (λ run h p. kept run h (and_second (test run) (is_open_preparation run) p))
      (λ run h. alike_after (is_halted_preparation test) (λ other o. off_second (test other) (is_open_preparation other) o) run h)
      s.runs distinct each)

  -- the tables in which the preparations are halted once the runs are as they are now; the changes were read off `s`
  pub halt_after : (s u : State) → Each a s.runs → AreDistinct same_run s.runs → AreDistinct same_prep s.preps
      → apply_changes (halt_changes test s.moment s) (with_now s u) ≡ halt_preparations test (with_now s u)
  halt_after s u each runs preps =
      apply_append (puts_of PutRun (halted_preparation test s.moment) s.runs) (puts_of PutPrep (failed_prep test s) s.preps) (with_now s u)
      ∙ ap (apply_changes (puts_of PutPrep (failed_prep test s) s.preps)) (halted_after s u each runs)
      ∙ preps_changed (has_run_cut_off test s) failed_preparation (λ prep other. refl) with_runs preps
      ∙ ap (λ rows. record with_runs { preps = rows })
      (change_agree_where (λ prep. true) (has_run_cut_off test s) (has_run_cut_off test (with_now s u)) failed_preparation
      (λ prep h. cut_off_after s u each prep) s.preps (each_any (λ prep. true) (λ prep. refl) s.preps))
    where
      with_runs : State
      with_runs = change_runs (is_halted_preparation test) (halted s.moment) (with_now s u)

-- runs that are stopped

-- an unended preparation run names no task
pub without_task : (run : RunRow) → names_no_task run ≡ true → is_open_preparation run ≡ true → run.task ≡ None
without_task run h o =
    is_nothing run.task
    (asked_for (is_preparation run.kind) (is_release run.kind) (is_unended run.state) (is_none run.task) h
    (and_first (is_preparation run.kind) (is_unended run.state) o) (and_second (is_preparation run.kind) (is_unended run.state) o))
  where
    is_nothing : (o : Option (List ℕ)) → is_none o ≡ true → o ≡ None
    is_nothing None e = refl
    is_nothing (Some x) e = cc

    asked_for : (a b c d : Bool) → (not ((a || b) && c) || d) ≡ true → a ≡ true → c ≡ true → d ≡ true
    asked_for true b true d h i j = h
    asked_for true b false d h i j = cc
    asked_for false b c d h i j = cc

-- a run that was no unended preparation run is none when it is halted
still_closed : (state : RunState) (now : ℕ) (run : RunRow) → is_open_preparation run ≡ false → is_open_preparation (halted_in state now run) ≡ false
still_closed Waiting now run h = off_second (is_preparation run.kind) false refl
still_closed Queued now run h = off_second (is_preparation run.kind) false refl
still_closed Taken now run h = h
still_closed (Ended ending) now run h = h
still_closed Withdrawn now run h = h

-- nor when it is halted if it passes a test
pub closed_after : (test : RunRow → Bool) (now : ℕ) (run : RunRow) → is_open_preparation run ≡ false → is_open_preparation (changed test (halted now) run) ≡ false
closed_after test now run h = either (test run)
  where
    either : (b : Bool) → is_open_preparation (cond b (halted now run) run) ≡ false
    either true = still_closed run.state now run h
    either false = h

-- a run that may be halted keeps its number
pub number_after : (test : RunRow → Bool) (now : ℕ) (run : RunRow) → (changed test (halted now) run).number ≡ run.number
number_after test now run = either (test run)
  where
    either : (b : Bool) → (cond b (halted now run) run).number ≡ run.number
    either true = halted_number run.state now run
    either false = refl

-- an unended preparation run is not stopped with a task
pub open_not_stopped : (test : TaskRow → Bool) (s : State) (now : ℕ) (run : RunRow) → names_no_task run ≡ true → is_open_preparation run ≡ true
    → changed (is_run_of_stopped test s) (halted now) run ≡ run
open_not_stopped test s now run h o = ap (λ b. cond b (halted now run) run) (none_without_task test s run (without_task run h o))

-- the tables in which the preparations are halted once the tasks are stopped
pub halt_made : (halts : RunRow → Bool) (test : TaskRow → Bool) (want : Want) (s : State) → Each names_no_task s.runs
    → AreDistinct same_run s.runs → AreDistinct same_prep s.preps
    → apply_changes (halt_changes halts s.moment s) (stop test want s) ≡ halt_preparations halts (stop test want s)
halt_made halts test want s =
    halt_after halts names_no_task (changed (is_run_of_stopped test s) (halted s.moment)) (number_after (is_run_of_stopped test s) s.moment)
    (open_not_stopped test s s.moment) (closed_after (is_run_of_stopped test s) s.moment) s (stop test want s)
