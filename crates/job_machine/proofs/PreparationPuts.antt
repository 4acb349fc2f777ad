-- What endings of preparation runs put into the tables.
use Rattle.std.proofs.Common.{◌≡◌, ℕ, ◌+◌, Bool, true, false, nat_lt, [], ◌∷◌, None, cond, refl, sym, ◌∙◌, ap}
use Rattle.bt_rows.specs.Changes.{apply_changes}
use Rattle.bt_rows.specs.Keys.{same_prep, same_run, same_run_equiv}
use Rattle.bt_rows.specs.declared.tables.Change.TheVariants.{PutPrep, PutRun, Counters}
use Rattle.batch_model.specs.Endings.{is_success}
use Rattle.batch_model.specs.Events.{ended_run}
use Rattle.batch_model.specs.Preparing.{counted_preparation, give_up, is_waiting_on, prepare_again, prepared, preparation_done, preparation_ended_at, preparation_of, queued, spent_preparation, waits_on}
use Rattle.batch_model.specs.Preps.{change_prep}
use Rattle.batch_model.specs.Rows.{is_run, add_run_row}
use Rattle.batch_model.specs.Runs.{job_run}
use Rattle.batch_model.specs.Stops.{stop}
use Rattle.batch_model.specs.Variants.{State, StartTask, WantRequeue, Ending, RunRow, PrepRun, PrepRow}
use Rattle.model_lists.proofs.ChangedRows.{each_change_same}
use Rattle.machine_plans.specs.Plans.{with_moment}
use Rattle.machine_plans.proofs.DuePuts.{next_run_put}
use Rattle.row_changes.specs.Puts.{puts_of}
use Rattle.row_changes.proofs.PutsInPlace.{put_is_change_where}
use Rattle.row_changes.proofs.ListPuts.{runs_put}
use Rattle.task_stops.specs.StopChanges.{stop_changes}
use Rattle.task_stops.proofs.StopMade.{stop_made}
use Rattle.job_machine.specs.Endings.{IsAtPrep, queued_run, spent_stops, with_end}
use Rattle.job_machine.proofs.EndingPuts.{end_and_prep as run_and_prep}
use Rattle.job_machine.proofs.EndedPreparations.{distinct_later, failed_tables, later_runs, queued_later, stops_later}

-- a failure changes nothing where the job has no preparation task
pub not_prepared : (prep : PrepRow) (run : RunRow) (ending : Ending) (s : State) → run.asked ≡ false → is_success ending ≡ false → preparation_of s prep ≡ None
    → preparation_ended_at prep run ending s ≡ s
not_prepared prep run ending s asked success none = rw (asked, success, none) refl

module _ (s : State) (run : RunRow) (prep : PrepRow) (at : IsAtPrep s run prep) (now : ℕ) (ending : Ending) where
  -- the run ends, and its preparation changes
  pub end_and_prep : (ended : RunRow) (row : PrepRow) (change : PrepRow → PrepRow) → ended ≡ ended_run now ending run → row ≡ change prep
      → ((x : PrepRow) → same_prep x (change prep) ≡ same_prep x prep)
      → apply_changes (PutRun ended ∷ PutPrep row ∷ []) (with_moment now s) ≡ change_prep prep change (with_end now ending run s)
  end_and_prep ended row change is_ended is_row keeps =
      run_and_prep s at.keys run at.there now ending ended row prep change is_ended is_row keeps at.found

  -- the tables after the end, in which the preparation is completed
  abbrev done : State
  done = change_prep prep prepared (with_end now ending run s)

  -- the run ends, its preparation is completed, and the runs that waited for it are queued
  pub end_and_done : (ended : RunRow) (row : PrepRow) → ended ≡ ended_run now ending run → row ≡ prepared prep
      → apply_changes (PutRun ended ∷ PutPrep row ∷ puts_of PutRun (queued_run prep) s.runs) (with_moment now s)
      ≡ preparation_done prep (with_end now ending run s)
  end_and_done ended row is_ended is_row =
      ap (apply_changes (puts_of PutRun (queued_run prep) s.runs)) (end_and_prep ended row prepared is_ended is_row (λ x. refl))
      ∙ (ap (λ changes. apply_changes changes done) (sym (queued_later s run prep at now ending))
      ∙ (runs_put (queued_run prep) (later_runs s run prep at now ending) done
      ∙ ap (λ runs. record done { runs = runs })
      (put_is_change_where same_run same_run_equiv (waits_on prep) queued (λ x other. refl) (later_runs s run prep at now ending) (distinct_later s run prep at now ending))))

  -- the run ends, the failure is counted, and the preparation is run again
  pub end_and_again : (ended again : RunRow) (row : PrepRow) (preparation : StartTask) (nodes runs : ℕ) → ended ≡ ended_run now ending run
      → row ≡ counted_preparation prep → again ≡ job_run (with_moment now s) prep.node run.pool PrepRun preparation.line prep.job
      → nodes ≡ s.next_node → runs ≡ s.next_run + 1
      → apply_changes (PutRun ended ∷ PutPrep row ∷ PutRun again ∷ Counters nodes runs ∷ []) (with_moment now s)
      ≡ prepare_again prep run preparation (with_end now ending run s)
  end_and_again ended again row preparation nodes runs is_ended is_row is_again stays rises =
      let counted = change_prep prep counted_preparation (with_end now ending run s) in
      ap (apply_changes (PutRun again ∷ Counters nodes runs ∷ [])) (end_and_prep ended row counted_preparation is_ended is_row (λ x. refl))
      ∙ (next_run_put counted again runs nodes
      (each_change_same (is_run run.number) (ended_run now ending) (λ (other : RunRow). nat_lt other.number s.next_run) (λ x e h. h) s.runs at.below)
      (ap (λ (each : RunRow). each.number) is_again) rises stays
      ∙ ap (λ each. add_run_row each counted) is_again)

  -- the tasks that wait for the preparation are requeued, if it is waited for
  spent_by : (wait : Bool)
      → apply_changes (cond wait (stop_changes (is_waiting_on s prep) WantRequeue now s) []) (failed_tables s run prep at now ending)
      ≡ cond wait (stop (is_waiting_on (with_end now ending run s) prep) WantRequeue (failed_tables s run prep at now ending)) (failed_tables s run prep at now ending)
  spent_by true =
      ap (λ changes. apply_changes changes (failed_tables s run prep at now ending)) (sym (stops_later s run prep at now ending))
      ∙ stop_made (is_waiting_on (with_end now ending run s) prep) WantRequeue (failed_tables s run prep at now ending) at.keys.tasks (distinct_later s run prep at now ending)
  spent_by false = refl

  -- the run ends, and its preparation has failed
  pub end_and_spent : (ended : RunRow) (row : PrepRow) (preparation : StartTask) → ended ≡ ended_run now ending run → row ≡ spent_preparation prep
      → apply_changes (PutRun ended ∷ PutPrep row ∷ spent_stops now preparation prep s) (with_moment now s)
      ≡ give_up prep preparation (with_end now ending run s)
  end_and_spent ended row preparation is_ended is_row =
      ap (apply_changes (spent_stops now preparation prep s)) (end_and_prep ended row spent_preparation is_ended is_row (λ x. refl))
      ∙ spent_by preparation.wait
