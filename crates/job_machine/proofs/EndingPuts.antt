-- The end of a run, and the change of the preparation of its job on its node, put into the tables.
use Rattle.std.proofs.Common.{◌≡◌, ℕ, [], ◌∷◌, Some, ◌∙◌, ap}
use Rattle.bt_rows.specs.Changes.{apply_change, apply_changes}
use Rattle.bt_rows.specs.Keys.{same_prep}
use Rattle.bt_rows.specs.declared.tables.Change.TheVariants.{PutPrep, PutRun}
use Rattle.batch_model.specs.Events.{ended_run}
use Rattle.batch_model.specs.Preparing.{prep_of_run}
use Rattle.batch_model.specs.Preps.{change_prep}
use Rattle.batch_model.specs.Rows.{run_of}
use Rattle.batch_model.specs.Variants.{State, Ending, RunRow, PrepRow}
use Rattle.batch_model.specs.WellFormed.{KeysAreDistinct}
use Rattle.machine_plans.specs.Plans.{with_moment}
use Rattle.machine_plans.proofs.EventPuts.{ended_put}
use Rattle.row_changes.proofs.PrepPuts.{prep_changed}
use Rattle.job_machine.specs.Endings.{with_end}
use Rattle.job_machine.proofs.FoundPreps.{own_prep_of_run}

module _ (s : State) (keys : KeysAreDistinct s) (run : RunRow) (there : run_of s run.number ≡ Some run) (now : ℕ) (ending : Ending) where
  -- the run ends
  pub end_put : (ended : RunRow) → ended ≡ ended_run now ending run → apply_change (PutRun ended) (with_moment now s) ≡ with_end now ending run s
  end_put ended is_ended = ap (λ row. apply_change (PutRun row) (with_moment now s)) is_ended ∙ ended_put s keys run there now ending

  -- the run ends, and the preparation of its job on its node changes
  pub end_and_prep : (ended : RunRow) (row prep : PrepRow) (change : PrepRow → PrepRow) → ended ≡ ended_run now ending run → row ≡ change prep → ((x : PrepRow) → same_prep x (change prep) ≡ same_prep x prep) → prep_of_run s run ≡ Some prep → apply_changes (PutRun ended ∷ PutPrep row ∷ []) (with_moment now s) ≡ change_prep prep change (with_end now ending run s)
  end_and_prep ended row prep change is_ended is_row keeps found =
      ap (apply_change (PutPrep row)) (end_put ended is_ended)
      ∙ (ap (λ each. apply_change (PutPrep each) (with_end now ending run s)) is_row
      ∙ prep_changed prep change keeps (with_end now ending run s) keys.preps (own_prep_of_run s run prep keys found))
