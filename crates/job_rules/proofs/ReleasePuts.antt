-- What the due steps of release runs put into the tables.
use Rattle.std.proofs.Common.{◌≡◌, ℕ, ◌+◌, [], ◌∷◌, Some, refl, ◌∙◌, ap}
use Rattle.bt_rows.specs.Changes.{apply_change, apply_changes}
use Rattle.bt_rows.specs.Keys.{same_run, same_run_equiv}
use Rattle.bt_rows.specs.declared.tables.Change.TheVariants.{PutRun, PutPrep, Counters}
use Rattle.batch_model.specs.JobRules.{releasing}
use Rattle.batch_model.specs.Preps.{change_prep}
use Rattle.batch_model.specs.Rows.{is_run, run_of, prep_of, change_runs, add_run_row}
use Rattle.batch_model.specs.Runs.{asked_to_stop}
use Rattle.batch_model.specs.Sound.{NumbersAreNew}
use Rattle.batch_model.specs.WellFormed.{KeysAreDistinct}
use Rattle.batch_model.specs.Variants.{State, RunRow, PrepRow}
use Rattle.machine_plans.proofs.DuePuts.{next_run_put}
use Rattle.model_lists.proofs.Putting.{put_row-found}
use Rattle.row_changes.proofs.PrepPuts.{prep_changed}

module _ (s : State) (keys : KeysAreDistinct s) where
  -- a run that is asked to stop, in its place
  pub run_asked : (run : RunRow) → run_of s run.number ≡ Some run → apply_change (PutRun (asked_to_stop run)) s ≡ change_runs (is_run run.number) asked_to_stop s
  run_asked run there =
      ap (λ runs. record s { runs = runs })
      (put_row-found same_run same_run_equiv (is_run run.number) asked_to_stop run (λ x. refl) (λ x. refl) s.runs keys.runs there)

  -- a preparation whose release run is made, that run with the next number, and the counter after it
  pub release_put : (prep row : PrepRow) (run : RunRow) (after node : ℕ) → NumbersAreNew s → prep_of s prep.job prep.node ≡ Some prep → row ≡ releasing prep
      → run.number ≡ s.next_run → after ≡ s.next_run + 1 → node ≡ s.next_node
      → apply_changes (PutPrep row ∷ PutRun run ∷ Counters node after ∷ []) s ≡ add_run_row run (change_prep prep releasing s)
  release_put prep row run after node numbers there is_row is_next rises stays =
      ap (λ t. apply_changes (PutRun run ∷ Counters node after ∷ []) t)
      (ap (λ each. apply_change (PutPrep each) s) is_row ∙ prep_changed prep releasing (λ x. refl) s keys.preps there)
      ∙ next_run_put (change_prep prep releasing s) run after node numbers.runs is_next rises stays
