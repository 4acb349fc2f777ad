-- The drops of a task and of its runs lead to the tables without them.
use Rattle.std.proofs.Common.{◌≡◌, Bool, true, false, not, ◌||◌, List, [], ◌∷◌, cond, filter, refl, sym, ◌∙◌, ap}
use Rattle.std.specs.List.{list_any}
use Rattle.std.specs.Cmp.{IsEquivalence}
use Rattle.bt_rows.specs.Changes.{apply_changes}
use Rattle.bt_rows.specs.Keys.{same_task, same_task_equiv}
use Rattle.bt_rows.specs.Lists.{drop_row, AreDistinct}
use Rattle.bt_rows.specs.declared.tables.Change.TheVariants.{DropTask}
use Rattle.batch_model.specs.Rows.{is_task}
use Rattle.batch_model.specs.Runs.{is_run_of_task}
use Rattle.batch_model.specs.Settling.{drop_task}
use Rattle.batch_model.specs.Variants.{State, TaskRow}
use Rattle.batch_model.specs.WellFormed.{KeysAreDistinct}
use Rattle.model_lists.proofs.RowLists.{any_agree}
use Rattle.row_changes.specs.Puts.{changes_where, key_of_task, run_drop}
use Rattle.row_changes.proofs.ListPuts.{runs_dropped}

module _ {R : Type 0} (same : R → R → Bool) (e : IsEquivalence same) (key : R) where
  -- the rows without those with the key
  abbrev without : List R → List R
  without rows = filter (λ row. not (same row key)) rows

  -- no row has the key
  kept_cons : (x : R) (xs : List R) (b : Bool) → (b || list_any (λ row. same row key) xs) ≡ false
      → (list_any (λ row. same row key) xs ≡ false → without xs ≡ xs) → cond (not b) (x ∷ without xs) (without xs) ≡ x ∷ xs
  kept_cons x xs true h ih = cc
  kept_cons x xs false h ih = ap (λ rows. x ∷ rows) (ih h)

  all_kept : (xs : List R) → list_any (λ row. same row key) xs ≡ false → without xs ≡ xs
  all_kept [] h = refl
  all_kept (x ∷ xs) h = kept_cons x xs (same x key) h (all_kept xs)

  drop_cons : (x : R) (xs : List R) (b : Bool) → same x key ≡ b → list_any (same x) xs ≡ false → drop_row (λ row. same row key) xs ≡ without xs
      → cond b xs (x ∷ drop_row (λ row. same row key) xs) ≡ cond (not b) (x ∷ without xs) (without xs)
  drop_cons x xs true s d ih =
      sym (all_kept xs (any_agree (λ row. same row key) (same x) (λ row. e.symm row key ∙ sym (e.congr x key row s)) xs ∙ d))
  drop_cons x xs false s d ih = ap (λ rows. x ∷ rows) ih

  -- the drop of the row with the key leaves the others, if keys are distinct
  pub dropped : (xs : List R) → AreDistinct same xs → drop_row (λ row. same row key) xs ≡ without xs
  dropped [] d = refl
  dropped (x ∷ xs) d = drop_cons x xs (same x key) refl d.0 (dropped xs d.1)

-- the task and its runs are dropped
pub task_dropped : (task : TaskRow) (s : State) → KeysAreDistinct s
    → apply_changes (DropTask (key_of_task task) ∷ changes_where run_drop (is_run_of_task task.job task.id) s.runs) s ≡ drop_task task s
task_dropped task s keys =
    ap (λ rows. apply_changes (changes_where run_drop (is_run_of_task task.job task.id) s.runs) (record s { tasks = rows }))
    (dropped same_task same_task_equiv task s.tasks keys.tasks)
    ∙ runs_dropped (is_run_of_task task.job task.id) (record s { tasks = filter (λ row. not (is_task task.job task.id row)) s.tasks }) keys.runs
