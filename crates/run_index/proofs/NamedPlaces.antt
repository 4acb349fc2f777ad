-- A run of the present attempt of a task names this task's place.
use Rattle.std.proofs.Common.{◌≡◌, ℕ, zero, suc, true, false, ◌&&◌, nat_eq, List, ◌∷◌, [], Option, Some, None, sym, ap, subst, ◌∙◌, ⊎_elim}
use Rattle.std.specs.Option.{option_map}
use Rattle.std.specs.Str.{bytes_eq}
use Rattle.std.proofs.lemmas.Bool.{cases_Bool, cond-true, cond-false}
use Rattle.std.proofs.lemmas.Slice.Eq.{bytes_eq-Decides}
use Rattle.bt_base.specs.Ids.{same}
use Rattle.kept_table.specs.Keys.{ids_text}
use Rattle.kept_table.specs.Slots.{slot_at, place_of, has_text, AreApart}
use Rattle.kept_table.proofs.KeyTexts.{same-ids}
use Rattle.bt_rows.specs.Keys.{task_has_ids}
use Rattle.bt_rows.specs.Texts.{task_text}
use Rattle.bt_rows.proofs.FoundByText.{place_by_ids}
use Rattle.batch_model.specs.Finding.{names}
use Rattle.batch_model.specs.Runs.{is_present}
use Rattle.batch_model.specs.Variants.{TaskRow, RunRow}
use Rattle.run_index.specs.Named.{place_named, place_of_run}
use Rattle.run_index.proofs.AttemptTexts.{both}

-- a run of the present attempt of the task at a place names the task at that place
names_both : (job id : Option (List ℕ)) (of_job of_id : List ℕ) (slots : List (Option TaskRow)) → (names job of_job && names id of_id) ≡ true
    → place_named slots job id ≡ place_of (task_has_ids of_job of_id) slots
names_both None id of_job of_id slots h = absurd (cc)
names_both (Some job) None of_job of_id slots h = let no = (both (same job of_job) false h).1 in absurd (cc)
names_both (Some job) (Some id) of_job of_id slots h =
    let ids : ids_text job id ≡ ids_text of_job of_id =
    (bytes_eq-Decides (ids_text job id) (ids_text of_job of_id)).0 (sym (same-ids job id of_job of_id) ∙ h) in
    sym (place_by_ids job id slots) ∙ ap (λ (t : List ℕ). place_of (has_text task_text t) slots) ids ∙ place_by_ids of_job of_id slots

-- a row's place is where its key is found
row_place : (slots : List (Option TaskRow)) (place : ℕ) (task : TaskRow) → AreApart task_text slots → slot_at slots place ≡ Some task
    → place_of (has_text task_text (task_text task)) slots ≡ Some place
row_place [] place task apart h = absurd (cc)
row_place (None ∷ slots) zero task apart h = absurd (cc)
row_place (Some old ∷ slots) zero task apart h =
    let one : old ≡ task = cc in
    cond-true (bytes_eq (task_text old) (task_text task)) (Some 0) (option_map suc (place_of (has_text task_text (task_text task)) slots))
    ((bytes_eq-Decides (task_text old) (task_text task)).1 (ap task_text one))
row_place (None ∷ slots) (suc place) task apart h = ap (option_map suc) (row_place slots place task apart h)
row_place (Some old ∷ slots) (suc place) task apart h =
    let rest = row_place slots place task apart.1 h in
    ⊎_elim
    (λ (e : bytes_eq (task_text old) (task_text task) ≡ true).
    let key = (bytes_eq-Decides (task_text old) (task_text task)).0 e in
    let none : place_of (has_text task_text (task_text task)) slots ≡ None =
    subst (λ (t : List ℕ). place_of (has_text task_text t) slots ≡ None) key apart.0 in
    let no : None ≡ Some place = sym none ∙ rest in
    absurd (cc))
    (λ (e : bytes_eq (task_text old) (task_text task) ≡ false).
    cond-false (bytes_eq (task_text old) (task_text task)) (Some 0) (option_map suc (place_of (has_text task_text (task_text task)) slots)) e
    ∙ ap (option_map suc) rest)
    (cases_Bool (bytes_eq (task_text old) (task_text task)))

pub named_place : (slots : List (Option TaskRow)) (place : ℕ) (task : TaskRow) (run : RunRow) → AreApart task_text slots → slot_at slots place ≡ Some task
    → is_present task run ≡ true → place_of_run slots (Some run) ≡ Some place
named_place slots place task run apart there present =
    names_both run.job run.task task.job task.id slots (both (names run.job task.job && names run.task task.id) (nat_eq run.attempt task.attempt) present).0
    ∙ sym (place_by_ids task.job task.id slots) ∙ row_place slots place task apart there
