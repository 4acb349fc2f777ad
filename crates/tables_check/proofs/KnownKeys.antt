-- Keys of tables are distinct, so that the row that is found by a key is the only one that has it.
use Rattle.std.proofs.Common.{◌≡◌, ℕ, suc, Bool, true, false, not, ◌&&◌, ◌||◌, cond, List, [], ◌∷◌, Option, Some, None, refl, sym, ap, ◌∙◌}
use Rattle.std.specs.Prelude.{nat_le}
use Rattle.std.specs.Option.{option_map, option_map_or}
use Rattle.std.specs.List.{list_any, find}
use Rattle.std.specs.Str.{bytes_eq}
use Rattle.std.proofs.lemmas.Cmp.{nat_list_eq_equiv}
use Rattle.bt_base.specs.Ids.{same}
use Rattle.bt_base.proofs.SameIds.{same_equiv}
use Rattle.kept_table.specs.Slots.{AreApart, place_of, rows, has_text}
use Rattle.bt_rows.specs.Keys.{same_task, task_has_ids}
use Rattle.row_keys.specs.Passes.{are_distinct}
use Rattle.model_lists.proofs.Tests.{and_true, and_first, and_second, not_true, true_not}
use Rattle.model_lists.proofs.RowLists.{none_weaker}
use Rattle.batch_model.specs.Variants.{TaskRow}
use Rattle.tables_check.proofs.Matching.{any_alike}

unplaced : (o : Option ℕ) → option_map suc o ≡ None → o ≡ None
unplaced None h = refl
unplaced (Some n) h = cc

unplaced_here : (b : Bool) (o : Option ℕ) (r : Bool) → cond b (Some 0) (option_map suc o) ≡ None → (o ≡ None → r ≡ false) → (b || r) ≡ false
unplaced_here true o r h ih = cc
unplaced_here false o r h ih = ih (unplaced o h)

not_placed : {R : Type 0} (test : R → Bool) (slots : List (Option R)) → place_of test slots ≡ None → list_any test (rows slots) ≡ false
not_placed test [] h = refl
not_placed test (None ∷ slots) h = not_placed test slots (unplaced (place_of test slots) h)
not_placed test (Some row ∷ slots) h = unplaced_here (test row) (place_of test slots) (list_any test (rows slots)) h (not_placed test slots)

module _ {R : Type 0} (text : R → List ℕ) (same_key : R → R → Bool) (agree : (row other : R) → same_key row other ≡ bytes_eq (text row) (text other)) where
  -- rows whose keys have different texts have different keys
  pub distinct_apart : (slots : List (Option R)) → AreApart text slots → are_distinct same_key (rows slots) ≡ true
  distinct_apart [] h = refl
  distinct_apart (None ∷ slots) h = distinct_apart slots h
  distinct_apart (Some row ∷ slots) h =
      and_true
      (true_not (any_alike (same_key row) (has_text text (text row)) (λ other. agree row other ∙ nat_list_eq_equiv.symm (text row) (text other)) (rows slots)
      ∙ not_placed (has_text text (text row)) slots h.0))
      (distinct_apart slots h.1)

module _ {R : Type 0} (same_key : R → R → Bool) (p q : R → Bool) (joins : (x y : R) → p x ≡ true → p y ≡ true → same_key x y ≡ true) where
  only : (x : R) (xs : List R) (b rest : Bool) → p x ≡ b → list_any (same_key x) xs ≡ false → list_any (λ y. p y && q y) xs ≡ rest
      → rest ≡ option_map_or q (find p xs) false → ((b && q x) || rest) ≡ option_map_or q (cond b (Some x) (find p xs)) false
  only x xs true rest e apart is ih =
      let none : list_any (λ y. p y && q y) xs ≡ false = none_weaker (same_key x) (λ y. p y && q y) (λ y h. joins x y e (and_first (p y) (q y) h)) xs apart in
      ap (λ (r : Bool). q x || r) (sym is ∙ none) ∙ or_no (q x)
    where
      or_no : (b : Bool) → (b || false) ≡ b
      or_no true = refl
      or_no false = refl
  only x xs false rest e apart is ih = ih

  -- the row that is found is the only one that has the key
  pub only_found : (xs : List R) → are_distinct same_key xs ≡ true → list_any (λ x. p x && q x) xs ≡ option_map_or q (find p xs) false
  only_found [] h = refl
  only_found (x ∷ xs) h =
      only x xs (p x) (list_any (λ y. p y && q y) xs) refl
      (not_true (list_any (same_key x) xs) (and_first (not (list_any (same_key x) xs)) (are_distinct same_key xs) h)) refl
      (only_found xs (and_second (not (list_any (same_key x) xs)) (are_distinct same_key xs) h))

joined : (a b c : List ℕ) → same a c ≡ true → same b c ≡ true → same a b ≡ true
joined a b c h k = same_equiv.congr a c b h ∙ same_equiv.symm c b ∙ k

task_joins : (job id : List ℕ) (x y : TaskRow) → task_has_ids job id x ≡ true → task_has_ids job id y ≡ true → same_task x y ≡ true
task_joins job id x y h k =
    and_true
    (joined x.job y.job job (and_first (same x.job job) (same x.id id) h) (and_first (same y.job job) (same y.id id) k))
    (joined x.id y.id id (and_second (same x.job job) (same x.id id) h) (and_second (same y.job job) (same y.id id) k))

pub attempt_found : (job id : List ℕ) (attempt : ℕ) (tasks : List TaskRow) → are_distinct same_task tasks ≡ true
    → list_any (λ (task : TaskRow). same job task.job && same id task.id && nat_le attempt task.attempt) tasks
    ≡ option_map_or (λ (task : TaskRow). nat_le attempt task.attempt) (find (task_has_ids job id) tasks) false
attempt_found job id attempt tasks h =
    any_alike (λ (task : TaskRow). same job task.job && same id task.id && nat_le attempt task.attempt)
    (λ (task : TaskRow). task_has_ids job id task && nat_le attempt task.attempt)
    (λ task. rw (same_equiv.symm job task.job, same_equiv.symm id task.id) refl) tasks
    ∙ only_found same_task (task_has_ids job id) (λ (task : TaskRow). nat_le attempt task.attempt) (task_joins job id) tasks h

-- the rules of tasks and runs are facts of tables
pub with_known : (pools nodes jobs tasks runs preps samples scales : Bool) → tasks ≡ true → runs ≡ true
    → ((pools && (nodes && jobs)) && (preps && (samples && scales))) ≡ ((pools && (nodes && (jobs && tasks))) && (runs && (preps && (samples && scales))))
with_known pools nodes jobs tasks runs preps samples scales h k =
    rw (h, k) (ap (λ (b : Bool). (pools && (nodes && b)) && (preps && (samples && scales))) (whole jobs))
  where
    whole : (b : Bool) → b ≡ (b && true)
    whole true = refl
    whole false = refl
