-- The items are those of the tasks after a change.
use Rattle.std.proofs.Common.{◌≡◌, ℕ, zero, suc, ◌<◌, Bool, true, false, cond, ◌&&◌, nat_le, List, [], ◌∷◌, ◌++◌, length, set, Option, Some, None, refl, sym, ap, ◌∙◌, ⊎_elim}
use Rattle.std.specs.Option.{option_map}
use Rattle.std.proofs.lemmas.Bool.{cases_Bool, cond-false, lt-leb, and_right}
use Rattle.std.proofs.lemmas.Slice.Eq.{bytes_eq-Decides}
use Rattle.bt_base.specs.Ids.{same}
use Rattle.first_tree.specs.Ranks.{no_rank}
use Rattle.kept_table.specs.Keys.{id_text}
use Rattle.kept_table.specs.Slots.{place_of, put_at}
use Rattle.kept_table.proofs.KeyTexts.{same-id}
use Rattle.kept_table.proofs.PlacesOf.{here, behind}
use Rattle.ranked_groups.specs.Items.{Item, is_of, first_of, set_rank}
use Rattle.bt_rows.specs.Keys.{same_task}
use Rattle.batch_model.specs.Variants.{TaskRow}
use Rattle.task_index.specs.Active.{is_active_single, is_active_within, active_rank, active_item, AreItemsOf}
use Rattle.run_index.proofs.AttemptTexts.{both}

pub items_length : (slots : List (Option TaskRow)) (items : List Item) → AreItemsOf slots items → length items ≡ length slots
items_length [] items h = ap length h
items_length (slot ∷ slots) [] h = absurd h
items_length (slot ∷ slots) (item ∷ items) h = ap suc (items_length slots items h.1)

pub items_none_next : (slots : List (Option TaskRow)) (items : List Item) (group : List ℕ) → AreItemsOf slots items
    → AreItemsOf (slots ++ None ∷ []) (items ++ record { group = group; rank = no_rank } ∷ [])
items_none_next [] [] group h = (refl, refl)
items_none_next [] (item ∷ items) group h = absurd (cc)
items_none_next (slot ∷ slots) [] group h = absurd h
items_none_next (slot ∷ slots) (item ∷ items) group h = (h.0, items_none_next slots items group h.1)

pub items_push : (slots : List (Option TaskRow)) (items : List Item) (task : TaskRow) → AreItemsOf slots items
    → AreItemsOf (slots ++ Some task ∷ []) (items ++ active_item task ∷ [])
items_push [] [] task h = (refl, refl)
items_push [] (item ∷ items) task h = absurd (cc)
items_push (slot ∷ slots) [] task h = absurd h
items_push (slot ∷ slots) (item ∷ items) task h = (h.0, items_push slots items task h.1)

-- the task has the job of the one that it replaces
same_job_text : (old task : TaskRow) → same_task old task ≡ true → id_text old.job ≡ id_text task.job
same_job_text old task h =
    (bytes_eq-Decides (id_text old.job) (id_text task.job)).0 (sym (same-id old.job task.job) ∙ (both (same old.job task.job) (same old.id task.id) h).0)

items_replace : (slots : List (Option TaskRow)) (items : List Item) (at : ℕ) (task : TaskRow) → place_of (λ old. same_task old task) slots ≡ Some at
    → AreItemsOf slots items → AreItemsOf (set slots at (Some task)) (set_rank items at (active_rank task))
items_replace [] items at task some h = absurd (cc)
items_replace (slot ∷ slots) [] at task some h = absurd h
items_replace (None ∷ slots) (item ∷ items) at task some h =
    let b = behind false (place_of (λ old. same_task old task) slots) at refl some in
    rw b.next (h.0, items_replace slots items b.place task b.is h.1)
items_replace (Some old ∷ slots) (item ∷ items) at task some h =
    ⊎_elim
    (λ (e : same_task old task ≡ true).
    let group : item.group ≡ id_text task.job = ap (λ (i : Item). i.group) h.0 ∙ same_job_text old task e in
    rw (here (same_task old task) (place_of (λ other. same_task other task) slots) at e some)
    (ap (λ (g : List ℕ). record { group = g; rank = active_rank task }) group, h.1))
    (λ (e : same_task old task ≡ false).
    let b = behind (same_task old task) (place_of (λ other. same_task other task) slots) at e some in
    rw b.next (h.0, items_replace slots items b.place task b.is h.1))
    (cases_Bool (same_task old task))

pub items_clear : (slots : List (Option TaskRow)) (items : List Item) (at : ℕ) → AreItemsOf slots items → AreItemsOf (set slots at None) (set_rank items at no_rank)
items_clear [] [] at h = refl
items_clear [] (item ∷ items) at h = absurd (cc)
items_clear (slot ∷ slots) [] at h = absurd h
items_clear (slot ∷ slots) (item ∷ items) zero h = (refl, h.1)
items_clear (slot ∷ slots) (item ∷ items) (suc at) h = (h.0, items_clear slots items at h.1)

-- the items after a put
abbrev pub items_after : Option ℕ → TaskRow → List Item → List Item
items_after None task items = items ++ active_item task ∷ []
items_after (Some at) task items = set_rank items at (active_rank task)

pub items_put : (before : Option ℕ) (slots : List (Option TaskRow)) (items : List Item) (task : TaskRow) → before ≡ place_of (λ old. same_task old task) slots
    → AreItemsOf slots items → AreItemsOf (put_at before task slots) (items_after before task items)
items_put None slots items task e h = items_push slots items task h
items_put (Some at) slots items task e h = items_replace slots items at task (sym e) h

active_test : (a r : Bool) (slots most : ℕ) → most < no_rank → (a && nat_le (cond r slots no_rank) most) ≡ ((a && r) && nat_le slots most)
active_test true true slots most l = refl
active_test true false slots most l = lt-leb no_rank most l
active_test false r slots most l = refl

pub active_first : (job : List ℕ) (most : ℕ) (slots : List (Option TaskRow)) (items : List Item) → most < no_rank → AreItemsOf slots items
    → first_of (id_text job) most items ≡ place_of (is_active_within job most) slots
active_first job most [] items l h = ap (first_of (id_text job) most) h
active_first job most (slot ∷ slots) [] l h = absurd h
active_first job most (None ∷ slots) (item ∷ items) l h =
    let no : nat_le item.rank most ≡ false = ap (λ (n : ℕ). nat_le n most) h.0 ∙ lt-leb no_rank most l in
    cond-false (is_of (id_text job) item && nat_le item.rank most) (Some 0) (option_map suc (first_of (id_text job) most items))
    (and_right (is_of (id_text job) item) (nat_le item.rank most) no)
    ∙ ap (option_map suc) (active_first job most slots items l h.1)
active_first job most (Some task ∷ slots) (item ∷ items) l h =
    let test : (is_of (id_text job) item && nat_le item.rank most) ≡ is_active_within job most task =
    ap (λ (i : Item). is_of (id_text job) i && nat_le i.rank most) h.0
    ∙ ap (λ (b : Bool). b && nat_le (active_rank task) most) (sym (same-id task.job job))
    ∙ active_test (same task.job job) (is_active_single task) task.slots most l in
    ap (λ (b : Bool). cond b (Some 0) (option_map suc (first_of (id_text job) most items))) test
    ∙ ap (λ (p : Option ℕ). cond (is_active_within job most task) (Some 0) (option_map suc p)) (active_first job most slots items l h.1)
