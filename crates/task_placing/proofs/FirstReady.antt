-- The first ready task of a job is its first active one, if this one waits for no other.
use Rattle.std.proofs.Common.{◌≡◌, ℕ, Bool, true, false, ◌&&◌, List, [], ◌∷◌, Option, Some, None, cond, refl, sym, ◌∙◌, ap}
use Rattle.std.specs.List.{find}
use Rattle.batch_model.specs.Readiness.{is_unblocked}
use Rattle.batch_model.specs.Variants.{State, TaskRow}
use Rattle.task_index.specs.Active.{is_active_within}
use Rattle.task_placing.specs.Fitting.{is_ready_within}

module _ {R : Type 0} (p q : R → Bool) where
  none_more : (x : R) (first both : Option R) (b c : Bool) → cond b (Some x) first ≡ None → (first ≡ None → both ≡ None)
      → cond (b && c) (Some x) both ≡ None
  none_more x first both true c h ih = cc
  none_more x first both false c h ih = ih h

  -- no row passes two tests if none passes the first
  none_of_both : (xs : List R) → find p xs ≡ None → find (λ x. p x && q x) xs ≡ None
  none_of_both [] h = refl
  none_of_both (x ∷ xs) h = none_more x (find p xs) (find (λ y. p y && q y) xs) (p x) (q x) h (none_of_both xs)

  first_more : (x row : R) (first both : Option R) (b c : Bool) → q x ≡ c → cond b (Some x) first ≡ Some row → q row ≡ true
      → (first ≡ Some row → both ≡ Some row) → cond (b && c) (Some x) both ≡ Some row
  first_more x row first both true true e h passes ih = h
  first_more x row first both true false e h passes ih =
      let same : x ≡ row = cc in
      let k : false ≡ true = sym e ∙ ap q same ∙ passes in
      absurd (cc)
  first_more x row first both false c e h passes ih = ih h

  -- the first row that passes the first test is the first that passes both, if it passes the second
  first_of_both : (row : R) (xs : List R) → find p xs ≡ Some row → q row ≡ true → find (λ x. p x && q x) xs ≡ Some row
  first_of_both row [] h passes = absurd (cc)
  first_of_both row (x ∷ xs) h passes =
      first_more x row (find p xs) (find (λ y. p y && q y) xs) (p x) (q x) refl h passes (λ f. first_of_both row xs f passes)

-- no task is ready if none is active
pub none_ready : (s : State) (job : List ℕ) (most : ℕ) → find (is_active_within job most) s.tasks ≡ None
    → find (is_ready_within s job most) s.tasks ≡ None
none_ready s job most h = none_of_both (is_active_within job most) (is_unblocked s) s.tasks h

-- the first active task is the first ready one, if it waits for no other
pub active_is_ready : (s : State) (job : List ℕ) (most : ℕ) (task : TaskRow) → find (is_active_within job most) s.tasks ≡ Some task
    → is_unblocked s task ≡ true → find (is_ready_within s job most) s.tasks ≡ Some task
active_is_ready s job most task h unblocked = first_of_both (is_active_within job most) (is_unblocked s) task s.tasks h unblocked
