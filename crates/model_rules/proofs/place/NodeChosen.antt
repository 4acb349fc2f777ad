-- The node that is chosen for a task: it fits, and it is the one with its number.
use Rattle.std.proofs.Common.{◌≡◌, ℕ, Bool, true, false, not, ◌&&◌, List, [], ◌∷◌, Option, Some, None, is_none, cond, ◌⊎◌, inl, inr, refl, subst}
use Rattle.std.specs.List.{list_any, find, filter}
use Rattle.std.specs.Cmp.{IsEquivalence}
use Rattle.bt_rows.specs.Keys.{same_node, same_node_equiv}
use Rattle.bt_rows.specs.Lists.{AreDistinct}
use Rattle.batch_model.specs.Finding.{Each, best}
use Rattle.batch_model.specs.Tasks.{is_active, is_in_job}
use Rattle.batch_model.specs.Readiness.{is_unblocked, is_ready}
use Rattle.batch_model.specs.Placing.{is_placeable, fits, precedes, choice}
use Rattle.batch_model.specs.Variants.{State, JobRow, PoolRow, NodeRow, TaskRow}
use Rattle.model_lists.proofs.Tests.{and_true, and_first, and_second, not_true}
use Rattle.model_lists.proofs.RowLists.{each_head, each_tail, each_found, any_none}

-- an active task of the job
abbrev pub is_candidate : JobRow → TaskRow → Bool
is_candidate job task = is_in_job job.id task && is_active task.stage

-- a task that can be placed is one
pub placeable_candidate : (s : State) (job : JobRow) (task : TaskRow) → is_placeable s job task ≡ true → is_candidate job task ≡ true
placeable_candidate s job task h =
    and_true (and_first (is_in_job job.id task) (is_ready s task) (and_first _ (is_none task.multi) h))
    (and_first (is_active task.stage) (is_unblocked s task) (and_second (is_in_job job.id task) (is_ready s task) (and_first _ (is_none task.multi) h)))

module _ {R : Type 0} (before : R → R → Bool) where
  -- the better of a row and the best of the others
  abbrev better : R → Option R → Option R
  better row None = Some row
  better row (Some other) = cond (before other row) (Some other) (Some row)

  -- one of two rows
  one_of_two : (row other x : R) (b : Bool) → cond b (Some other) (Some row) ≡ Some x → (row ≡ x) ⊎ (other ≡ x)
  one_of_two row other x true e = inr (cc)
  one_of_two row other x false e = inl (cc)

  -- the row, or the best of the others
  from_better : (row x : R) (o : Option R) → better row o ≡ Some x → (row ≡ x) ⊎ (o ≡ Some x)
  from_better row x None e = inl (cc)
  from_better row x (Some other) e = elim (one_of_two row other x (before other row) e) [
    | inl i ↦ inl i
    | inr i ↦ inr (cc)
  ]

  -- the best row is the first one, or the best of the others
  best_cons : (row : R) (rows : List R) (x : R) → best before (row ∷ rows) ≡ Some x → (row ≡ x) ⊎ (best before rows ≡ Some x)
  best_cons row rows x e = from_better row x (best before rows) e

  -- what the first row passes and the best of the others does, the best does
  passes_cons : (p : R → Bool) (row x : R) (rows : List R) → p row ≡ true → (best before rows ≡ Some x → p x ≡ true) → (row ≡ x) ⊎ (best before rows ≡ Some x)
      → p x ≡ true
  passes_cons p row x rows h ih (inl i) = subst (λ y. p y ≡ true) i h
  passes_cons p row x rows h ih (inr e) = ih e

  -- what each row passes, the best does
  pub best_passes : (p : R → Bool) (rows : List R) (x : R) → Each p rows → best before rows ≡ Some x → p x ≡ true
  best_passes p [] x h e = cc
  best_passes p (row ∷ rows) x h e =
      passes_cons p row x rows (each_head p row rows h) (best_passes p rows x (each_tail p row rows h)) (best_cons row rows x e)

-- the rows that are kept pass
pub filter_passes : {R : Type 0} (p : R → Bool) (rows : List R) → Each p (filter p rows)
filter_passes p [] = refl
filter_passes p (row ∷ rows) = kept (p row) refl (filter_passes p rows)
  where
    kept : (b : Bool) → p row ≡ b → Each p (filter p rows) → Each p (cond b (row ∷ filter p rows) (filter p rows))
    kept true e h = rw (e, h) refl
    kept false e h = h

module _ {R : Type 0} (same : R → R → Bool) (e : IsEquivalence same) (before : R → R → Bool) (p : R → Bool) where
  -- the first row is the one with its key
  first_here : (row x : R) (rows : List R) → row ≡ x → find (λ y. same y x) (row ∷ rows) ≡ Some x
  first_here row x rows i = subst (λ y. find (λ z. same z y) (row ∷ rows) ≡ Some y) i (rw (e.refl row) refl)

  -- a later one is still, since the first row has another key
  first_later : (row x : R) (rows : List R) → list_any (same row) rows ≡ false → find (λ y. same y x) rows ≡ Some x → find (λ y. same y x) (row ∷ rows) ≡ Some x
  first_later row x rows d f =
      let n : same row x ≡ false = not_true (same row x) (each_found (λ y. not (same row y)) (λ y. same y x) x rows f (any_none (same row) rows d)) in
      rw n f

  first_cons : (row x : R) (rows : List R) (b : Bool) → list_any (same row) rows ≡ false → best before (cond b (row ∷ filter p rows) (filter p rows)) ≡ Some x
      → (best before (filter p rows) ≡ Some x → find (λ y. same y x) rows ≡ Some x) → find (λ y. same y x) (row ∷ rows) ≡ Some x
  first_cons row x rows true d h ih = elim (best_cons before row (filter p rows) x h) [
    | inl i ↦ first_here row x rows i
    | inr k ↦ first_later row x rows d (ih k)
  ]
  first_cons row x rows false d h ih = first_later row x rows d (ih h)

  -- the best of the rows that pass is the one with its key, where keys are distinct
  pub best_first : (rows : List R) (x : R) → AreDistinct same rows → best before (filter p rows) ≡ Some x → find (λ y. same y x) rows ≡ Some x
  best_first [] x d h = cc
  best_first (row ∷ rows) x d h = first_cons row x rows (p row) d.0 h (best_first rows x d.1)

module _ (s : State) (job : JobRow) (pool : PoolRow) (need : ℕ) (node : NodeRow) (chosen : choice s job pool need ≡ Some node) where
  -- the node has the slots free
  pub chosen_fits : fits s job pool need node ≡ true
  chosen_fits = best_passes (precedes s pool.fill) (fits s job pool need) (filter (fits s job pool need) s.nodes) node (filter_passes (fits s job pool need) s.nodes) chosen

  -- it is the one with its number
  pub chosen_first : AreDistinct same_node s.nodes → find (λ (other : NodeRow). same_node other node) s.nodes ≡ Some node
  chosen_first keys = best_first same_node same_node_equiv (precedes s pool.fill) (fits s job pool need) s.nodes node keys chosen
