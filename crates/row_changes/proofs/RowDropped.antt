-- The drop of one row by its key leaves the rows without it.
use Rattle.std.proofs.Common.{◌≡◌, ℕ, Bool, true, false, not, List, [], ◌∷◌, cond, filter, refl, sym, ◌∙◌, ap}
use Rattle.std.specs.Cmp.{nat_eq_equiv}
use Rattle.std.specs.List.{list_any}
use Rattle.bt_base.proofs.SameIds.{same_equiv}
use Rattle.bt_rows.specs.Changes.{apply_change}
use Rattle.bt_rows.specs.Keys.{same_pool, same_node}
use Rattle.bt_rows.specs.Lists.{drop_row, AreDistinct}
use Rattle.bt_rows.specs.declared.tables.Change.TheVariants.{DropPool, DropNode}
use Rattle.batch_model.specs.Rows.{is_pool, is_node}
use Rattle.batch_model.specs.Variants.{State}
use Rattle.model_lists.proofs.RowLists.{none_weaker}
use Rattle.model_lists.proofs.Tests.{or_false_first, or_false_second}

module _ {R : Type 0} (has : R → Bool) where
  all_cons : (x : R) (xs : List R) (b : Bool) → has x ≡ b → b ≡ false → filter (λ y. not (has y)) xs ≡ xs → filter (λ y. not (has y)) (x ∷ xs) ≡ x ∷ xs
  all_cons x xs b e f ih = rw (e ∙ f) (ap (λ rows. x ∷ rows) ih)

  -- all rows stay where none has the key
  filter_all : (xs : List R) → list_any has xs ≡ false → filter (λ y. not (has y)) xs ≡ xs
  filter_all [] h = refl
  filter_all (x ∷ xs) h =
      all_cons x xs (has x) refl (or_false_first (has x) (list_any has xs) h) (filter_all xs (or_false_second (has x) (list_any has xs) h))

module _ {R : Type 0} (same_row : R → R → Bool) (has : R → Bool) (key : (x y : R) → has x ≡ true → has y ≡ true → same_row x y ≡ true) where
  first_cons : (x : R) (xs : List R) (b : Bool) → has x ≡ b → list_any (same_row x) xs ≡ false → drop_row has xs ≡ filter (λ y. not (has y)) xs
      → cond b xs (x ∷ drop_row has xs) ≡ cond (not b) (x ∷ filter (λ y. not (has y)) xs) (filter (λ y. not (has y)) xs)
  first_cons x xs true i d ih = sym (filter_all has xs (none_weaker (same_row x) has (λ y j. key x y i j) xs d))
  first_cons x xs false i d ih = ap (λ rows. x ∷ rows) ih

  -- the first row with the key is the only one, if keys are distinct
  drop_filters : (xs : List R) → AreDistinct same_row xs → drop_row has xs ≡ filter (λ y. not (has y)) xs
  drop_filters [] d = refl
  drop_filters (x ∷ xs) d = first_cons x xs (has x) refl d.0 (drop_filters xs d.1)

pub pool_dropped : (id : List ℕ) (s : State) → AreDistinct same_pool s.pools → apply_change (DropPool id) s ≡ record s { pools = filter (λ pool. not (is_pool id pool)) s.pools }
pool_dropped id s d =
    ap (λ pools. record s { pools = pools })
    (drop_filters same_pool (is_pool id) (λ pool other h k. same_equiv.congr pool.id id other.id h ∙ (same_equiv.symm id other.id ∙ k)) s.pools d)

pub node_dropped : (number : ℕ) (s : State) → AreDistinct same_node s.nodes → apply_change (DropNode number) s ≡ record s { nodes = filter (λ node. not (is_node number node)) s.nodes }
node_dropped number s d =
    ap (λ nodes. record s { nodes = nodes })
    (drop_filters same_node (is_node number) (λ node other h k. nat_eq_equiv.congr node.number number other.number h ∙ (nat_eq_equiv.symm number other.number ∙ k)) s.nodes d)
