-- The entry of a node, if no two entries are of one node.
use Rattle.std.proofs.Common.{◌≡◌, ℕ, Bool, true, false, not, ◌&&◌, ◌||◌, List, [], ◌∷◌, ◌++◌, Some, None, cond, filter, find, refl, sym, ◌∙◌, ap, subst, get_or, set}
use Rattle.std.specs.Prelude.{nat_eq}
use Rattle.std.specs.List.{list_any, position, remove}
use Rattle.std.specs.Cmp.{nat_eq_equiv}
use Rattle.std.proofs.lemmas.Bool.{eqb-true}
use Rattle.bt_rows.specs.Lists.{AreDistinct, put_row, drop_row}
use Rattle.bt_rows.proofs.PutRows.{placed, absent}
use Rattle.slot_ledger.specs.Ledgers.{Entry, is_of, same_node, has_node, change_entry, without_node}

-- tests

pub or_first : (a b : Bool) → (a || b) ≡ false → a ≡ false
or_first true b h = cc
or_first false b h = refl

pub or_second : (a b : Bool) → (a || b) ≡ false → b ≡ false
or_second true b h = cc
or_second false b h = h

or_false : {a b : Bool} → a ≡ false → b ≡ false → (a || b) ≡ false
or_false h k = rw (h, k) refl

module _ {R : Type 0} where
  any_agree : (p q : R → Bool) → ((x : R) → p x ≡ q x) → (xs : List R) → list_any p xs ≡ list_any q xs
  any_agree p q agree [] = refl
  any_agree p q agree (x ∷ xs) = rw (agree x, any_agree p q agree xs) refl

  any_append : (p : R → Bool) (xs : List R) (row : R) → list_any p xs ≡ false → p row ≡ false → list_any p (xs ++ row ∷ []) ≡ false
  any_append p [] row h k = or_false k refl
  any_append p (x ∷ xs) row h k = or_false (or_first (p x) (list_any p xs) h) (any_append p xs row (or_second (p x) (list_any p xs) h) k)

  -- what none of a list passes, none of its filter does
  filter_more : (p : R → Bool) (x : R) (rest : List R) (b : Bool) → p x ≡ false → list_any p rest ≡ false → list_any p (cond b (x ∷ rest) rest) ≡ false
  filter_more p x rest true h k = or_false h k
  filter_more p x rest false h k = k

  any_filter : (p q : R → Bool) (xs : List R) → list_any p xs ≡ false → list_any p (filter q xs) ≡ false
  any_filter p q [] h = refl
  any_filter p q (x ∷ xs) h = filter_more p x (filter q xs) (q x) (or_first (p x) (list_any p xs) h) (any_filter p q xs (or_second (p x) (list_any p xs) h))

  distinct_more : (r : R → R → Bool) (x : R) (rest : List R) (b : Bool) → list_any (r x) rest ≡ false → AreDistinct r rest → AreDistinct r (cond b (x ∷ rest) rest)
  distinct_more r x rest true h d = (h, d)
  distinct_more r x rest false h d = d

  pub distinct_filter : (r : R → R → Bool) (q : R → Bool) (xs : List R) → AreDistinct r xs → AreDistinct r (filter q xs)
  distinct_filter r q [] d = tt
  distinct_filter r q (x ∷ xs) d = distinct_more r x (filter q xs) (q x) (any_filter (r x) q xs d.0) (distinct_filter r q xs d.1)

  distinct_append : (r : R → R → Bool) (xs : List R) (row : R) → AreDistinct r xs → list_any (λ x. r x row) xs ≡ false → AreDistinct r (xs ++ row ∷ [])
  distinct_append r [] row d h = (refl, tt)
  distinct_append r (x ∷ xs) row d h = (
    any_append (r x) xs row d.0 (or_first (r x row) (list_any (λ y. r y row) xs) h),
    distinct_append r xs row d.1 (or_second (r x row) (list_any (λ y. r y row) xs) h),
  )

-- entries

-- changes that keep the nodes
abbrev pub KeepsNode : (Entry → Entry) → Type 0
KeepsNode change = (entry : Entry) → (change entry).node ≡ entry.node

module _ (node : ℕ) (change : Entry → Entry) where
  abbrev pub changed : Entry → Entry
  changed entry = cond (is_of node entry) (change entry) entry

  changed_node : KeepsNode change → (entry : Entry) → (changed entry).node ≡ entry.node
  changed_node keeps entry = either (is_of node entry)
    where
      either : (b : Bool) → (cond b (change entry) entry).node ≡ entry.node
      either true = keeps entry
      either false = refl

  any_changed : KeepsNode change → (number : ℕ) (xs : List Entry) → list_any (is_of number) (change_entry node change xs) ≡ list_any (is_of number) xs
  any_changed keeps number [] = refl
  any_changed keeps number (x ∷ xs) = ap (λ n. nat_eq n number || list_any (is_of number) (change_entry node change xs)) (changed_node keeps x) ∙ ap (λ b. is_of number x || b) (any_changed keeps number xs)

  pub distinct_changed : KeepsNode change → (xs : List Entry) → AreDistinct same_node xs → AreDistinct same_node (change_entry node change xs)
  distinct_changed keeps [] d = tt
  distinct_changed keeps (x ∷ xs) d = (
    any_changed keeps (changed x).node xs ∙ ap (λ n. list_any (is_of n) xs) (changed_node keeps x) ∙ d.0,
    distinct_changed keeps xs d.1,
  )

  -- without an entry of the node nothing changes
  unchanged : (xs : List Entry) → list_any (is_of node) xs ≡ false → change_entry node change xs ≡ xs
  unchanged [] h = refl
  unchanged (x ∷ xs) h =
      ap (λ b. cond b (change x) x ∷ change_entry node change xs) (or_first (is_of node x) (list_any (is_of node) xs) h)
      ∙ ap (λ rest. x ∷ rest) (unchanged xs (or_second (is_of node x) (list_any (is_of node) xs) h))

  put_more : (x first : Entry) (xs : List Entry) (b : Bool) → is_of node x ≡ b → list_any (same_node x) xs ≡ false → cond b (Some x) (find (is_of node) xs) ≡ Some first → (find (is_of node) xs ≡ Some first → put_row (is_of node) (change first) xs ≡ change_entry node change xs) → cond b (change first ∷ xs) (x ∷ put_row (is_of node) (change first) xs) ≡ cond b (change x) x ∷ change_entry node change xs
  put_more x first xs true e d h ih =
      let i : x ≡ first = cc in
      let n : list_any (is_of node) xs ≡ false = ap (λ n. list_any (is_of n) xs) (sym (eqb-true x.node node e)) ∙ d in
      rw (unchanged xs n) (ap (λ y. change y ∷ xs) (sym i))
  put_more x first xs false e d h ih = ap (λ rest. x ∷ rest) (ih h)

  -- the first entry of the node, changed in its place, is all that changes
  pub put_changed : (first : Entry) (xs : List Entry) → AreDistinct same_node xs → find (is_of node) xs ≡ Some first → put_row (is_of node) (change first) xs ≡ change_entry node change xs
  put_changed first [] d h = cc
  put_changed first (x ∷ xs) d h = put_more x first xs (is_of node x) refl d.0 h (put_changed first xs d.1)

module _ (node : ℕ) where
  -- without an entry of the node nothing is removed
  all_kept : (xs : List Entry) → list_any (is_of node) xs ≡ false → without_node xs node ≡ xs
  all_kept [] h = refl
  all_kept (x ∷ xs) h =
      ap (λ b. cond (not b) (x ∷ without_node xs node) (without_node xs node)) (or_first (is_of node x) (list_any (is_of node) xs) h)
      ∙ ap (λ rest. x ∷ rest) (all_kept xs (or_second (is_of node x) (list_any (is_of node) xs) h))

  drop_more : (x : Entry) (xs : List Entry) (b : Bool) → is_of node x ≡ b → list_any (same_node x) xs ≡ false → drop_row (is_of node) xs ≡ without_node xs node → cond b xs (x ∷ drop_row (is_of node) xs) ≡ cond (not b) (x ∷ without_node xs node) (without_node xs node)
  drop_more x xs true e d ih = sym (all_kept xs (ap (λ n. list_any (is_of n) xs) (sym (eqb-true x.node node e)) ∙ d))
  drop_more x xs false e d ih = ap (λ rest. x ∷ rest) ih

  -- the first entry of the node is the only one
  pub dropped : (xs : List Entry) → AreDistinct same_node xs → drop_row (is_of node) xs ≡ without_node xs node
  dropped [] d = refl
  dropped (x ∷ xs) d = drop_more x xs (is_of node x) refl d.0 (dropped xs d.1)

  pub none_more : (test : Entry → Bool) (xs : List Entry) → list_any (is_of node) xs ≡ false → list_any (λ y. is_of node y && test y) xs ≡ true → ⊥
  none_more test [] h k = cc
  none_more test (x ∷ xs) h k =
      let e : is_of node x ≡ false = or_first (is_of node x) (list_any (is_of node) xs) h in
      none_more test xs (or_second (is_of node x) (list_any (is_of node) xs) h) (ap (λ b. (b && test x) || list_any (λ y. is_of node y && test y) xs) (sym e) ∙ k)

  pub or_none : (b c : Bool) → (b || c) ≡ true → (c ≡ true → ⊥) → b ≡ true
  or_none true c h k = refl
  or_none false c h k = absurd (k h)

  passes_more : (test : Entry → Bool) (x first : Entry) (xs : List Entry) (b : Bool) → is_of node x ≡ b → list_any (same_node x) xs ≡ false → cond b (Some x) (find (is_of node) xs) ≡ Some first → ((b && test x) || list_any (λ y. is_of node y && test y) xs) ≡ true → (find (is_of node) xs ≡ Some first → list_any (λ y. is_of node y && test y) xs ≡ true → test first ≡ true) → test first ≡ true
  passes_more test x first xs true e d h k ih =
      let i : x ≡ first = cc in
      let n : list_any (is_of node) xs ≡ false = ap (λ n. list_any (is_of n) xs) (sym (eqb-true x.node node e)) ∙ d in
      subst (λ y. test y ≡ true) i (or_none (test x) (list_any (λ y. is_of node y && test y) xs) k (none_more test xs n))
  passes_more test x first xs false e d h k ih = ih h k

  -- what some entry of the node passes, its first one does
  pub passes : (test : Entry → Bool) (first : Entry) (xs : List Entry) → AreDistinct same_node xs → find (is_of node) xs ≡ Some first → list_any (λ y. is_of node y && test y) xs ≡ true → test first ≡ true
  passes test first [] d h k = cc
  passes test first (x ∷ xs) d h k = passes_more test x first xs (is_of node x) refl d.0 h k (passes test first xs d.1)

  found_none_more : (test : Entry → Bool) (x : Entry) (xs : List Entry) (b : Bool) → cond b (Some x) (find (is_of node) xs) ≡ None → ((b && test x) || list_any (λ y. is_of node y && test y) xs) ≡ true → (find (is_of node) xs ≡ None → list_any (λ y. is_of node y && test y) xs ≡ true → ⊥) → ⊥
  found_none_more test x xs true h k ih = cc
  found_none_more test x xs false h k ih = ih h k

  found_none : (test : Entry → Bool) (xs : List Entry) → find (is_of node) xs ≡ None → list_any (λ y. is_of node y && test y) xs ≡ true → ⊥
  found_none test [] h k = cc
  found_none test (x ∷ xs) h k = found_none_more test x xs (is_of node x) h k (found_none test xs)

  -- a node whose entry passes a test has an entry
  pub not_absent : (test : Entry → Bool) (xs : List Entry) → None ≡ position (is_of node) xs → list_any (λ y. is_of node y && test y) xs ≡ true → ⊥
  not_absent test xs e k = found_none test xs (absent (is_of node) xs e).found k

-- the entry at the place of the node
pub record AtPlace (node : ℕ) (xs : List Entry) (k : ℕ) : Type 0 where
  pub change : (change : Entry → Entry) (entry d : Entry) → entry ≡ change (get_or xs k d) → set xs k entry ≡ change_entry node change xs
  pub remove : remove xs k ≡ without_node xs node
  pub passes : (test : Entry → Bool) (d : Entry) → list_any (λ y. is_of node y && test y) xs ≡ true → test (get_or xs k d) ≡ true

pub at_place : (node : ℕ) (seen xs : List Entry) (k : ℕ) → Some k ≡ position (is_of node) seen → seen ≡ xs → AreDistinct same_node xs → AtPlace node xs k
at_place node seen xs k e f distinct =
    let p = placed (is_of node) xs k (e ∙ ap (position (is_of node)) f) in
    record {
      change = λ change entry d i. sym (p.put entry) ∙ ap (λ y. put_row (is_of node) y xs) i ∙ put_changed node change (get_or xs k d) xs distinct (p.found d);
      remove = sym p.drop ∙ dropped node xs distinct;
      passes = λ test d h. passes node test (get_or xs k d) xs distinct (p.found d) h;
    }

-- what some entry of the node passes, the one at its place does
pub passes_there : (node k : ℕ) (test : Entry → Bool) (xs self : List Entry) (old : Entry) → AtPlace node xs k → xs ≡ self → old ≡ get_or xs k old → list_any (λ y. is_of node y && test y) self ≡ true → test old ≡ true
passes_there node k test xs self old p v e h =
    subst (λ y. test y ≡ true) (sym e) (p.passes test old (ap (list_any (λ y. is_of node y && test y)) v ∙ h))

-- the entry at its place, changed, is what changes
pub changed_there : (node k : ℕ) (change : Entry → Entry) (xs self : List Entry) (old new : Entry) → AtPlace node xs k → xs ≡ self → old ≡ get_or xs k old → new ≡ change old → set xs k new ≡ change_entry node change self
changed_there node k change xs self old new p v e f = p.change change new old (f ∙ ap change e) ∙ ap (change_entry node change) v

-- no two entries are of one node afterwards
pub distinct_there : (node k : ℕ) (change : Entry → Entry) (xs : List Entry) (old new : Entry) → AtPlace node xs k → KeepsNode change → old ≡ get_or xs k old → new ≡ change old → AreDistinct same_node xs → AreDistinct same_node (set xs k new)
distinct_there node k change xs old new p keeps e f distinct =
    subst (AreDistinct same_node) (sym (p.change change new old (f ∙ ap change e))) (distinct_changed node change keeps xs distinct)

pub distinct_removed : (node k : ℕ) (xs : List Entry) → AtPlace node xs k → AreDistinct same_node xs → AreDistinct same_node (remove xs k)
distinct_removed node k xs p distinct = subst (AreDistinct same_node) (sym p.remove) (distinct_filter same_node (λ entry. not (is_of node entry)) xs distinct)

pub distinct_added : (xs self : List Entry) (entry : Entry) → xs ≡ self → AreDistinct same_node xs → has_node self entry.node ≡ false → AreDistinct same_node (xs ++ entry ∷ [])
distinct_added xs self entry v distinct h =
    distinct_append same_node xs entry distinct
    (any_agree (λ x. same_node x entry) (is_of entry.node) (λ x. nat_eq_equiv.symm entry.node x.node) xs ∙ ap (list_any (is_of entry.node)) v ∙ h)

-- a node whose entry passes a test has a place
pub has_place : (node : ℕ) (test : Entry → Bool) (seen xs self : List Entry) → None ≡ position (is_of node) seen → seen ≡ xs → xs ≡ self → list_any (λ y. is_of node y && test y) self ≡ true → ⊥
has_place node test seen xs self e f v h =
    not_absent node test xs (e ∙ ap (position (is_of node)) f) (ap (list_any (λ y. is_of node y && test y)) v ∙ h)
