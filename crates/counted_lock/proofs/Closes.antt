-- What `close` leaves, closed or not.
use Rattle.std.proofs.Common.{◌≡◌, ℕ, suc, ◌<◌, ◌≤◌, ◌==◌, eq-eqb, List, [], ◌∷◌, ◌++◌, length, get_or, refl, ap, sym, ◌∙◌, subst, arith}
use Rattle.std.specs.Prelude.{All}
use mathlib.Core.List.{IsPrefix}
use lib.ListN.{length-map}
use Rattle.atomic_table.specs.Table.{Me}
use Rattle.atomic_table.specs.Seated.{TableId}
use Rattle.counted_lock.specs.declared.views.Stamped.{Stamped}
use Rattle.counted_lock.specs.declared.views.View.{View}
use Rattle.counted_lock.specs.Views.{places_of, unnumbered, one_if, times_in}
use Rattle.counted_lock.specs.Turns.{SeesWhole, LeavesObject}
use Rattle.counted_lock.specs.Passes.{PassState, LockIdentity, IsPassOf, numbers_of, lent}
use Rattle.counted_lock.specs.Closing.{IsAt, IsLentAt, AreLent, AreBack, IsShared, whole}
use Rattle.counted_lock.proofs.Prefixes.{prefix_trans}
use Rattle.counted_lock.proofs.Loops.{same_lists}

-- the parts of a new seat to which two passes lent theirs
pub two_parts : (a b : ℕ) (start first both : List ℕ) → start ≡ [] → first ≡ start ++ a ∷ [] → both ≡ first ++ b ∷ [] → both ≡ a ∷ b ∷ []
two_parts a b start first both none one two = two ∙ ap (λ (z : List ℕ). z ++ b ∷ []) (one ∙ ap (λ (z : List ℕ). z ++ a ∷ []) none)

-- those that are left once the first was returned
pub one_part : (a b n : ℕ) (both rest : List ℕ) → both ≡ a ∷ b ∷ [] → both ≡ n ∷ rest → rest ≡ b ∷ []
one_part a b n both rest is also = let same : n ∷ rest ≡ a ∷ b ∷ [] = sym also ∙ is in cc same

-- the two numbers are different if none is twice in these parts
pub two_apart : (a b : ℕ) (both : List ℕ) → both ≡ a ∷ b ∷ [] → ((n : ℕ) → times_in n both ≤ 1) → a ≡ b → ⊥
two_apart a b both is once same = let twice : times_in a (a ∷ b ∷ []) ≤ 1 = subst (λ (z : List ℕ). times_in a z ≤ 1) is (once a) in
    let first : one_if (a == a) ≡ 1 = ap one_if (eq-eqb a a refl) in
    let second : one_if (b == a) ≡ 1 = ap one_if (eq-eqb b a (sym same)) in omega arith

module _ {E O : Type 0} where
  pub are_at : (l : LockIdentity O) (t : TableId) (ps : List (PassState E O)) → l.table ≡ t → All (IsPassOf l) ps → All (IsAt t) ps
  are_at l t ps same all k d lt = let p = all k d lt in record { table = p.0 ∙ same; real = (l.origin, p.1); part = p.2 }

  pub are_lent_at : (t t' : TableId) (ps qs : List (PassState E O)) → t ≡ t' → All (IsAt t) ps → AreLent ps qs → All (IsLentAt t') qs
  are_lent_at t t' ps qs same all lents k d lt =
      let inside : k < length ps = subst (λ (n : ℕ). k < n) lents.count lt in let p = all k d inside in
      subst (IsLentAt t') (sym (lents.each k d inside)) record { table = p.table ∙ same; real = p.real; part = refl }

  -- a pass that lends its part and gets it back is as before
  pub once_more : (p : PassState E O) → p.parts ≡ p.number ∷ [] → whole (lent p) ≡ p
  once_more p e = ap (λ (ns : List ℕ). record { table = p.table; number = p.number; origin = p.origin; seen = p.seen; parts = ns }) (sym e)

  pub as_before : (l : LockIdentity O) (ps qs rs : List (PassState E O)) → All (IsPassOf l) ps → AreLent ps qs → AreBack qs rs → rs ≡ ps
  as_before l ps qs rs all lents backs = same_lists rs ps (backs.count ∙ lents.count) (λ k d lt.
      let inside : k < length qs = subst (λ (n : ℕ). k < n) (sym lents.count) lt in
      backs.each k d inside ∙ (ap whole (lents.each k d lt) ∙ once_more (get_or ps k d) (all k d lt).2))

  -- a pass that has lent its part
  pub lent_at : (t t' : TableId) (p q : PassState E O) → t ≡ t' → IsAt t p → q ≡ lent p → IsLentAt t' q
  lent_at t t' p q same at is = subst (IsLentAt t') (sym is) record { table = at.table ∙ same; real = at.real; part = refl }

  -- it gets its part back
  pub whole_again : (p q r : PassState E O) → p.parts ≡ p.number ∷ [] → q ≡ lent p → r ≡ whole q → r ≡ p
  whole_again p q r part is back = back ∙ (ap whole is ∙ once_more p part)

  pub numbers_length : (ps : List (PassState E O)) → length (numbers_of ps) ≡ length ps
  numbers_length ps = length-map ps (λ p. p.number)

  -- passes that are lent have the numbers that they had
  pub lent_numbers : (ps qs : List (PassState E O)) → AreLent ps qs → numbers_of qs ≡ numbers_of ps
  lent_numbers [] [] l = refl
  lent_numbers [] (q ∷ qs) l = let n = l.count in absurd (omega arith)
  lent_numbers (p ∷ ps) [] l = let n = l.count in absurd (omega arith)
  lent_numbers (p ∷ ps) (q ∷ qs) l =
      let head : q ≡ lent p = l.each 0 p (omega arith) in let n = l.count in
      let tail = lent_numbers ps qs record { count = omega arith; each = λ k d lt. l.each (suc k) d (omega arith) } in
      cc (ap (λ (z : PassState E O). z.number) head, tail)

  -- what holds of the numbers and the seen histories of passes holds of the same passes while they are lent
  pub all_lent : (P : PassState E O → Type 0) → ((p : PassState E O) → P p → P (lent p)) → (ps qs : List (PassState E O)) → AreLent ps qs → All P ps → All P qs
  all_lent P go ps qs l all k d lt =
      let inside : k < length ps = subst (λ (n : ℕ). k < n) l.count lt in subst P (sym (l.each k d inside)) (go (get_or ps k d) (all k d inside))

  -- and the other way round
  pub all_before : (P : PassState E O → Type 0) → ((p : PassState E O) → P (lent p) → P p) → (ps qs : List (PassState E O)) → AreLent ps qs → All P qs → All P ps
  all_before P go ps qs l all k d lt =
      let inside : k < length qs = subst (λ (n : ℕ). k < n) (sym l.count) lt in go (get_or ps k d) (subst P (l.each k d lt) (all k d inside))

module _ {S E O : Type 0} where
  -- what the passes have seen begins the whole history, if it begins what the seat had seen before
  pub all_begin : (ps : List (PassState E O)) (v : View E O) (me after : Me S (View E O)) → me.0.seen ≡ v.seen → SeesWhole me after
      → All (λ p. IsPrefix p.seen v.seen) ps → All (λ p. IsPrefix p.seen after.0.seen) ps
  all_begin ps v me after same sees all k d lt =
      let first = subst (λ (z : List (Stamped E)). IsPrefix (get_or ps k d).seen z) (sym same) (all k d lt) in
      let whole : sees.history ≡ after.0.seen = ap (λ (w : View E O). w.seen) (sym sees.view) in
      subst (λ (z : List (Stamped E)). IsPrefix (get_or ps k d).seen z) whole (prefix_trans (get_or ps k d).seen me.0.seen sees.history first sees.begins)

module _ {D E O : Type 0} (entries : D → List E) (origin : D → O) where
  -- the seat stands for the passes, and each of them was told what the seat has seen
  pub shared : (o : O) (v : View E O) (object : D) (ps : List (PassState E O)) → v.parts ≡ numbers_of ps → All (λ p. IsPrefix p.seen v.seen) ps
      → All (λ p. places_of p.number v.seen ≡ places_of p.number p.seen) ps → All (λ p. unnumbered v.seen ≡ unnumbered p.seen) ps
      → LeavesObject entries origin o v object → IsShared entries object ps
  shared o v object ps parts seen placed opened l = record {
    history = v.seen;
    journal = l.journal;
    seen = seen;
    placed = placed;
    opened = opened;
    distinct = λ n. subst (λ (ns : List ℕ). times_in n ns ≤ 1) parts (l.distinct n);
    others = λ n none. l.others n (ap (times_in n) parts ∙ none);
  }

  -- the same of the view that the seat had before it told the passes, which is the same view
  pub shared_with : (o : O) (v w : View E O) (object : D) (ps : List (PassState E O)) → v ≡ w → w.parts ≡ numbers_of ps
      → All (λ p. IsPrefix p.seen w.seen) ps → All (λ p. places_of p.number w.seen ≡ places_of p.number p.seen) ps
      → All (λ p. unnumbered w.seen ≡ unnumbered p.seen) ps → LeavesObject entries origin o v object → IsShared entries object ps
  shared_with o v w object ps same parts seen placed opened l =
      shared o w object ps parts seen placed opened (subst (λ (z : View E O). LeavesObject entries origin o z object) same l)
