-- The steps that take numbers for new passes and that tell what was seen keep the rule, and tell what their types say.
use Rattle.std.proofs.Common.{◌≡◌, ◌≢◌, ℕ, ◌+◌, ◌<◌, ◌≤◌, ◌==◌, ⊎_elim, eq-eqb, ne_eqb, Bool, true, false, List, [], ◌∷◌, ◌++◌, length, set, length-append}
use Rattle.std.proofs.Common.{refl, ap, sym, ◌∙◌, subst, arith}
use Rattle.std.specs.Prelude.{Option, Some, None, nat_le}
use mathlib.Core.Option.{some, none}
use mathlib.Core.Option as maybe
use mathlib.Core.Logic.{dite}
use native.Mathlib.Decide.{ℕ_discrete, dec_lt}
use mathlib.Core.List.{IsPrefix}
use lib.ListN.{get_elem?}
use prog.Atomic.{either}
use Rattle.std.proofs.lemmas.Bool.Decides.{nat_tests}
use Rattle.atomic_table.specs.Table.{State, Me, Act, keeps, Valid, homes_after, carried_after, Allows, Splits, Joins, Enters}
use Rattle.atomic_table.proofs.Lists.{at_set, at_snoc, set_else, exchanged}
use Rattle.counted_lock.specs.declared.views.Stage.TheVariants.{Free}
use Rattle.counted_lock.specs.declared.views.Stamped.{Stamped}
use Rattle.counted_lock.specs.declared.views.View.{View}
use Rattle.counted_lock.specs.Views.{turn_of, hold_of, is_fresh, total, is_number, one_if, places_of, unnumbered, turn_in, hold_in, parts_in, listed_in, owned_in, times_in}
use Rattle.counted_lock.specs.Views.{first_of, rest_of, with_spare, without_spare, new_pass, with_parts, note, spent, as_sole, longer_if, longer, joined, caught_up}
use Rattle.counted_lock.specs.Rule.{Sees, Fits, Kept, IsKept}
use Rattle.counted_lock.specs.Plays.{Numbered, Counted, CaughtUp}
use Rattle.counted_lock.proofs.Prefixes.{prefix_self, prefix_shorter}
use Rattle.counted_lock.proofs.Places.{places_between, places_none, unnumbered_between}
use Rattle.counted_lock.proofs.Totals.{total_set, total_snoc, total_at, total_two}
use Rattle.counted_lock.proofs.Numbers.{first_rest_length, first_rest_times, times_append}
use Rattle.counted_lock.proofs.Kept.{changed, quiet, allowed}

-- the longer of two prefixes of a list is a prefix of it, and has both as prefixes
pub longer_begins : {E : Type 0} (xs ys h : List (Stamped E)) → IsPrefix xs h → IsPrefix ys h
    → IsPrefix xs (longer xs ys) × IsPrefix ys (longer xs ys) × IsPrefix (longer xs ys) h
longer_begins {E} xs ys h p q = go (nat_le (length xs) (length ys)) refl
  where
    go : (b : Bool) → nat_le (length xs) (length ys) ≡ b → IsPrefix xs (longer_if b xs ys) × IsPrefix ys (longer_if b xs ys) × IsPrefix (longer_if b xs ys) h
    go true is = let le : length xs ≤ length ys = grind (arith, nat_tests) in (prefix_shorter xs ys h p q le, prefix_self ys, q)
    go false is = let lt : length ys < length xs = grind (arith, nat_tests) in (prefix_self xs, prefix_shorter ys xs h q p (omega arith), p)

module _ {D E O : Type 0} (entries : D → List E) (origin : D → O) (about : D) where
  abbrev V : Type 0
  V = View E O

  abbrev M : Type 0
  M = Me (Option D) V

  abbrev K : List (Stamped E) → ℕ → ℕ → maybe.Option (Option D) → List V → Type 0
  K = Kept entries origin about

  abbrev Rule : State (Option D) V → Type 0
  Rule = IsKept entries origin about

  -- the slot is as it was if the same number of views hold it
  slot_same : (h : List (Stamped E)) (n n' : ℕ) (home : maybe.Option (Option D)) → n' ≡ n → Fits entries origin about h n home
      → Fits entries origin about h n' home
  slot_same h n n' home e slot = subst (λ (z : ℕ). Fits entries origin about h z home) (sym e) slot

  -- no other view has the number n
  own_once : (b : Bool) (m n : ℕ) → (m == n) ≡ b → one_if b ≤ 1
  own_once true m n e = omega arith
  own_once false m n e = omega arith

  -- a compare-exchange on the passes made, if it went through
  numbered : (h : List (Stamped E)) (gate made : ℕ) (home : maybe.Option (Option D)) (views : List V) (id : ℕ) (v : V) → K h gate made home views
      → get_elem? views id ≡ some v → v.spare ≡ None → v.sole ≡ false → 0 < length v.parts
      → K h gate (made + 1) home (set views id (with_spare made v))
  numbered h gate made home views id v k at no_spare not_sole part =
      let w : V = with_spare made v in let sees = k.each id v at in
      let owned : (n : ℕ) → total (owned_in n) (set views id w) ≡ total (owned_in n) views + one_if (made == n) =
      λ n. (let a = total_set (owned_in n) views id v w at in let b : one_if (is_number v.spare n) ≡ 0 =
      ap (λ (z : Option ℕ). one_if (is_number z n)) no_spare in omega arith) in
      let listed : (n : ℕ) → total (listed_in n) (set views id w) ≡ total (listed_in n) views + one_if (made == n) =
      λ n. (let a = total_set (listed_in n) views id v w at in omega arith) in
      let new_one : (n : ℕ) → made + 1 ≤ n → one_if (made == n) ≡ 0 = λ n le. ap one_if (ne_eqb made n (λ (e : made ≡ n). omega arith)) in
      changed entries origin about h gate made home views id v w gate (made + 1) home k at
      record {
        alike = sees.alike;
        begins = sees.begins;
        heard = sees.heard;
        whole = sees.whole;
        placed = sees.placed;
        opened = sees.opened;
        unused = λ n e. (let m : made ≡ n = cc e in (k.unmade n (subst (λ (z : ℕ). made ≤ z) m (omega arith))).1);
        seated = let a = sees.seated in
            omega arith;
        alone = λ e. absurd (cc (not_sole, e));
      }
      (λ j u ne au. (let s = k.each j u au in record {
        alike = s.alike;
        begins = s.begins;
        heard = s.heard;
        whole = s.whole;
        placed = s.placed;
        opened = s.opened;
        unused = s.unused;
        seated = s.seated;
        alone = λ e. (let a = s.alone e in let b = total_two parts_in views id j v u at au ne in let c = k.parts in absurd (omega arith));
      }))
      (omega arith) k.gate_small (omega arith) (omega arith)
      (λ n. dite (ℕ_discrete made n)
      (λ (same : made ≡ n). (let a = listed n in let b : one_if (made == n) ≡ 1 = ap one_if (eq-eqb made n same) in let c = k.listed_made n (omega arith) in
      omega arith))
      (λ (ne : made ≢ n). (let a = listed n in let b : one_if (made == n) ≡ 0 = ap one_if (ne_eqb made n ne) in let c = k.listed_once n in omega arith)))
      (λ n le. (let a = listed n in let b = new_one n le in let c = k.listed_made n (omega arith) in omega arith))
      (λ n. dite (ℕ_discrete made n)
      (λ (same : made ≡ n). (let a = owned n in let b : one_if (made == n) ≡ 1 = ap one_if (eq-eqb made n same) in let c = (k.unmade n (omega arith)).0 in
      omega arith))
      (λ (ne : made ≢ n). (let a = owned n in let b : one_if (made == n) ≡ 0 = ap one_if (ne_eqb made n ne) in let c = k.once n in omega arith)))
      (λ n le. (let a = owned n in let ne : made ≢ n = (λ (e : made ≡ n). omega arith) in let b : one_if (made == n) ≡ 0 = ap one_if (ne_eqb made n ne) in
      let c = k.unmade n (omega arith) in let d = c.0 in (omega arith, c.1)))
      (slot_same h (total hold_in views) (total hold_in (set views id w)) home (let a = total_set hold_in views id v w at in omega arith) k.slot)

  -- a number that a view has is below the passes made
  owned_below : (h : List (Stamped E)) (gate made : ℕ) (home : maybe.Option (Option D)) (views : List V) (id : ℕ) (v : V) (n old : ℕ)
      → K h gate made home views → get_elem? views id ≡ some v → v.number ≡ Some n → made ≡ old → n < old
  owned_below h gate made home views id v n old k at own same = dite (dec_lt n made) (λ lt. omega arith)
      (λ not_lt. (let le : made ≤ n = omega arith in let a = (k.unmade n le).0 in let b = total_at (owned_in n) views id v at in
      let c : one_if (is_number v.number n) ≡ 1 = ap one_if (ap (λ (z : Option ℕ). is_number z n) own ∙ eq-eqb n n refl) in absurd (omega arith)))

  pub numbers : (slots id old : ℕ) (me : M) → me.0.spare ≡ None → me.0.sole ≡ false → 0 < length me.0.parts
      → Allows Rule slots id me 2 (λ n. either (n == old) (old + 1) n) (λ n m. Numbered me n m old)
  numbers slots id old me no_spare not_sole part = allowed entries origin about slots id me 2 (λ n. either (n == old) (old + 1) n)
      (λ n m. Numbered me n m old) (λ h gate made home views k at _.
      let sees = k.each id me.0 at in
      let below : (n : ℕ) → me.0.number ≡ Some n → made ≡ old → n < old = λ n own same. owned_below h gate made home views id me.0 n old k at own same in
      let blank : made ≡ old → places_of old me.0.seen ≡ [] = λ same. places_none old me.0.seen h sees.begins (k.unmade old (omega arith)).1 in
      exchanged made old (old + 1) (λ z. (w : V) × (a : Act (Option D)) × Valid (home ∷ []) me.1 a
      × Rule record { words = length h ∷ gate ∷ z ∷ []; homes = homes_after (home ∷ []) me.1 a; views = set views id w }
      × Numbered me made (w, carried_after me.1 a) old)
      (λ (same : made ≡ old). (
        with_spare old me.0,
        keeps,
        tt,
        record {
          history = h;
          gate = gate;
          made = old + 1;
          home = home;
          words_are = refl;
          homes_are = refl;
          kept = subst (λ (z : ℕ). K h gate (z + 1) home (set views id (with_spare z me.0))) same
              (numbered h gate made home views id me.0 k at no_spare not_sole part);
        },
        record { carried = refl; made = λ _. refl; missed = λ ne. absurd (ne same); above = λ _ n own. below n own same; unused = λ _. blank same },
      ))
      (λ (ne : made ≢ old). (
        me.0,
        keeps,
        tt,
        record {
          history = h;
          gate = gate;
          made = made;
          home = home;
          words_are = refl;
          homes_are = refl;
          kept = quiet entries origin about h gate made home views id me.0 me.0 gate home k at (k.each id me.0 at) (omega arith) k.gate_small refl (λ n. refl)
              (slot_same h (total hold_in views) (total hold_in (set views id me.0)) home (let a = total_set hold_in views id me.0 me.0 at in
              omega arith) k.slot);
        },
        record { carried = refl; made = λ e. absurd (ne e); missed = λ _. refl; above = λ e. absurd (ne e); unused = λ e. absurd (ne e) },
      )))

  -- a load of the passes made
  pub counts : (slots id : ℕ) (me : M) → Allows Rule slots id me 2 (λ n. n) (λ n m. Counted me n m)
  counts slots id me = allowed entries origin about slots id me 2 (λ n. n) (λ n m. Counted me n m) (λ h gate made home views k at _.
      let sees = k.each id me.0 at in let within : length me.0.parts ≤ made = (let a = total_at parts_in views id me.0 at in let b = k.parts in omega arith) in
      dite (ℕ_discrete made (length me.0.parts))
      (λ (same : made ≡ length me.0.parts). (
        as_sole me.0,
        keeps,
        tt,
        record {
          history = h;
          gate = gate;
          made = made;
          home = home;
          words_are = refl;
          homes_are = refl;
          kept = quiet entries origin about h gate made home views id me.0 (as_sole me.0) gate home k at
              record {
                alike = sees.alike;
                begins = sees.begins;
                heard = sees.heard;
                whole = sees.whole;
                placed = sees.placed;
                opened = sees.opened;
                unused = sees.unused;
                seated = sees.seated;
                alone = λ _. sym same;
              } (omega arith) k.gate_small refl (λ n. refl)
              (slot_same h (total hold_in views) (total hold_in (set views id (as_sole me.0))) home
              (let a = total_set hold_in views id me.0 (as_sole me.0) at in omega arith) k.slot);
        },
        record { carried = refl; some = k.some_made; within = within; all = λ _. refl; fewer = λ ne. absurd (ne same) },
      ))
      (λ (ne : made ≢ length me.0.parts). (
        me.0,
        keeps,
        tt,
        record {
          history = h;
          gate = gate;
          made = made;
          home = home;
          words_are = refl;
          homes_are = refl;
          kept = quiet entries origin about h gate made home views id me.0 me.0 gate home k at sees (omega arith) k.gate_small refl (λ n. refl)
              (slot_same h (total hold_in views) (total hold_in (set views id me.0)) home (let a = total_set hold_in views id me.0 me.0 at in
              omega arith) k.slot);
        },
        record { carried = refl; some = k.some_made; within = within; all = λ e. absurd (ne e); fewer = λ _. refl },
      )))

  -- a view is split in two
  forked : (h : List (Stamped E)) (gate made : ℕ) (home : maybe.Option (Option D)) (views : List V) (id : ℕ) (v left right : V) → K h gate made home views
      → get_elem? views id ≡ some v
      → Sees (origin about) h made left → Sees (origin about) h made right → turn_in left ≡ turn_in v → hold_in left ≡ hold_in v → turn_in right ≡ 0
      → hold_in right ≡ 0
      → parts_in left + parts_in right ≡ parts_in v → ((n : ℕ) → listed_in n left + listed_in n right ≡ listed_in n v)
      → ((n : ℕ) → owned_in n left + owned_in n right ≡ owned_in n v)
      → K h gate made home (set views id left ++ right ∷ [])
  forked h gate made home views id v left right k at sees_left sees_right turn hold no_turn no_hold parts lists owns = let vs : List V = set views id left in
      let sum : (f : V → ℕ) → f left + f right ≡ f v → total f (vs ++ right ∷ []) ≡ total f views =
      λ f e. (let a = total_set f views id v left at in let b = total_snoc f vs right in omega arith) in record {
        each = λ j u e. ⊎_elim (λ (old : get_elem? vs j ≡ some u). ⊎_elim (λ (t : (j ≡ id) × (left ≡ u)). subst (Sees (origin about) h made) t.1 sees_left)
            (λ (t : (j ≢ id) × (get_elem? views j ≡ some u)). k.each j u t.1) (at_set views id j left u old))
            (λ (new : right ≡ u). subst (Sees (origin about) h made) new sees_right) (at_snoc vs right u j e);
        turns = let a = sum turn_in (omega arith) in let b = k.turns in omega arith;
        gate_small = k.gate_small;
        parts = let a = sum parts_in parts in let b = k.parts in omega arith;
        some_made = k.some_made;
        listed_once = λ n. (let a = sum (listed_in n) (lists n) in let b = k.listed_once n in omega arith);
        listed_made = λ n le. sum (listed_in n) (lists n) ∙ k.listed_made n le;
        once = λ n. (let a = sum (owned_in n) (owns n) in let b = k.once n in omega arith);
        unmade = λ n le. (sum (owned_in n) (owns n) ∙ (k.unmade n le).0, (k.unmade n le).1);
        slot = slot_same h (total hold_in views) (total hold_in (vs ++ right ∷ [])) home (sum hold_in (omega arith)) k.slot;
      }

  splits : (id : ℕ) (v left right : V)
      → ((h : List (Stamped E)) (gate made : ℕ) (home : maybe.Option (Option D)) (views : List V) → K h gate made home views → get_elem? views id ≡ some v
      → K h gate made home (set views id left ++ right ∷ []))
      → Splits Rule id v left right
  splits id v left right go s r at = record {
    history = r.history;
    gate = r.gate;
    made = r.made;
    home = r.home;
    words_are = r.words_are;
    homes_are = r.homes_are;
    kept = go r.history r.gate r.made r.home s.views r.kept at;
  }

  -- a view is split for a new pass
  pub gives_number : (id : ℕ) (v : V) → v.stage ≡ Free → v.sole ≡ false → Splits Rule id v (without_spare v) (new_pass v)
  gives_number id v free not_sole = splits id v (without_spare v) (new_pass v)
      (λ h gate made home views k at. (let sees = k.each id v at in let t : turn_of v.stage ≡ 0 = ap turn_of free in
      forked h gate made home views id v (without_spare v) (new_pass v) k at
      record {
        alike = sees.alike;
        begins = sees.begins;
        heard = sees.heard;
        whole = sees.whole;
        placed = sees.placed;
        opened = sees.opened;
        unused = λ n e. absurd (cc e);
        seated = (omega arith);
        alone = λ e. absurd (cc (not_sole, e));
      }
      record {
        alike = sees.alike;
        begins = sees.begins;
        heard = (h, refl);
        whole = λ e. absurd (cc e);
        placed = λ n e. sees.unused n e
            ∙ sym (places_none n v.seen h sees.begins (sees.unused n e));
        opened = sees.opened;
        unused = λ n e. absurd (cc e);
        seated = omega arith;
        alone = λ e. absurd (cc e);
      }
      refl refl refl refl (first_rest_length v.parts) (λ n. first_rest_times n v.parts) (λ n. omega arith)))

  -- a view is split for a note that stands for the first of its passes
  pub notes : (id : ℕ) (v : V) → v.stage ≡ Free → Splits Rule id v (with_parts (rest_of v.parts) v) (note (first_of v.parts) v)
  notes id v free = splits id v (with_parts (rest_of v.parts) v) (note (first_of v.parts) v)
      (λ h gate made home views k at. (let sees = k.each id v at in let t : turn_of v.stage ≡ 0 = ap turn_of free in
      forked h gate made home views id v (with_parts (rest_of v.parts) v) (note (first_of v.parts) v) k at
      record {
        alike = sees.alike;
        begins = sees.begins;
        heard = sees.heard;
        whole = sees.whole;
        placed = sees.placed;
        opened = sees.opened;
        unused = sees.unused;
        seated = (omega arith);
        alone = λ e. absurd (cc e);
      }
      record {
        alike = sees.alike;
        begins = sees.begins;
        heard = (h, refl);
        whole = λ e. absurd (cc e);
        placed = λ n e. absurd (cc e);
        opened = sees.opened;
        unused = λ n e. absurd (cc e);
        seated = omega arith;
        alone = λ e. absurd (cc e);
      }
      refl refl refl refl (first_rest_length v.parts) (λ n. first_rest_times n v.parts) (λ n. omega arith)))

  -- a view is split for a note that tells what was seen, and stands for no pass
  pub tells : (id : ℕ) (v : V) → Splits Rule id v v (note [] v)
  tells id v = splits id v v (note [] v) (λ h gate made home views k at. (let sees = k.each id v at in
      forked h gate made home views id v v (note [] v) k at sees
      record {
        alike = sees.alike;
        begins = sees.begins;
        heard = (h, refl);
        whole = λ e. absurd (cc e);
        placed = λ n e. absurd (cc e);
        opened = sees.opened;
        unused = λ n e. absurd (cc e);
        seated = omega arith;
        alone = λ e. absurd (cc e);
      }
      refl refl refl refl (omega arith) (λ n. omega arith) (λ n. omega arith)))

  sees_spent : (h : List (Stamped E)) (made : ℕ) → Sees {E = E} {O = O} (origin about) h made spent
  sees_spent h made = record {
    alike = λ x e. absurd (cc e);
    begins = (h, refl);
    heard = (h, refl);
    whole = λ e. absurd (cc e);
    placed = λ n e. absurd (cc e);
    opened = λ x e. absurd (cc e);
    unused = λ n e. absurd (cc e);
    seated = omega arith;
    alone = λ e. absurd (cc e);
  }

  -- a view takes in another, which is used up
  merges : (id other : ℕ) (v w both : V) → w.stage ≡ Free → turn_in both ≡ turn_in v → hold_in both ≡ hold_in v → both.parts ≡ v.parts ++ w.parts
      → ((n : ℕ) → owned_in n both ≡ owned_in n v)
      → ((h : List (Stamped E)) (made : ℕ) → Sees (origin about) h made v → Sees (origin about) h made w → Sees (origin about) h made both)
      → Joins Rule id v other w both spent
  merges id other v w both w_free turn hold parts owns go s r at ne also =
      let k = r.kept in let h : List (Stamped E) = r.history in let vs : List V = set s.views id both in
      let there : get_elem? s.views other ≡ some w = sym (set_else s.views id other both ne) ∙ also in
      let tw : turn_of w.stage ≡ 0 = ap turn_of w_free in let hw : hold_of w.stage ≡ 0 = ap hold_of w_free in
      let sees : Sees (origin about) h r.made both = go h r.made (k.each id v at) (k.each other w there) in
      let two : (f : V → ℕ) → total f (set vs other spent) + f v + f w ≡ total f s.views + f both + f spent =
      λ f. (let a = total_set f s.views id v both at in let b = total_set f vs other w spent also in omega arith) in
      let lists : (n : ℕ) → listed_in n both ≡ listed_in n v + listed_in n w = λ n. ap (times_in n) parts ∙ times_append n v.parts w.parts in
      record {
        history = h;
        gate = r.gate;
        made = r.made;
        home = r.home;
        words_are = r.words_are;
        homes_are = r.homes_are;
        kept = record {
          each = λ j u e. ⊎_elim (λ (t : (j ≡ other) × (spent ≡ u)). subst (Sees (origin about) h r.made) t.1 (sees_spent h r.made))
              (λ (t : (j ≢ other) × (get_elem? vs j ≡ some u)). ⊎_elim (λ (z : (j ≡ id) × (both ≡ u)). subst (Sees (origin about) h r.made) z.1 sees)
              (λ (z : (j ≢ id) × (get_elem? s.views j ≡ some u)). k.each j u z.1) (at_set s.views id j both u t.1))
              (at_set vs other j spent u e);
          turns = let a = two turn_in in let b = k.turns in omega arith;
          gate_small = k.gate_small;
          parts = let a = two parts_in in let b = k.parts in let c : parts_in both ≡ parts_in v + parts_in w = ap length parts
              ∙ length-append v.parts w.parts in omega arith;
          some_made = k.some_made;
          listed_once = λ n. (let a = two (listed_in n) in let b = k.listed_once n in let c = lists n in omega arith);
          listed_made = λ n le. (let a = two (listed_in n) in let b = k.listed_made n le in let c = lists n in omega arith);
          once = λ n. (let a = two (owned_in n) in let b = k.once n in let c = owns n in omega arith);
          unmade = λ n le. (let a = two (owned_in n) in let b = (k.unmade n le).0 in let c = owns n in omega arith, (k.unmade n le).1);
          slot = slot_same h (total hold_in s.views) (total hold_in (set vs other spent)) r.home (let a = two hold_in in omega arith) k.slot;
        };
      }

  -- a view takes in a note, and is told what that has seen
  pub joins : (id other : ℕ) (v w : V) → v.stage ≡ Free → w.stage ≡ Free → Joins Rule id v other w (joined v w) spent
  joins id other v w v_free w_free = merges id other v w (joined v w) w_free refl refl refl (λ n. refl) (λ h made sv sw.
      let tv : turn_of v.stage ≡ 0 = ap turn_of v_free in let held : is_fresh v.stage ≡ false = ap is_fresh v_free in
      record {
        alike = sv.alike;
        begins = sv.begins;
        heard = sw.begins;
        whole = λ e. absurd (cc (held, e));
        placed = sv.placed;
        opened = sv.opened;
        unused = sv.unused;
        seated = (omega arith);
        alone = λ e. absurd (cc e);
      })

  -- a view takes in a note that stands for passes
  pub gathers : (id other : ℕ) (v w : V) → v.stage ≡ Free → w.stage ≡ Free → Joins Rule id v other w (with_parts (v.parts ++ w.parts) v) spent
  gathers id other v w v_free w_free = merges id other v w (with_parts (v.parts ++ w.parts) v) w_free refl refl refl (λ n. refl) (λ h made sv sw.
      let tv : turn_of v.stage ≡ 0 = ap turn_of v_free in let held : is_fresh v.stage ≡ false = ap is_fresh v_free in
      record {
        alike = sv.alike;
        begins = sv.begins;
        heard = sv.heard;
        whole = λ e. absurd (cc (held, e));
        placed = sv.placed;
        opened = sv.opened;
        unused = sv.unused;
        seated = (omega arith);
        alone = λ e. absurd (cc e);
      })

  -- a load, at which what a note has brought is seen
  pub catches_up : (slots id : ℕ) (me : M) → me.0.stage ≡ Free → Allows Rule slots id me 0 (λ n. n) (λ n m. CaughtUp me n m)
  catches_up slots id me free = allowed entries origin about slots id me 0 (λ n. n) (λ n m. CaughtUp me n m) (λ h gate made home views k at _.
      let v : V = me.0 in let sees = k.each id v at in let long = longer_begins v.seen v.told h sees.begins sees.heard in let w : V = caught_up v in
      let same : (n : ℕ) → v.number ≡ Some n → places_of n (longer v.seen v.told) ≡ places_of n v.seen =
      λ n e. places_between n v.seen (longer v.seen v.told) h long.0 long.2 (sees.placed n e) in
      let same_opened : (x : O) → v.origin ≡ Some x → unnumbered (longer v.seen v.told) ≡ unnumbered v.seen =
      λ x e. unnumbered_between v.seen (longer v.seen v.told) h long.0 long.2 (sees.opened x e) in
      let held : is_fresh v.stage ≡ false = ap is_fresh free in (
        w,
        keeps,
        tt,
        record {
          history = h;
          gate = gate;
          made = made;
          home = home;
          words_are = refl;
          homes_are = refl;
          kept = quiet entries origin about h gate made home views id v w gate home k at
              record {
                alike = sees.alike;
                begins = long.2;
                heard = (h, refl);
                whole = λ e. absurd (cc (held, e));
                placed = λ n e. sees.placed n e
                    ∙ sym (same n e);
                opened = λ x e. sees.opened x e ∙ sym (same_opened x e);
                unused = sees.unused;
                seated = sees.seated;
                alone = sees.alone;
              }
              (omega arith) k.gate_small refl (λ n. refl)
              (slot_same h (total hold_in views) (total hold_in (set views id w)) home (let a = total_set hold_in views id v w at in omega arith) k.slot);
        },
        record {
          carried = refl;
          view = refl;
          begins = long.0;
          heard = long.1;
          placed = same;
          opened = same_opened;
          distinct = λ n. (let a = total_at (listed_in n) views id v at in let b = k.listed_once n in omega arith);
        },
      ))

  -- a new seat, which knows nothing
  pub comes : (slots : ℕ) → Enters Rule slots 0 (λ n w. w ≡ spent)
  comes slots s r wide below = let k = r.kept in let vs : List V = s.views ++ spent ∷ [] in
      let sum : (f : V → ℕ) → f spent ≡ 0 → total f vs ≡ total f s.views = λ f e. (let a = total_snoc f s.views spent in omega arith) in (
        spent,
        record {
          history = r.history;
          gate = r.gate;
          made = r.made;
          home = r.home;
          words_are = r.words_are;
          homes_are = r.homes_are;
          kept = record {
            each = λ j u e. ⊎_elim (λ (old : get_elem? s.views j ≡ some u). k.each j u old)
                (λ (new : spent ≡ u). subst (Sees (origin about) r.history r.made) new (sees_spent r.history r.made)) (at_snoc s.views spent u j e);
            turns = sum turn_in refl ∙ k.turns;
            gate_small = k.gate_small;
            parts = sum parts_in refl ∙ k.parts;
            some_made = k.some_made;
            listed_once = λ n. (let a = sum (listed_in n) refl in let b = k.listed_once n in omega arith);
            listed_made = λ n le. sum (listed_in n) refl ∙ k.listed_made n le;
            once = λ n. (let a = sum (owned_in n) refl in let b = k.once n in omega arith);
            unmade = λ n le. (sum (owned_in n) refl ∙ (k.unmade n le).0, (k.unmade n le).1);
            slot = slot_same r.history (total hold_in s.views) (total hold_in vs) r.home (sum hold_in refl) k.slot;
          };
        },
        refl,
      )
