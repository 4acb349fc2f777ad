-- The steps of a turn keep the rule, and tell what their types say.
use Rattle.std.proofs.Common.{◌≡◌, ◌≢◌, ℕ, ◌+◌, ◌%◌, ◌^◌, ◌<◌, ◌≤◌, ⊎_elim, eq-eqb, ne_eqb, true, false, List, [], ◌∷◌, ◌++◌, map, length, set, refl}
use Rattle.std.proofs.Common.{ap, sym, ◌∙◌, subst, arith, length-append}
use Rattle.std.specs.Prelude.{Option, Some}
use mathlib.Core.Option.{some, none}
use mathlib.Core.Option as maybe
use mathlib.Core.Logic.{dite}
use native.Mathlib.Decide.{ℕ_discrete}
use mathlib.Core.List.{IsPrefix}
use lib.ListN.{get_elem?, length-map}
use Rattle.std.proofs.Math.Nat.{mod-eq_of_lt}
use Rattle.atomic_table.specs.Table.{State, Me, Act, keeps, takes, gives, Valid, homes_after, carried_after, Allows}
use Rattle.atomic_table.proofs.Lists.{at_set}
use Rattle.counted_lock.specs.declared.views.Stage.TheVariants.{Free, Turn, Fresh, Holding}
use Rattle.counted_lock.specs.declared.views.Stamped.{Stamped}
use Rattle.counted_lock.specs.declared.views.View.{View}
use Rattle.counted_lock.specs.Views.{turn_of, hold_of, is_fresh, total, is_number, one_if, places_of, unnumbered, entry_of, stamped, turn_in, hold_in, parts_in}
use Rattle.counted_lock.specs.Views.{listed_in, owned_in, staged, with_seen}
use Rattle.counted_lock.specs.Rule.{Sees, Fits, Kept, IsKept}
use Rattle.counted_lock.specs.Plays.{TurnTaken, Looked, SlotTaken, Released, GivenBack, Entered}
use Rattle.counted_lock.proofs.Prefixes.{prefix_self, prefix_more, last_same}
use Rattle.counted_lock.proofs.Places.{append_nil, places_other, unnumbered_same}
use Rattle.counted_lock.proofs.Totals.{total_set, total_at, total_two, total_below, total_below_in}
use Rattle.counted_lock.proofs.Kept.{hold_below, fresh_turn, quiet, sees_staged, allowed}

module _ {D E O : Type 0} (entries : D → List E) (origin : D → O) (about : D) where
  abbrev V : Type 0
  V = View E O

  abbrev M : Type 0
  M = Me (Option D) V

  abbrev K : List (Stamped E) → ℕ → ℕ → maybe.Option (Option D) → List V → Type 0
  K = Kept entries origin about

  abbrev Rule : State (Option D) V → Type 0
  Rule = IsKept entries origin about

  -- the slot is as it was if the view holds it as before
  slot_stays : (h : List (Stamped E)) (views : List V) (id : ℕ) (v w : V) (home : maybe.Option (Option D)) → get_elem? views id ≡ some v → hold_in w ≡ hold_in v
      → Fits entries origin about h (total hold_in views) home → Fits entries origin about h (total hold_in (set views id w)) home
  slot_stays h views id v w home at same slot =
      let e : total hold_in views ≡ total hold_in (set views id w) = (let a = total_set hold_in views id v w at in omega arith) in
      subst (λ (z : ℕ). Fits entries origin about h z home) e slot

  -- no other view has the turn if one is known to stand for all passes, and does not have it
  none_has_turn : (h : List (Stamped E)) (gate made : ℕ) (home : maybe.Option (Option D)) (views : List V) (id : ℕ) (v : V) → K h gate made home views
      → get_elem? views id ≡ some v → v.stage ≡ Free → v.sole ≡ true → gate ≡ 0
  none_has_turn h gate made home views id v k at free sole =
      let a = total_below_in turn_in parts_in views id v (λ j u e. (k.each j u e).seated) at in let all = (k.each id v at).alone sole in
      let b = k.parts in let c = k.turns in let t : turn_of v.stage ≡ 0 = ap turn_of free in omega arith

  -- a swap of 1 into the gate
  pub takes_turn : (slots id : ℕ) (me : M) → me.0.stage ≡ Free → 0 < length me.0.parts → Allows Rule slots id me 1 (λ _. 1) (λ n m. TurnTaken me n m)
  takes_turn slots id me free part = allowed entries origin about slots id me 1 (λ _. 1) (λ n m. TurnTaken me n m) (λ h gate made home views k at _.
      let sees = k.each id me.0 at in
      dite (ℕ_discrete gate 0)
      (λ (zero_gate : gate ≡ 0). (
        staged Turn me.0,
        keeps,
        tt,
        record {
          history = h;
          gate = 1;
          made = made;
          home = home;
          words_are = refl;
          homes_are = refl;
          kept = quiet entries origin about h gate made home views id me.0 (staged Turn me.0) 1 home k at
              (sees_staged entries origin about h made me.0 Turn sees (omega arith) (λ e. absurd (cc e)))
              (let a : turn_of me.0.stage ≡ 0 = ap turn_of free in omega arith) (omega arith) refl (λ n. refl)
              (slot_stays h views id me.0 (staged Turn me.0) home at (sym (ap hold_of free)) k.slot);
        },
        record { carried = refl; taken = λ _. refl; busy = λ ne. absurd (ne zero_gate); alone = λ _. zero_gate },
      ))
      (λ (busy : gate ≢ 0). (
        me.0,
        keeps,
        tt,
        record {
          history = h;
          gate = 1;
          made = made;
          home = home;
          words_are = refl;
          homes_are = refl;
          kept = quiet entries origin about h gate made home views id me.0 me.0 1 home k at sees (let a = k.gate_small in
              omega arith) (omega arith) refl (λ n. refl)
              (slot_stays h views id me.0 me.0 home at refl k.slot);
        },
        record {
          carried = refl;
          taken = λ e. absurd (busy e);
          busy = λ _. refl;
          alone = none_has_turn h gate made home views id me.0 k at free;
        },
      )))

  -- a load of the count in the turn
  pub looks : (slots id : ℕ) (me : M) → me.0.stage ≡ Turn → Allows Rule slots id me 0 (λ n. n) (λ n m. Looked me n m)
  looks slots id me turn = allowed entries origin about slots id me 0 (λ n. n) (λ n m. Looked me n m) (λ h gate made home views k at _.
      let sees = k.each id me.0 at in let w : V = with_seen Fresh h me.0 in let mine : turn_of me.0.stage ≡ 1 = ap turn_of turn in (
        w,
        keeps,
        tt,
        record {
          history = h;
          gate = gate;
          made = made;
          home = home;
          words_are = refl;
          homes_are = refl;
          kept = quiet entries origin about h gate made home views id me.0 w gate home k at
              record {
                alike = sees.alike;
                begins = prefix_self h;
                heard = sees.heard;
                whole = λ _. refl;
                placed = λ n _. refl;
                opened = λ x _. refl;
                unused = sees.unused;
                seated = let a = sees.seated in omega arith;
                alone = sees.alone;
              }
              (omega arith) k.gate_small refl (λ n. refl)
              (slot_stays h views id me.0 w home at (sym (ap hold_of turn)) k.slot);
        },
        record { history = h; carried = refl; view = refl; begins = sees.begins; placed = sees.placed; opened = sees.opened; counted = refl },
      ))

  -- a load by which the slot is taken
  taken : (id : ℕ) (me : M) → me.0.stage ≡ Fresh → me.1 ≡ [] → (h : List (Stamped E)) (gate made : ℕ) (home : maybe.Option (Option D)) (views : List V)
      → K h gate made home views → get_elem? views id ≡ some me.0
      → (w : V) × (a : Act (Option D)) × Valid (home ∷ []) [] a
      × Rule record { words = length h ∷ gate ∷ made ∷ []; homes = homes_after (home ∷ []) [] a; views = set views id w }
      × SlotTaken entries origin me (length h) (w, carried_after [] a)
  taken id me fresh free h gate made none views k at =
      let a = total_below hold_in turn_in views id me.0 (λ v. hold_below v.stage) at in let b = k.turns in let c = k.gate_small in
      let t : turn_of me.0.stage ≡ 1 = ap turn_of fresh in let u : hold_of me.0.stage ≡ 0 = ap hold_of fresh in let s : total hold_in views ≡ 1 = k.slot in
      absurd (omega arith)
  taken id me fresh free h gate made (some x) views k at =
      let sees = k.each id me.0 at in let w : V = staged Holding me.0 in let whole : me.0.seen ≡ h = sees.whole (ap is_fresh fresh) in let slot = k.slot in
      let t : turn_of me.0.stage ≡ 1 = ap turn_of fresh in let u : hold_of me.0.stage ≡ 0 = ap hold_of fresh in
      let d : D = slot.1.0 in let s0 : total hold_in views ≡ 0 = slot.0 in (
        w,
        takes 0 x,
        refl,
        record {
          history = h;
          gate = gate;
          made = made;
          home = none;
          words_are = refl;
          homes_are = refl;
          kept = quiet entries origin about h gate made (some x) views id me.0 w gate none k at
              (sees_staged entries origin about h made me.0 Holding sees (let b = sees.seated in omega arith) (λ _. whole))
              (omega arith) k.gate_small refl (λ n. refl) (let b = total_set hold_in views id me.0 w at in omega arith);
        },
        record {
          object = d;
          carried = ap (λ (y : Option D). (0, y) ∷ []) slot.1.1;
          view = refl;
          journal = slot.1.2 ∙ ap (map entry_of) (sym whole);
          same_origin = λ y e. slot.1.3 ∙ sees.alike y e;
        },
      )

  pub takes_slot : (slots id : ℕ) (me : M) → me.0.stage ≡ Fresh → me.1 ≡ [] → Allows Rule slots id me 0 (λ n. n) (λ n m. SlotTaken entries origin me n m)
  takes_slot slots id me fresh free = allowed entries origin about slots id me 0 (λ n. n) (λ n m. SlotTaken entries origin me n m)
      (λ h gate made home views k at _.
      subst (λ (cs : List (ℕ × Option D)). (w : V) × (a : Act (Option D)) × Valid (home ∷ []) cs a
      × Rule record { words = length h ∷ gate ∷ made ∷ []; homes = homes_after (home ∷ []) cs a; views = set views id w }
      × SlotTaken entries origin me (length h) (w, carried_after cs a)) (sym free) (taken id me fresh free h gate made home views k at))

  -- a load by which the slot is returned
  pub gives_back : (slots id : ℕ) (me : M) (v : V) (d : D) → me ≡ (v, (0, Some d) ∷ []) → v.stage ≡ Holding → entries d ≡ map entry_of v.seen
      → ((x : O) → v.origin ≡ Some x → origin d ≡ x) → ((o : O) × (v.origin ≡ Some o))
      → Allows Rule slots id me 0 (λ n. n) (λ n m. GivenBack me n m)
  gives_back slots id me v d is holding journal from some_origin = subst (λ (z : M). Allows Rule slots id z 0 (λ n. n) (λ n m. GivenBack z n m)) (sym is)
      (allowed entries origin about slots id (v, (0, Some d) ∷ []) 0 (λ n. n) (λ n m. GivenBack (v, (0, Some d) ∷ []) n m) (λ h gate made home views k at _.
      let sees = k.each id v at in let w : V = staged Fresh v in let whole : v.seen ≡ h = sees.whole (ap is_fresh holding) in
      let t : turn_of v.stage ≡ 1 = ap turn_of holding in let u : hold_of v.stage ≡ 1 = ap hold_of holding in
      let a = total_below hold_in turn_in views id v (λ v. hold_below v.stage) at in let b = k.turns in let c = k.gate_small in
      let e = total_set hold_in views id v w at in (
        w,
        gives,
        tt,
        record {
          history = h;
          gate = gate;
          made = made;
          home = some (Some d);
          words_are = refl;
          homes_are = refl;
          kept = quiet entries origin about h gate made home views id v w gate (some (Some d)) k at
              (sees_staged entries origin about h made v Fresh sees (let f = sees.seated in omega arith) (λ _. whole))
              (omega arith) c refl (λ n. refl) (
                (let g = total_at hold_in views id v at in let both : total hold_in views ≤ 1 = omega arith in omega arith),
                (d, refl, journal ∙ ap (map entry_of) whole, from some_origin.0 some_origin.1 ∙ sym (sees.alike some_origin.0 some_origin.1)),
              );
        },
        record { carried = refl; view = refl },
      )))

  -- a store of 0 into the gate
  pub releases : (slots id : ℕ) (me : M) → me.0.stage ≡ Fresh → me.1 ≡ [] → Allows Rule slots id me 1 (λ _. 0) (λ _ m. Released me 0 m)
  releases slots id me fresh free = allowed entries origin about slots id me 1 (λ _. 0) (λ _ m. Released me 0 m) (λ h gate made home views k at _.
      let sees = k.each id me.0 at in let w : V = staged Free me.0 in
      let t : turn_of me.0.stage ≡ 1 = ap turn_of fresh in
      let a = total_at turn_in views id me.0 at in let b = k.turns in let c = k.gate_small in (
        w,
        keeps,
        tt,
        record {
          history = h;
          gate = 0;
          made = made;
          home = home;
          words_are = refl;
          homes_are = refl;
          kept = quiet entries origin about h gate made home views id me.0 w 0 home k at
              (sees_staged entries origin about h made me.0 Free sees (omega arith) (λ e. absurd (cc e)))
              (omega arith) (omega arith) refl (λ n. refl) (slot_stays h views id me.0 w home at (sym (ap hold_of fresh)) k.slot);
        },
        record { carried = free; view = refl },
      ))

  -- whether a number that is m is n
  one_of_same : (o : Option ℕ) (n : ℕ) → o ≡ Some n → is_number o n ≡ true
  one_of_same o n e = ap (λ (z : Option ℕ). is_number z n) e ∙ eq-eqb n n refl

  other_number : (o : Option ℕ) (m n : ℕ) → o ≡ Some m → m ≢ n → is_number o n ≡ false
  other_number o m n e ne = ap (λ (z : Option ℕ). is_number z n) e ∙ ne_eqb m n ne

  unmoved : (n : ℕ) (h : List (Stamped E)) (x : Stamped E) (m : ℕ) → x.maker ≡ Some m → m ≢ n → places_of n (h ++ x ∷ []) ≡ places_of n h
  unmoved n h x m e ne = places_other n h x (other_number x.maker m n e ne) ∙ append_nil (places_of n h)

  -- two views do not have one number
  apart : (views : List V) (i j : ℕ) (v u : V) (m n : ℕ) → ((n : ℕ) → total (owned_in n) views ≤ 1) → get_elem? views i ≡ some v
      → get_elem? views j ≡ some u → j ≢ i
      → v.number ≡ Some m → 1 ≤ owned_in n u → m ≢ n
  apart views i j v u m n once at au ne mine theirs same =
      let one : is_number v.number n ≡ true = one_of_same v.number n (mine ∙ ap Some same) in
      let a : one_if (is_number v.number n) ≡ 1 = ap one_if one in
      let b = total_two (owned_in n) views i j v u at au ne in let c = once n in omega arith

  -- the slot of a view that holds it is out
  held_slot : (home : maybe.Option (Option D)) (h h' : List (Stamped E)) (n n' : ℕ) → Fits entries origin about h n home → 1 ≤ n → n' ≡ n
      → Fits entries origin about h' n' home
  held_slot none h h' n n' f le e = e ∙ f
  held_slot (some y) h h' n n' f le e = absurd (let a : n ≡ 0 = f.0 in omega arith)

  -- the history grows under the view that holds the slot
  grown : (h : List (Stamped E)) (gate made : ℕ) (home : maybe.Option (Option D)) (views : List V) (id : ℕ) (v : V) (s : List (Stamped E)) (x : Stamped E)
      → K h gate made home views → get_elem? views id ≡ some v → Sees (origin about) (h ++ x ∷ []) made (with_seen Holding s v)
      → ((j : ℕ) (u : V) → j ≢ id → get_elem? views j ≡ some u → Sees (origin about) (h ++ x ∷ []) made u)
      → turn_of v.stage ≡ 1 → hold_of v.stage ≡ 1 → ((n : ℕ) → made ≤ n → places_of n (h ++ x ∷ []) ≡ places_of n h)
      → K (h ++ x ∷ []) gate made home (set views id (with_seen Holding s v))
  grown h gate made home views id v s x k at sees others t u blank = let w : V = with_seen Holding s v in record {
    each = λ j y e. ⊎_elim (λ (z : (j ≡ id) × (w ≡ y)). subst (Sees (origin about) (h ++ x ∷ []) made) z.1 sees)
        (λ (z : (j ≢ id) × (get_elem? views j ≡ some y)). others j y z.0 z.1) (at_set views id j w y e);
    turns = let a = total_set turn_in views id v w at in let b = k.turns in omega arith;
    gate_small = k.gate_small;
    parts = let a = total_set parts_in views id v w at in let b = k.parts in omega arith;
    some_made = k.some_made;
    listed_once = λ n. (let a = total_set (listed_in n) views id v w at in let b = k.listed_once n in omega arith);
    listed_made = λ n le. (let a = total_set (listed_in n) views id v w at in let b = k.listed_made n le in omega arith);
    once = λ n. (let a = total_set (owned_in n) views id v w at in let b = k.once n in omega arith);
    unmade = λ n le. (let a = total_set (owned_in n) views id v w at in let b = (k.unmade n le).0 in omega arith, blank n le ∙ (k.unmade n le).1);
    slot = held_slot home h (h ++ x ∷ []) (total hold_in views) (total hold_in (set views id w)) k.slot (let a = total_at hold_in views id v at in
        omega arith) (let a = total_set hold_in views id v w at in omega arith);
  }

  -- a seat carries one object
  carried_same : (d d₂ : D) → ◌≡◌ {A = List (ℕ × Option D)} ((0, Some d) ∷ []) ((0, Some d₂) ∷ []) → d ≡ d₂
  carried_same d d₂ e = let p : ◌≡◌ {A = ℕ × Option D} (0, Some d) (0, Some d₂) = cc e in let q : Some d ≡ Some d₂ = ap (λ (y : ℕ × Option D). y.1) p in cc q

  -- an add to the count
  pub enters : (slots id : ℕ) (me : M) (v : V) (d : D) (e : E) → me ≡ (v, (0, Some d) ∷ []) → v.stage ≡ Holding → ((n : ℕ) × (v.number ≡ Some n))
      → entries d ≡ map entry_of v.seen ++ e ∷ [] → length (entries d) < 2 ^ 64
      → Allows Rule slots id me 0 (λ n. (n + 1) % 2 ^ 64) (λ n m. Entered entries origin me n m)
  enters slots id me v d e is holding numbered journal short =
      subst (λ (z : M). Allows Rule slots id z 0 (λ n. (n + 1) % 2 ^ 64) (λ n m. Entered entries origin z n m)) (sym is)
      (allowed entries origin about slots id (v, (0, Some d) ∷ []) 0 (λ n. (n + 1) % 2 ^ 64) (λ n m. Entered entries origin (v, (0, Some d) ∷ []) n m)
      (λ h gate made home views k at _.
      let sees = k.each id v at in let m : ℕ = numbered.0 in let x : Stamped E = stamped v.number e in let w : V = with_seen Holding (v.seen ++ x ∷ []) v in
      let whole : v.seen ≡ h = sees.whole (ap is_fresh holding) in
      let t : turn_of v.stage ≡ 1 = ap turn_of holding in let u : hold_of v.stage ≡ 1 = ap hold_of holding in
      let h' : List (Stamped E) = h ++ x ∷ [] in
      let count : length h' ≡ length h + 1 = length-append h (x ∷ []) in
      let long : length (entries d) ≡ length h + 1 = ap length journal
      ∙ (length-append (map entry_of v.seen) (e ∷ []) ∙ ap (λ (z : ℕ). z + 1) (length-map v.seen entry_of ∙ ap length whole)) in
      let word : (length h + 1) % 2 ^ 64 ≡ length h' = mod-eq_of_lt (subst (λ (z : ℕ). z < 2 ^ 64) long short) ∙ sym count in
      let mine : 1 ≤ owned_in m v = (let a : one_if (is_number v.number m) ≡ 1 = ap one_if (one_of_same v.number m numbered.1) in omega arith) in
      let below : (n : ℕ) → made ≤ n → m ≢ n = λ n le same. (let a = total_at (owned_in m) views id v at in
      let b = (k.unmade m (subst (λ (z : ℕ). made ≤ z) (sym same) le)).0 in omega arith) in
      let sees' : Sees (origin about) h' made w = record {
        alike = sees.alike;
        begins = subst (λ (z : List (Stamped E)). IsPrefix (z ++ x ∷ []) h') (sym whole) (prefix_self h');
        heard = prefix_more v.told h (x ∷ []) sees.heard;
        whole = λ _. ap (λ (z : List (Stamped E)). z ++ x ∷ []) whole;
        placed = λ n own. ap (λ (z : List (Stamped E)). places_of n (z ++ x ∷ [])) (sym whole);
        opened = λ y o. ap (λ (z : List (Stamped E)). unnumbered (z ++ x ∷ [])) (sym whole);
        unused = λ n own. unmoved n h x m numbered.1 (λ same. (let a : one_if (is_number v.spare n) ≡ 1 = ap one_if (one_of_same v.spare n own) in
            let b : one_if (is_number v.number n) ≡ 1 = ap one_if (one_of_same v.number n (numbered.1 ∙ ap Some same)) in
            let c = total_at (owned_in n) views id v at in let o = k.once n in omega arith)) ∙ sees.unused n own;
        seated = let a = sees.seated in omega arith;
        alone = sees.alone;
      } in
      let others : (j : ℕ) (y : V) → j ≢ id → get_elem? views j ≡ some y → Sees (origin about) h' made y = λ j y ne ay. (let s = k.each j y ay in record {
        alike = s.alike;
        begins = prefix_more y.seen h (x ∷ []) s.begins;
        heard = prefix_more y.told h (x ∷ []) s.heard;
        whole = λ f. (let a = total_two turn_in views id j v y at ay ne in let b : turn_of y.stage ≡ 1 = fresh_turn y.stage f in let c = k.turns in
            let g = k.gate_small in absurd (omega arith));
        placed = λ n own. unmoved n h x m numbered.1 (apart views id j v y m n k.once at ay ne numbered.1
            (let a : one_if (is_number y.number n) ≡ 1 = ap one_if (one_of_same y.number n own) in omega arith)) ∙ s.placed n own;
        opened = λ z o. unnumbered_same h x m numbered.1 ∙ s.opened z o;
        unused = λ n own. unmoved n h x m numbered.1 (apart views id j v y m n k.once at ay ne numbered.1
            (let a : one_if (is_number y.spare n) ≡ 1 = ap one_if (one_of_same y.spare n own) in omega arith)) ∙ s.unused n own;
        seated = s.seated;
        alone = s.alone;
      }) in (
        w,
        keeps,
        tt,
        record {
          history = h';
          gate = gate;
          made = made;
          home = home;
          words_are = ap (λ (z : ℕ). z ∷ gate ∷ made ∷ []) word;
          homes_are = refl;
          kept = grown h gate made home views id v (v.seen ++ x ∷ []) x k at sees' others t u (λ n le. unmoved n h x m numbered.1 (below n le));
        },
        record {
          carried = refl;
          view = λ d₂ e₂ c₂ j₂. (let same : d ≡ d₂ = carried_same d d₂ c₂ in
              let lasts : e ≡ e₂ = last_same (map entry_of v.seen) e e₂ (sym journal ∙ (ap entries same ∙ j₂)) in
              ap (λ (z : E). with_seen Holding (v.seen ++ stamped v.number z ∷ []) v) lasts);
        },
      )))
