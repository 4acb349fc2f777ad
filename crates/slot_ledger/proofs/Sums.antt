-- The law of lists of calls: what an entry holds is what was taken and not given back.
use Rattle.std.proofs.Common.{◌≡◌, ℕ, ◌+◌, ◌-◌, ◌≤◌, Bool, true, false, not, ◌&&◌, ◌||◌, List, [], ◌∷◌, cond, refl, sym, ◌∙◌, ap, arith}
use Rattle.std.specs.Prelude.{nat_eq, nat_le}
use Rattle.std.specs.List.{list_any, All}
use Rattle.std.specs.Cmp.{nat_eq_equiv}
use Rattle.std.proofs.lemmas.Bool.{eqb-true, leb-true}
use Rattle.std.proofs.lemmas.List.Elements.{All-nil, All-cons, All-head, All-tail, All-append, All-map, filter_passes, All-filter}
use Rattle.bt_rows.specs.Lists.{AreDistinct}
use Rattle.slot_ledger.specs.Ledgers.{Entry, is_of, same_node, has_node, without_node}
use Rattle.slot_ledger.specs.Calls.{Call, AddNode, RemoveNode, Hold, Give, after_calls, AreLegal, held_by, given_by, HoldsItsSum}
use Rattle.slot_ledger.proofs.Entries.{or_first, or_second, none_more, or_none, distinct_filter, distinct_added, distinct_changed}

-- two facts of each entry, and what follows from both
each_of_both : (P Q S : Entry → Type 0) → ((entry : Entry) → P entry → Q entry → S entry) → (xs : List Entry) → All P xs → All Q xs → All S xs
each_of_both P Q S give [] p q = All-nil S
each_of_both P Q S give (x ∷ xs) p q =
    All-cons S x xs (give x (All-head P x xs p) (All-head Q x xs q)) (each_of_both P Q S give xs (All-tail P x xs p) (All-tail Q x xs q))

-- a node without an entry is none of the entries' nodes
none_of : (node : ℕ) (xs : List Entry) → has_node xs node ≡ false → All (λ entry. is_of node entry ≡ false) xs
none_of node [] h = All-nil (λ entry. is_of node entry ≡ false)
none_of node (x ∷ xs) h =
    All-cons (λ entry. is_of node entry ≡ false) x xs (or_first (is_of node x) (has_node xs node) h) (none_of node xs (or_second (is_of node x) (has_node xs node) h))

not_true : (b : Bool) → not b ≡ true → b ≡ false
not_true true h = cc
not_true false h = refl

-- what some entry of the node passes, each entry of the node does, since there is one alone
abbrev Passes : ℕ → (Entry → Bool) → Entry → Type 0
Passes node test entry = is_of node entry ≡ true → test entry ≡ true

of_others : (node : ℕ) (test : Entry → Bool) (x : Entry) (xs : List Entry) → list_any (is_of node) xs ≡ false → All (Passes node test) xs
of_others node test x [] h = All-nil (Passes node test)
of_others node test x (y ∷ ys) h =
    All-cons (Passes node test) y ys (λ k. let e : is_of node y ≡ false = or_first (is_of node y) (list_any (is_of node) ys) h in cc)
    (of_others node test x ys (or_second (is_of node y) (list_any (is_of node) ys) h))

each_passes_more : (node : ℕ) (test : Entry → Bool) (x : Entry) (xs : List Entry) (b : Bool) → is_of node x ≡ b → list_any (same_node x) xs ≡ false → ((b && test x) || list_any (λ y. is_of node y && test y) xs) ≡ true → (list_any (λ y. is_of node y && test y) xs ≡ true → All (Passes node test) xs) → All (Passes node test) (x ∷ xs)
each_passes_more node test x xs true e d h ih =
    let n : list_any (is_of node) xs ≡ false = ap (λ m. list_any (is_of m) xs) (sym (eqb-true x.node node e)) ∙ d in
    All-cons (Passes node test) x xs (λ k. or_none node (test x) (list_any (λ y. is_of node y && test y) xs) h (none_more node test xs n)) (of_others node test x xs n)
each_passes_more node test x xs false e d h ih = All-cons (Passes node test) x xs (λ k. cc) (ih h)

each_passes : (node : ℕ) (test : Entry → Bool) (xs : List Entry) → AreDistinct same_node xs → list_any (λ y. is_of node y && test y) xs ≡ true → All (Passes node test) xs
each_passes node test [] d h = All-nil (Passes node test)
each_passes node test (x ∷ xs) d h = each_passes_more node test x xs (is_of node x) refl d.0 h (each_passes node test xs d.1)

-- one entry

turned : (node number : ℕ) (b : Bool) → nat_eq number node ≡ b → nat_eq node number ≡ b
turned node number b e = nat_eq_equiv.symm node number ∙ e

added : (earlier : List Call) (node : ℕ) (pool : List ℕ) (slots : ℕ) (entry : Entry) → HoldsItsSum earlier entry → is_of node entry ≡ false → HoldsItsSum (AddNode node pool slots ∷ earlier) entry
added earlier node pool slots entry h e =
    let n : nat_eq node entry.node ≡ false = turned node entry.node false e in
    record {
      held = rw n h.held;
      given = rw n h.given;
      slots = h.slots;
    }

first : (earlier : List Call) (node : ℕ) (pool : List ℕ) (slots : ℕ) → HoldsItsSum (AddNode node pool slots ∷ earlier) (record { node = node; pool = pool; slots = slots; held = 0 })
first earlier node pool slots =
    let n : nat_eq node node ≡ true = nat_eq_equiv.refl node in
    record {
      held = rw n refl;
      given = rw n (omega arith);
      slots = omega arith;
    }

removed : (earlier : List Call) (node : ℕ) (entry : Entry) → HoldsItsSum earlier entry → not (is_of node entry) ≡ true → HoldsItsSum (RemoveNode node ∷ earlier) entry
removed earlier node entry h e =
    let n : nat_eq node entry.node ≡ false = turned node entry.node false (not_true (is_of node entry) e) in
    record {
      held = rw n h.held;
      given = rw n h.given;
      slots = h.slots;
    }

taken : (held by given n : ℕ) → held ≡ by - given → given ≤ by → held + n ≡ (by + n) - given
taken held by given n e h = omega arith

returned : (held by given n : ℕ) → held ≡ by - given → given ≤ by → n ≤ held → held - n ≡ by - (given + n)
returned held by given n e h k = omega arith

held_in : (earlier : List Call) (node n : ℕ) (entry : Entry) (b : Bool) → nat_eq entry.node node ≡ b → HoldsItsSum earlier entry → (b ≡ true → nat_le (entry.held + n) entry.slots ≡ true) → HoldsItsSum (Hold node n ∷ earlier) (cond b (record entry { held = entry.held + n }) entry)
held_in earlier node n entry true e h k =
    let t : nat_eq node entry.node ≡ true = turned node entry.node true e in
    let more : given_by earlier entry.node ≤ held_by earlier entry.node = h.given in
    record {
      held = rw t (taken entry.held (held_by earlier entry.node) (given_by earlier entry.node) n h.held h.given);
      given = rw t (omega arith);
      slots = leb-true (entry.held + n) entry.slots (k refl);
    }
held_in earlier node n entry false e h k =
    let t : nat_eq node entry.node ≡ false = turned node entry.node false e in
    record {
      held = rw t h.held;
      given = rw t h.given;
      slots = h.slots;
    }

given_in : (earlier : List Call) (node n : ℕ) (entry : Entry) (b : Bool) → nat_eq entry.node node ≡ b → HoldsItsSum earlier entry → (b ≡ true → nat_le n entry.held ≡ true) → HoldsItsSum (Give node n ∷ earlier) (cond b (record entry { held = entry.held - n }) entry)
given_in earlier node n entry true e h k =
    let t : nat_eq node entry.node ≡ true = turned node entry.node true e in
    let less : n ≤ entry.held = leb-true n entry.held (k refl) in
    let is : entry.held ≡ held_by earlier entry.node - given_by earlier entry.node = h.held in
    let more : given_by earlier entry.node ≤ held_by earlier entry.node = h.given in
    let fits : entry.held ≤ entry.slots = h.slots in
    record {
      held = rw t (returned entry.held (held_by earlier entry.node) (given_by earlier entry.node) n is more less);
      given = rw t (omega arith);
      slots = omega arith;
    }
given_in earlier node n entry false e h k =
    let t : nat_eq node entry.node ≡ false = turned node entry.node false e in
    record {
      held = rw t h.held;
      given = rw t h.given;
      slots = h.slots;
    }

-- all entries, of which no two are of one node

pub record AreSound (calls : List Call) (entries : List Entry) : Type 0 where
  pub distinct : AreDistinct same_node entries
  pub sums : All (HoldsItsSum calls) entries

sound_more : (call : Call) (earlier : List Call) → AreLegal (call ∷ earlier) → AreSound earlier (after_calls earlier) → AreSound (call ∷ earlier) (after_calls (call ∷ earlier))
sound_more (AddNode node pool slots) earlier legal h =
    let none : has_node (after_calls earlier) node ≡ false = not_true (has_node (after_calls earlier) node) legal.0 in
    let calls : List Call = AddNode node pool slots ∷ earlier in
    let entry : Entry = record { node = node; pool = pool; slots = slots; held = 0 } in
    record {
      distinct = distinct_added (after_calls earlier) (after_calls earlier) entry refl h.distinct none;
      sums = All-append (HoldsItsSum calls) (after_calls earlier) (entry ∷ [])
          (each_of_both (HoldsItsSum earlier) (λ e. is_of node e ≡ false) (HoldsItsSum calls) (added earlier node pool slots) (after_calls earlier) h.sums (none_of node (after_calls earlier) none))
          (All-cons (HoldsItsSum calls) entry [] (first earlier node pool slots) (All-nil (HoldsItsSum calls)));
    }
sound_more (RemoveNode node) earlier legal h =
    let calls : List Call = RemoveNode node ∷ earlier in
    let keeps : Entry → Bool = λ entry. not (is_of node entry) in
    record {
      distinct = distinct_filter same_node (λ entry. not (is_of node entry)) (after_calls earlier) h.distinct;
      sums = each_of_both (HoldsItsSum earlier) (λ e. not (is_of node e) ≡ true) (HoldsItsSum calls) (removed earlier node) (without_node (after_calls earlier) node)
          (All-filter (λ entry. not (is_of node entry)) (HoldsItsSum earlier) (after_calls earlier) h.sums)
          (filter_passes (λ entry. not (is_of node entry)) (after_calls earlier));
    }
sound_more (Hold node n) earlier legal h =
    let calls : List Call = Hold node n ∷ earlier in
    let test : Entry → Bool = λ entry. nat_le (entry.held + n) entry.slots in
    record {
      distinct = distinct_changed node (λ (entry : Entry). record entry { held = entry.held + n }) (λ entry. refl) (after_calls earlier) h.distinct;
      sums = All-map (HoldsItsSum calls) (λ (entry : Entry). cond (is_of node entry) (record entry { held = entry.held + n }) entry) (after_calls earlier)
          (each_of_both (HoldsItsSum earlier) (Passes node (λ entry. nat_le (entry.held + n) entry.slots)) (λ (entry : Entry). HoldsItsSum calls (cond (is_of node entry) (record entry { held = entry.held + n }) entry))
          (λ entry s p. held_in earlier node n entry (is_of node entry) refl s p) (after_calls earlier) h.sums
          (each_passes node (λ entry. nat_le (entry.held + n) entry.slots) (after_calls earlier) h.distinct legal.0));
    }
sound_more (Give node n) earlier legal h =
    let calls : List Call = Give node n ∷ earlier in
    record {
      distinct = distinct_changed node (λ (entry : Entry). record entry { held = entry.held - n }) (λ entry. refl) (after_calls earlier) h.distinct;
      sums = All-map (HoldsItsSum calls) (λ (entry : Entry). cond (is_of node entry) (record entry { held = entry.held - n }) entry) (after_calls earlier)
          (each_of_both (HoldsItsSum earlier) (Passes node (λ entry. nat_le n entry.held)) (λ (entry : Entry). HoldsItsSum calls (cond (is_of node entry) (record entry { held = entry.held - n }) entry))
          (λ entry s p. given_in earlier node n entry (is_of node entry) refl s p) (after_calls earlier) h.sums
          (each_passes node (λ entry. nat_le n entry.held) (after_calls earlier) h.distinct legal.0));
    }

sound : (calls : List Call) → AreLegal calls → AreSound calls (after_calls calls)
sound [] legal = record { distinct = tt; sums = All-nil (HoldsItsSum []) }
sound (call ∷ earlier) legal = sound_more call earlier legal (sound earlier legal.1)

pub each_holds_its_sum : (calls : List Call) → AreLegal calls → All (HoldsItsSum calls) (after_calls calls)
each_holds_its_sum calls legal = (sound calls legal).sums
