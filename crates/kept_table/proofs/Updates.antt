-- What a map with keys of bytes has at each text after a change at one key.
use Rattle.std.proofs.Common.{◌≡◌, Vec, ℕ, Bool, true, false, cond, List, [], ◌∷◌, Option, Some, None, refl, sym, ap, subst, ◌∙◌, ⊎_elim}
use Rattle.std.specs.Str.{bytes_eq}
use Rattle.std.specs.HashMap.{HashMap, get_by, UpdatesBy}
use Rattle.std.specs.Map.{KeepsOthers, lookup, lookup_key}
use Rattle.std.proofs.lemmas.Map.Made.{lookup_key_passes}
use Rattle.std.specs.Cmp.Lexicographic.{nat_list_eq_equiv}
use Rattle.kept_table.specs.Slots.{has_bytes}
use Rattle.std.proofs.lemmas.Bool.{cases_Bool, false_from_ne_true, cond-true, cond-false, true≢false}
use Rattle.std.proofs.lemmas.Slice.Eq.{bytes_eq-Decides}

abbrev pub same_bytes : {Z : Type 0} → Vec ℕ Z → Vec ℕ Z → Bool
same_bytes x y = bytes_eq x.items y.items

pub updates_bytes : {Z X S : Type 0} (bs : List ℕ) (m n : HashMap (Vec ℕ Z) X S) (w : Option X) → UpdatesBy same_bytes (has_bytes bs) m n w
    → (q : List ℕ) → get_by (has_bytes q) n ≡ cond (bytes_eq bs q) w (get_by (has_bytes q) m)
unfolding KeepsOthers
updates_bytes {Z} {X} {S} bs m n w u q =
    ⊎_elim
    (λ (e : bytes_eq bs q ≡ true).
    let same : bs ≡ q = (bytes_eq-Decides bs q).0 e in
    ap (λ (r : List ℕ). get_by (has_bytes r) n) (sym same) ∙ u.1 ∙ sym (cond-true (bytes_eq bs q) w (get_by (has_bytes q) m) e))
    (λ (e : bytes_eq bs q ≡ false).
    u.3 (has_bytes q)
    (λ x y h. nat_list_eq_equiv.congr q x.items y.items h)
    (λ k h. false_from_ne_true (bytes_eq q k.items) (λ f.
    let one : bs ≡ k.items = (bytes_eq-Decides bs k.items).0 h in
    let two : q ≡ k.items = (bytes_eq-Decides q k.items).0 f in
    absurd (true≢false (sym ((bytes_eq-Decides bs q).1 (one ∙ sym two)) ∙ e))))
    ∙ sym (cond-false (bytes_eq bs q) w (get_by (has_bytes q) m) e))
    (cases_Bool (bytes_eq bs q))

key_none : {K X : Type 0} (test : K → Bool) (es : List (K × X)) → lookup_key test es ≡ None → lookup test es ≡ None
key_none test [] h = refl
key_none {K} {X} test (e ∷ es) h =
    ⊎_elim
    (λ (p : test e.0 ≡ true). absurd (none_some (sym h ∙ cond-true (test e.0) (Some e.0) (lookup_key test es) p)))
    (λ (p : test e.0 ≡ false). cond-false (test e.0) (Some e.1) (lookup test es) p
    ∙ key_none test es (sym (cond-false (test e.0) (Some e.0) (lookup_key test es) p) ∙ h))
    (cases_Bool (test e.0))
  where
    none_some : {A : Type 0} {x : A} → None ≡ Some x → ⊥
    none_some p = cc

-- maps that have the same at each key have the same at each text
pub alike_bytes : {Z X S T : Type 0} (m : HashMap (Vec ℕ Z) X S) (n : HashMap (Vec ℕ Z) X T)
    → ((k : Vec ℕ Z) → get_by (same_bytes k) n ≡ get_by (same_bytes k) m) → (q : List ℕ) → get_by (has_bytes q) n ≡ get_by (has_bytes q) m
alike_bytes {Z} {X} {S} {T} m n h q = by_keys (lookup_key (has_bytes q) n.entries) (lookup_key (has_bytes q) m.entries) refl refl
  where
    at_key : (k : Vec ℕ Z) → bytes_eq q k.items ≡ true → get_by (has_bytes q) n ≡ get_by (has_bytes q) m
    at_key k e = subst (λ (r : List ℕ). get_by (has_bytes r) n ≡ get_by (has_bytes r) m) (sym ((bytes_eq-Decides q k.items).0 e)) (h k)

    by_keys : (a b : Option (Vec ℕ Z)) → lookup_key (has_bytes q) n.entries ≡ a → lookup_key (has_bytes q) m.entries ≡ b
        → get_by (has_bytes q) n ≡ get_by (has_bytes q) m
    by_keys (Some k) b e f = at_key k (lookup_key_passes (has_bytes q) n.entries k e)
    by_keys None (Some k) e f = at_key k (lookup_key_passes (has_bytes q) m.entries k f)
    by_keys None None e f = key_none (has_bytes q) n.entries e ∙ sym (key_none (has_bytes q) m.entries f)
