-- Look-ups by bytes after a change of one key.
use Rattle.std.proofs.Common.{◌≡◌, ℕ, Bool, true, false, cond, List, bytes_eq, Option, Some, refl, ◌∙◌, sym, subst, ap}
use Rattle.std.specs.Prelude.{Vec}
use Rattle.std.specs.BTreeMap.{BTreeMap, UpdatesBy, get_by}
use Rattle.std.specs.Map.{KeepsOthers, IsKeyTest, AreApart, lookup}
use Rattle.std.specs.Cmp.{eq_by_cmp_equiv}
use Rattle.std.specs.Cmp.Lexicographic.{slice_cmp, bytes_decides, nat_list_cmp_total, nat_list_eq_equiv}
use Rattle.std.specs.Ordering.{is_eq, nat_cmp}
use Rattle.std.specs.declared.alloc.Global.{Global}
use Rattle.std.proofs.lemmas.Map.Text.{is_eq-slice_cmp}
use Rattle.name_index.specs.Numbers.{number_of, with_number}

-- other keys keep their entries
others_kept : {K X : Type 0} (eq : K → K → Bool) (test : K → Bool) (old new : List (K × X)) → KeepsOthers eq test old new → (other : K → Bool) →
    IsKeyTest eq other → AreApart test other → lookup other new ≡ lookup other old
unfolding KeepsOthers
others_kept eq test old new h = h

-- a key that is equal to one name is not equal to another
apart : (name other key : List ℕ) → bytes_eq name other ≡ false → is_eq (slice_cmp nat_cmp name key) ≡ true → is_eq (slice_cmp nat_cmp other key) ≡ false
apart name other key n y = is_eq-slice_cmp other key ∙ nat_list_eq_equiv.symm other key
    ∙ sym (nat_list_eq_equiv.congr name key other (sym (is_eq-slice_cmp name key) ∙ y)) ∙ n

-- after a change of one key, each name has what it had before, or what the key has now
updated : (old new : BTreeMap (Vec ℕ Global) ℕ) (name : List ℕ) (w : Option ℕ) →
    UpdatesBy (λ x y. slice_cmp nat_cmp x.items y.items) (λ k. slice_cmp nat_cmp name k.items) old new w → (other : List ℕ) →
    get_by (λ k. slice_cmp nat_cmp other k.items) new ≡ cond (bytes_eq name other) w (get_by (λ k. slice_cmp nat_cmp other k.items) old)
updated old new name w h other = either (bytes_eq name other) refl
  where
    either : (b : Bool) → bytes_eq name other ≡ b →
        get_by (λ k. slice_cmp nat_cmp other k.items) new ≡ cond b w (get_by (λ k. slice_cmp nat_cmp other k.items) old)
    either true e = subst (λ l. get_by (λ k. slice_cmp nat_cmp l k.items) new ≡ w) ((bytes_decides name other).0 e) h.1
    either false e = others_kept _ _ _ _ h.3 _ (λ x y. (eq_by_cmp_equiv nat_list_cmp_total).congr other x.items y.items) (λ k. apart name other k.items e)

-- the numbers of an index once the number of one name is set
pub put_number : (old new : BTreeMap (Vec ℕ Global) ℕ) (key : Vec ℕ Global) (name : List ℕ) (number : ℕ) →
    UpdatesBy (λ x y. slice_cmp nat_cmp x.items y.items) (λ k. slice_cmp nat_cmp key.items k.items) old new (Some number) → key.items ≡ name →
    (other : List ℕ) → number_of (record { numbers = new }) other ≡ with_number (number_of (record { numbers = old })) name number other
put_number old new key name number h same other =
    updated old new key.items (Some number) h other
    ∙ ap (λ bytes. cond (bytes_eq bytes other) (Some number) (get_by (λ k. slice_cmp nat_cmp other k.items) old)) same
