-- Words that are read as texts, one after the other.
use Rattle.std.proofs.Common.{◌≡◌, ◌∙◌, ℕ, suc, ◌+◌, ◌<◌, ◌&&◌, Bool, true, false, List, [], ◌∷◌, ◌++◌, arith, ap, ap₂, refl, sym}
use Rattle.std.proofs.Common.{drop, get_or, length, map, take}
use Rattle.std.specs.Borrow.{Bor}
use Rattle.std.specs.List.{list_all}
use Rattle.std.specs.Str.{IsUtf8, is_utf8}
use Rattle.std.proofs.lemmas.List.{map-append}
use Rattle.std.proofs.lemmas.Str.{IsUtf8-from_is_utf8}
use Rattle.std.proofs.Math.Seq.{drop-cons, take-suc}

-- the bytes of texts
abbrev pub texts : List (Bor (List ℕ)) → List (List ℕ)
texts = map (λ (t : Bor (List ℕ)). t.now)

pub no_text : (word : List ℕ) → (IsUtf8 word → ⊥) → is_utf8 word ≡ false
no_text word wrong = go (is_utf8 word) refl
  where
    go : (b : Bool) → is_utf8 word ≡ b → b ≡ false
    go true e = absurd (wrong (IsUtf8-from_is_utf8 word e))
    go false e = refl

-- one word less is left
pub next_is : (words : List (List ℕ)) (i : ℕ) (word : List ℕ) (b : Bool) → i < length words → word ≡ get_or words i word → is_utf8 word ≡ b
    → list_all is_utf8 (drop i words) ≡ (b && list_all is_utf8 (drop (i + 1) words))
next_is words i word b lt is e =
    let next : suc i ≡ i + 1 = omega arith in
    ap (list_all is_utf8) (drop-cons words i word lt) ∙ ap₂ (λ c k. c && list_all is_utf8 (drop k words)) (ap is_utf8 (sym is) ∙ e) next

-- one text more is read
pub one_more : (words : List (List ℕ)) (items : List (Bor (List ℕ))) (i : ℕ) (word : List ℕ) (t : Bor (List ℕ)) → i < length words
    → word ≡ get_or words i word → t.now ≡ word → texts items ≡ take i words → texts (items ++ t ∷ []) ≡ take (i + 1) words
one_more words items i word t lt is same before =
    let next : suc i ≡ i + 1 = omega arith in
    map-append (λ (w : Bor (List ℕ)). w.now) items (t ∷ []) ∙ ap₂ (λ a b. a ++ b ∷ []) before (same ∙ is) ∙ sym (take-suc words i word lt)
    ∙ ap (λ k. take k words) next
