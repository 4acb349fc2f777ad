-- Counts of keys, row by row.
use Rattle.std.proofs.Common.{◌≡◌, ℕ, ◌+◌, Bool, true, false, cond, List, [], ◌∷◌, Option, Some, None, count_by, refl, sym, ap, ◌∙◌, arith}
use Rattle.std.specs.Option.{unwrap_or}
use Rattle.std.specs.Str.{bytes_eq}
use Rattle.std.proofs.lemmas.Slice.Eq.{bytes_eq-Decides}
use Rattle.std.proofs.lemmas.List.Sums.{sum_by-cons}
use Rattle.row_keys.specs.Numbers.{number_at, count_at}
use Rattle.row_keys.specs.Passes.{has_key}

one_more : (b : Bool) (n : ℕ) (old new : Option ℕ) → (b ≡ true → n ≡ unwrap_or old 0) → new ≡ cond b (Some (n + 1)) old
    → unwrap_or new 0 ≡ unwrap_or old 0 + cond b 1 0
one_more true n old new h e = rw (e, h refl) refl
one_more false n old new h e = rw e (omega arith)

pub counted : (old new : List (List ℕ × ℕ)) (key : List ℕ)
    → ((other : List ℕ) → number_at new other ≡ cond (bytes_eq key other) (Some (count_at old key + 1)) (number_at old other))
    → (text : List ℕ) → count_at new text ≡ count_at old text + cond (bytes_eq key text) 1 0
counted old new key h text =
    one_more (bytes_eq key text) (count_at old key) (number_at old text) (number_at new text)
    (λ e. ap (count_at old) ((bytes_eq-Decides key text).0 e)) (h text)

module _ {R : Type 0} (key : R → Option (List ℕ)) where
  -- the counts so far, and those of the rows that are left, are together those of all
  abbrev pub Divides : List (List ℕ × ℕ) → List R → List R → Type 0
  Divides counts left all = (text : List ℕ) → count_at counts text + count_by (has_key key text) left ≡ count_by (has_key key text) all

  pub divides_first : (counts : List (List ℕ × ℕ)) (all : List R) → ((text : List ℕ) → number_at counts text ≡ None) → Divides counts all all
  divides_first counts all none text = let e = ap (λ (r : Option ℕ). unwrap_or r 0) (none text) in omega (arith, e)

  pub divides_more : (before after : List (List ℕ × ℕ)) (row : R) (left all : List R)
      → ((text : List ℕ) → count_at after text ≡ count_at before text + cond (has_key key text row) 1 0)
      → Divides before (row ∷ left) all → Divides after left all
  divides_more before after row left all more h text =
      let k = h text in
      let s = sum_by-cons (λ (one : R). cond (has_key key text one) 1 0) row left in
      omega (arith, more text, k, s)

  pub divides_all : (counts : List (List ℕ × ℕ)) (all : List R) → Divides counts [] all
      → (text : List ℕ) → count_at counts text ≡ count_by (has_key key text) all
  divides_all counts all h text = let k = h text in omega (arith, k)
