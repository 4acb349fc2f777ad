-- Distinct keys, row by row.
use Rattle.std.proofs.Common.{◌≡◌, ℕ, Bool, true, false, not, ◌&&◌, ◌||◌, List, [], ◌∷◌, Option, Some, None, refl, sym, ap, ◌∙◌, arith}
use Rattle.std.specs.Option.{option_map_or}
use Rattle.std.specs.List.{list_any, list_all}
use Rattle.std.specs.Str.{bytes_eq}
use Rattle.std.proofs.lemmas.Grind.{common_steps}
use Rattle.row_keys.specs.Passes.{has_key, share_key, is_new, are_distinct}

regrouped : (f a d b l : Bool) → ((f && b) && (d && (l && not a))) ≡ (f && ((not a && d) && (b && l)))
regrouped f a d b l = grind (arith, common_steps)

later : (s h a n l : Bool) → l ≡ (n && not a) → (not (s || h) && l) ≡ ((not s && n) && not (h || a))
later s h a n l e = grind (arith, common_steps)

and_yes : (b c : Bool) → c ≡ true → (b && c) ≡ b
and_yes true c h = h
and_yes false c h = refl

module _ {R : Type 0} (key : R → Option (List ℕ)) where
  module _ (before after : List ℕ → Bool) (row : R) (more : (text : List ℕ) → after text ≡ (before text || has_key key text row)) where
    next : (own : Option (List ℕ)) (n a l : Bool) → l ≡ (n && not a)
        → (option_map_or (λ text. not (after text)) own true && l)
        ≡ ((option_map_or (λ text. not (before text)) own true && n) && not (option_map_or (λ text. has_key key text row) own false || a))
    next None n a l h = h
    next (Some text) n a l h =
        ap (λ (b : Bool). not b && l) (more text) ∙ later (before text) (has_key key text row) a n l h

    -- rows are new after a row exactly if they are new before it, and do not have its key
    none_seen : (rows : List R) → list_all (is_new key after) rows ≡ (list_all (is_new key before) rows && not (list_any (share_key key row) rows))
    none_seen [] = refl
    none_seen (other ∷ rows) =
        next (key other) (list_all (is_new key before) rows) (list_any (share_key key row) rows) (list_all (is_new key after) rows) (none_seen rows)

  -- what is known of the rows so far, and the rows that are left, say together whether all are distinct
  abbrev pub Splits : Bool → (List ℕ → Bool) → List R → List R → Type 0
  Splits flag seen left all = (flag && (are_distinct (share_key key) left && list_all (is_new key seen) left)) ≡ are_distinct (share_key key) all

  new_one : (seen : List ℕ → Bool) → ((text : List ℕ) → seen text ≡ false) → (own : Option (List ℕ)) (b : Bool) → b ≡ true
      → (option_map_or (λ text. not (seen text)) own true && b) ≡ true
  new_one seen none None b h = h
  new_one seen none (Some text) b h = ap (λ (s : Bool). not s && b) (none text) ∙ h

  none_yet : (seen : List ℕ → Bool) → ((text : List ℕ) → seen text ≡ false) → (rows : List R) → list_all (is_new key seen) rows ≡ true
  none_yet seen none [] = refl
  none_yet seen none (row ∷ rows) = new_one seen none (key row) (list_all (is_new key seen) rows) (none_yet seen none rows)

  pub splits_first : (seen : List ℕ → Bool) (all : List R) → ((text : List ℕ) → seen text ≡ false) → Splits true seen all all
  splits_first seen all none = and_yes (are_distinct (share_key key) all) (list_all (is_new key seen) all) (none_yet seen none all)

  pub splits_more : (before after : List ℕ → Bool) (row : R) (left all : List R) (flag new : Bool) → new ≡ is_new key before row
      → ((text : List ℕ) → after text ≡ (before text || has_key key text row)) → Splits flag before (row ∷ left) all
      → Splits (flag && new) after left all
  splits_more before after row left all flag new e more h =
      ap (λ (b : Bool). (flag && b) && (are_distinct (share_key key) left && list_all (is_new key after) left)) e
      ∙ ap (λ (b : Bool). (flag && is_new key before row) && (are_distinct (share_key key) left && b)) (none_seen before after row more left)
      ∙ regrouped flag (list_any (share_key key row) left) (are_distinct (share_key key) left) (is_new key before row) (list_all (is_new key before) left)
      ∙ h

  pub splits_all : (flag : Bool) (seen : List ℕ → Bool) (all : List R) → Splits flag seen [] all → flag ≡ are_distinct (share_key key) all
  splits_all true seen all h = h
  splits_all false seen all h = h

-- tests that agree on all pairs agree on lists
module _ {R : Type 0} (p q : R → R → Bool) (agree : (a b : R) → p a b ≡ q a b) where
  any_alike : (row : R) (rows : List R) → list_any (p row) rows ≡ list_any (q row) rows
  any_alike row [] = refl
  any_alike row (other ∷ rows) = rw (agree row other, any_alike row rows) refl

  pub distinct_alike : (rows : List R) → are_distinct p rows ≡ are_distinct q rows
  distinct_alike [] = refl
  distinct_alike (row ∷ rows) = rw (any_alike row rows, distinct_alike rows) refl
