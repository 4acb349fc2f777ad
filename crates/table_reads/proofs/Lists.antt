-- Lists of rows and of their items: what stands after the first that passes a test, and first pages.
use Rattle.std.proofs.Common.{◌≡◌, ◌+◌, suc, Bool, true, false, ◌&&◌, List, [], ◌∷◌, map, filter, drop, refl, sym, ap, ◌∙◌, arith}
use Rattle.std.specs.List.{after_first, position_or_len}
use Rattle.std.proofs.lemmas.Bool.{and_from, and_left, and_right, cond-true, cond-false, not_from_true, not_from_false}
use Rattle.bt_rows.specs.declared.reply.Item.{Item}

module _ {R : Type 0} (test : R → Bool) where
  pub after_hit : (row : R) (rows : List R) → test row ≡ true → after_first test (row ∷ rows) ≡ rows
  after_hit row rows h =
      let none : position_or_len test (row ∷ rows) ≡ 0 = cond-false _ (1 + position_or_len test rows) 0 (not_from_true (test row) h) in
      ap (λ n. drop (n + 1) (row ∷ rows)) none

  pub after_miss : (row : R) (rows : List R) → test row ≡ false → after_first test (row ∷ rows) ≡ after_first test rows
  after_miss row rows h =
      let more : position_or_len test (row ∷ rows) ≡ 1 + position_or_len test rows =
      cond-true _ (1 + position_or_len test rows) 0 (not_from_false (test row) h)
      in
      let next : position_or_len test (row ∷ rows) + 1 ≡ suc (position_or_len test rows + 1) = omega (arith, more) in
      ap (λ n. drop n (row ∷ rows)) next

  pub filter_hit : (row : R) (rows : List R) → test row ≡ true → filter test (row ∷ rows) ≡ row ∷ filter test rows
  filter_hit row rows h = cond-true (test row) _ _ h

  pub filter_miss : (row : R) (rows : List R) → test row ≡ false → filter test (row ∷ rows) ≡ filter test rows
  filter_miss row rows h = cond-false (test row) _ _ h

pub filter_all : {R : Type 0} (rows : List R) → filter (λ _. true) rows ≡ rows
filter_all [] = refl
filter_all (row ∷ rows) = ap (λ others. row ∷ others) (filter_all rows)

module _ {R : Type 0} (is_in is_named : R → Bool) (item_of : R → Item) (has : Item → Bool) (tells : (row : R) → has (item_of row) ≡ is_named row) where
  abbrev found : R → Bool
  found row = is_in row && is_named row

  shown_more : (row : R) (rows : List R) (inside named : Bool) → is_in row ≡ inside → is_named row ≡ named →
      map item_of (filter is_in (after_first found rows)) ≡ after_first has (map item_of (filter is_in rows)) →
      map item_of (filter is_in (after_first found (row ∷ rows))) ≡ after_first has (map item_of (filter is_in (row ∷ rows)))
  shown_more row rows true true e f h =
      ap (λ rs. map item_of (filter is_in rs)) (after_hit found row rows (and_from _ _ e f))
      ∙ sym (ap (λ rs. after_first has (map item_of rs)) (filter_hit is_in row rows e)
      ∙ after_hit has (item_of row) (map item_of (filter is_in rows)) (tells row ∙ f))
  shown_more row rows true false e f h =
      ap (λ rs. map item_of (filter is_in rs)) (after_miss found row rows (and_right _ _ f))
      ∙ h
      ∙ sym (ap (λ rs. after_first has (map item_of rs)) (filter_hit is_in row rows e)
      ∙ after_miss has (item_of row) (map item_of (filter is_in rows)) (tells row ∙ f))
  shown_more row rows false named e f h =
      ap (λ rs. map item_of (filter is_in rs)) (after_miss found row rows (and_left _ _ e))
      ∙ h
      ∙ sym (ap (λ rs. after_first has (map item_of rs)) (filter_miss is_in row rows e))

  -- the items after an item are those of the rows after its row
  pub shown_after : (rows : List R) →
      map item_of (filter is_in (after_first found rows)) ≡ after_first has (map item_of (filter is_in rows))
  shown_after [] = refl
  shown_after (row ∷ rows) = shown_more row rows (is_in row) (is_named row) refl refl (shown_after rows)
