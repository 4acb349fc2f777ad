-- Puts of the rows that entries are, one after another.
use Rattle.std.proofs.Common.{◌≡◌, ℕ, suc, ◌+◌, ◌<◌, ◌≤◌, Bool, true, false, List}
use Rattle.std.proofs.Common.{[], ◌∷◌, ◌++◌, length, map, drop, get_or, Option, Some, None, is_some, Result}
use Rattle.std.proofs.Common.{refl, sym, ap, ◌∙◌, append_assoc, append-nil, drop-cons, add-one}
use Rattle.std.proofs.lemmas.List.{drop_all}
use Rattle.std.specs.Option.{option_map}
use Rattle.serde_json.specs.Data.{Data}
use Rattle.row_fields.specs.declared.fault.RowFault.{RowFault}
use Rattle.bt_rows.specs.declared.tables.Change.{Change}
use Rattle.keeper_store.specs.declared.entries.Entry.{Entry}
use Rattle.store_keeper.specs.Reading.{row_in, rows_in}
use Rattle.store_keeper.specs.Filling.{with_put}

module _ {R : Type 0} (key_of : R → List ℕ) (keyed : R → Bool) (in_data : Data → Result R RowFault) (put : R → Change) where
  -- these puts, and then those of the entries that are left
  abbrev pub all_puts : List Change → List Entry → Option (List Change)
  all_puts puts entries = option_map (λ rows. puts ++ map put rows) (rows_in key_of keyed in_data entries)

  next_case : (puts : List Change) (row : R) (rows : Option (List R))
      → option_map (λ rs. puts ++ map put rs) (option_map (λ rs. row ∷ rs) rows) ≡ option_map (λ rs. (puts ++ put row ∷ []) ++ map put rs) rows
  next_case puts row None = refl
  next_case puts row (Some rows) = ap (λ (r : List Change). Some r) (sym (append_assoc puts (put row ∷ []) (map put rows)))

  next_put : (puts : List Change) (entry : Entry) (row : R) (entries : List Entry) → row_in key_of keyed in_data entry ≡ Some row
      → all_puts puts (entry ∷ entries) ≡ all_puts (puts ++ put row ∷ []) entries
  next_put puts entry row entries h = rw h (next_case puts row (rows_in key_of keyed in_data entries))

  no_put : (puts : List Change) (entry : Entry) (entries : List Entry) → row_in key_of keyed in_data entry ≡ None → all_puts puts (entry ∷ entries) ≡ None
  no_put puts entry entries h = rw h refl

  left : (entries : List Entry) (i : ℕ) (entry : Entry) → i < length entries → entry ≡ get_or entries i entry
      → drop i entries ≡ entry ∷ drop (i + 1) entries
  left entries i entry h is = rw (add-one i) (drop-cons entries i entry h ∙ ap (λ e. e ∷ drop (suc i) entries) (sym is))

  put_case : (old new : List Change) (entry : Entry) (entries : List Entry) (read : Option R) → row_in key_of keyed in_data entry ≡ read
      → is_some read ≡ true → new ≡ with_put put read old → all_puts new entries ≡ all_puts old (entry ∷ entries)
  put_case old new entry entries None r there is = absurd (cc)
  put_case old new entry entries (Some row) r there is = ap (λ puts. all_puts puts entries) is ∙ sym (next_put old entry row entries r)

  none_case : (old : List Change) (entry : Entry) (entries : List Entry) (read : Option R) → row_in key_of keyed in_data entry ≡ read
      → is_some read ≡ false → all_puts old (entry ∷ entries) ≡ None
  none_case old entry entries None r there = no_put old entry entries r
  none_case old entry entries (Some row) r there = absurd (cc)

  -- the entry at a place is put, or is no row
  pub put_at : (old new : List Change) (entries : List Entry) (i : ℕ) (entry : Entry) → i < length entries → entry ≡ get_or entries i entry
      → is_some (row_in key_of keyed in_data entry) ≡ true → new ≡ with_put put (row_in key_of keyed in_data entry) old
      → all_puts new (drop (i + 1) entries) ≡ all_puts old (drop i entries)
  put_at old new entries i entry h is there n =
      rw (left entries i entry h is) (put_case old new entry (drop (i + 1) entries) (row_in key_of keyed in_data entry) refl there n)

  pub none_at : (old : List Change) (entries : List Entry) (i : ℕ) (entry : Entry) → i < length entries → entry ≡ get_or entries i entry
      → is_some (row_in key_of keyed in_data entry) ≡ false → all_puts old (drop i entries) ≡ None
  none_at old entries i entry h is there =
      rw (left entries i entry h is) (none_case old entry (drop (i + 1) entries) (row_in key_of keyed in_data entry) refl there)

  -- no entry is left
  pub all_put : (puts : List Change) (entries : List Entry) (i : ℕ) → length entries ≤ i → all_puts puts (drop i entries) ≡ Some puts
  all_put puts entries i h = rw (drop_all i entries h) (ap (λ (r : List Change). Some r) (append-nil puts))
