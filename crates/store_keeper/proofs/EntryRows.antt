-- Edits of the entries of a kind are changes of the rows that they are.
use Rattle.std.proofs.Common.{◌≡◌, ℕ, Bool, true, false, ◌&&◌, cond, List, [], ◌∷◌, Option, Some, None, Result, Ok, Err, refl, sym, ap, subst, ◌∙◌}
use Rattle.std.specs.Option.{option_map, option_and_then}
use Rattle.std.specs.Result.{result_ok}
use Rattle.std.specs.Str.{bytes_eq}
use Rattle.std.specs.Cmp.Lexicographic.{bytes_decides}
use Rattle.serde_json.specs.Data.{Data}
use Rattle.bt_rows.specs.Lists.{put_row, drop_row}
use Rattle.row_fields.specs.declared.fault.RowFault.{RowFault}
use Rattle.row_texts.specs.Texts.{row_in_text}
use Rattle.keeper_store.specs.declared.entries.Entry.{Entry}
use Rattle.keeper_store.specs.Lists.{put_entry, drop_entry}
use Rattle.store_keeper.specs.Reading.{if_key, row_in, rows_in}

module _ {R : Type 0} (key_of : R → List ℕ) (keyed : R → Bool) (in_data : Data → Result R RowFault) where
  -- what is known of an entry that is a row
  pub record IsRow (entry : Entry) (row : R) : Type 0 where
    pub key : entry.key ≡ key_of row
    pub known : keyed row ≡ true

  if_case : (b k : Bool) (row found : R) → cond (b && k) (Some row) None ≡ Some found → (b ≡ true) × (k ≡ true) × (row ≡ found)
  if_case true true row found h = (refl, refl, cc)
  if_case true false row found h = absurd (cc)
  if_case false k row found h = absurd (cc)

  of_read : (entry : Entry) (read : Result R RowFault) (row : R) → option_and_then (if_key key_of keyed entry.key) (result_ok read) ≡ Some row → IsRow entry row
  of_read entry (Ok old) row h =
      let c = if_case (bytes_eq entry.key (key_of old)) (keyed old) old row h in
      record { key = (bytes_decides entry.key (key_of old)).0 c.0 ∙ ap key_of c.2; known = sym (ap keyed c.2) ∙ c.1 }
  of_read entry (Err e) row h = absurd (cc)

  pub is_row : (entry : Entry) (row : R) → row_in key_of keyed in_data entry ≡ Some row → IsRow entry row
  is_row entry row h = of_read entry (row_in_text in_data entry.text) row h

  -- the first entry and the others are rows
  pub record Parted (entry : Entry) (entries : List Entry) (rows : List R) : Type 0 where
    pub first : R
    pub rest : List R
    pub is : rows ≡ first ∷ rest
    pub first_in : row_in key_of keyed in_data entry ≡ Some first
    pub rest_in : rows_in key_of keyed in_data entries ≡ Some rest

  part_case : (entry : Entry) (entries : List Entry) (one : Option R) (others : Option (List R)) (rows : List R)
      → row_in key_of keyed in_data entry ≡ one → rows_in key_of keyed in_data entries ≡ others
      → option_and_then (λ row. option_map (λ rs. row ∷ rs) others) one ≡ Some rows → Parted entry entries rows
  part_case entry entries None others rows a b h = absurd (cc)
  part_case entry entries (Some first) None rows a b h = absurd (cc)
  part_case entry entries (Some first) (Some rest) rows a b h = record { first = first; rest = rest; is = cc; first_in = a; rest_in = b }

  pub part : (entry : Entry) (entries : List Entry) (rows : List R) → rows_in key_of keyed in_data (entry ∷ entries) ≡ Some rows → Parted entry entries rows
  part entry entries rows h = part_case entry entries (row_in key_of keyed in_data entry) (rows_in key_of keyed in_data entries) rows refl refl h

  pub join : (entry : Entry) (entries : List Entry) (row : R) (rows : List R) → row_in key_of keyed in_data entry ≡ Some row
      → rows_in key_of keyed in_data entries ≡ Some rows → rows_in key_of keyed in_data (entry ∷ entries) ≡ Some (row ∷ rows)
  join entry entries row rows a b = rw (a, b) refl

  -- an entry with a row's key and text is that row
  itself : (xs : List ℕ) → bytes_eq xs xs ≡ true
  itself xs = (bytes_decides xs xs).1 refl

  pub row_again : (entry : Entry) (row : R) → entry.key ≡ key_of row → keyed row ≡ true → row_in_text in_data entry.text ≡ Ok row
      → row_in key_of keyed in_data entry ≡ Some row
  row_again entry row k n t = rw (t, k, itself (key_of row), n) refl

  module _ (same : R → R → Bool) (agree : (old row : R) → keyed old ≡ true → keyed row ≡ true → bytes_eq (key_of old) (key_of row) ≡ same old row) where
    put_case : (b : Bool) (entry e : Entry) (row old : R) (entries : List Entry) (rows : List R)
        → row_in key_of keyed in_data entry ≡ Some row → row_in key_of keyed in_data e ≡ Some old → rows_in key_of keyed in_data entries ≡ Some rows
        → rows_in key_of keyed in_data (put_entry entry entries) ≡ Some (put_row (λ x. same x row) row rows)
        → rows_in key_of keyed in_data (cond b (entry ∷ entries) (e ∷ put_entry entry entries))
        ≡ Some (cond b (row ∷ rows) (old ∷ put_row (λ x. same x row) row rows))
    put_case true entry e row old entries rows a o r p = join entry entries row rows a r
    put_case false entry e row old entries rows a o r p = join e (put_entry entry entries) old (put_row (λ x. same x row) row rows) o p

    -- a put of the entry of a row is a put of the row
    pub put_in_rows : (entry : Entry) (row : R) → row_in key_of keyed in_data entry ≡ Some row → (entries : List Entry) (rows : List R)
        → rows_in key_of keyed in_data entries ≡ Some rows
        → rows_in key_of keyed in_data (put_entry entry entries) ≡ Some (put_row (λ x. same x row) row rows)
    put_in_rows entry row a [] rows h =
        let none : rows ≡ [] = cc in
        subst (λ rs. rows_in key_of keyed in_data (entry ∷ []) ≡ Some (put_row (λ x. same x row) row rs)) (sym none) (join entry [] row [] a refl)
    put_in_rows entry row a (e ∷ entries) rows h =
        let p = part e entries rows h in
        let o = is_row e p.first p.first_in in
        let n = is_row entry row a in
        let alike : bytes_eq e.key entry.key ≡ same p.first row =
        ap (λ k. bytes_eq k entry.key) o.key ∙ ap (λ k. bytes_eq (key_of p.first) k) n.key ∙ agree p.first row o.known n.known in
        subst (λ rs. rows_in key_of keyed in_data (put_entry entry (e ∷ entries)) ≡ Some (put_row (λ x. same x row) row rs)) (sym p.is)
        (rw alike (put_case (same p.first row) entry e row p.first entries p.rest a p.first_in p.rest_in (put_in_rows entry row a entries p.rest p.rest_in)))

  module _ (has : R → Bool) (key : List ℕ) (tells : (old : R) → keyed old ≡ true → bytes_eq (key_of old) key ≡ has old) where
    drop_case : (b : Bool) (e : Entry) (old : R) (entries : List Entry) (rows : List R)
        → row_in key_of keyed in_data e ≡ Some old → rows_in key_of keyed in_data entries ≡ Some rows
        → rows_in key_of keyed in_data (drop_entry key entries) ≡ Some (drop_row has rows)
        → rows_in key_of keyed in_data (cond b entries (e ∷ drop_entry key entries)) ≡ Some (cond b rows (old ∷ drop_row has rows))
    drop_case true e old entries rows o r d = r
    drop_case false e old entries rows o r d = join e (drop_entry key entries) old (drop_row has rows) o d

    -- a drop of a key is a drop of the row that has it
    pub drop_in_rows : (entries : List Entry) (rows : List R) → rows_in key_of keyed in_data entries ≡ Some rows
        → rows_in key_of keyed in_data (drop_entry key entries) ≡ Some (drop_row has rows)
    drop_in_rows [] rows h =
        let none : rows ≡ [] = cc in
        subst (λ rs. rows_in key_of keyed in_data [] ≡ Some (drop_row has rs)) (sym none) refl
    drop_in_rows (e ∷ entries) rows h =
        let p = part e entries rows h in
        let o = is_row e p.first p.first_in in
        let alike : bytes_eq e.key key ≡ has p.first = ap (λ k. bytes_eq k key) o.key ∙ tells p.first o.known in
        subst (λ rs. rows_in key_of keyed in_data (drop_entry key (e ∷ entries)) ≡ Some (drop_row has rs)) (sym p.is)
        (rw alike (drop_case (has p.first) e p.first entries p.rest p.first_in p.rest_in (drop_in_rows entries p.rest p.rest_in)))
