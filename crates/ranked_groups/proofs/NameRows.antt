-- The names in the rows of a table without free places.
use Rattle.std.proofs.Common.{◌≡◌, ℕ, suc, cond, List, [], ◌∷◌, ◌++◌, map, Option, Some, refl, sym, ap, subst, ◌∙◌}
use Rattle.std.specs.Option.{option_map}
use Rattle.std.specs.Str.{bytes_eq}
use Rattle.std.proofs.lemmas.List.{map_push}
use Rattle.std.proofs.lemmas.List.Elements.{filter_map-append}
use Rattle.kept_table.specs.Slots.{place_of, rows}
use Rattle.ranked_groups.specs.Groups.{number_in}

module _ {R : Type 0} (text : R → List ℕ) where
  -- the place of the row with a name is the name's number
  place_in : (name : List ℕ) (names : List R) → place_of (λ row. bytes_eq (text row) name) (map (λ row. Some row) names) ≡ number_in name (map text names)
  place_in name [] = refl
  place_in name (row ∷ names) = ap (λ (p : Option ℕ). cond (bytes_eq (text row) name) (Some 0) (option_map suc p)) (place_in name names)

  pub place_is_number : (name : List ℕ) (slots : List (Option R)) → slots ≡ map (λ row. Some row) (rows slots)
      → place_of (λ row. bytes_eq (text row) name) slots ≡ number_in name (map text (rows slots))
  place_is_number name slots full =
      ap (λ (xs : List (Option R)). place_of (λ row. bytes_eq (text row) name) xs) full ∙ place_in name (rows slots)

  rows_push : (slots : List (Option R)) (row : R) → rows (slots ++ Some row ∷ []) ≡ rows slots ++ row ∷ []
  rows_push slots row = filter_map-append (λ (slot : Option R). slot) slots (Some row ∷ [])

  pub full_push : (slots new : List (Option R)) (row : R) → new ≡ slots ++ Some row ∷ [] → slots ≡ map (λ row. Some row) (rows slots)
      → new ≡ map (λ row. Some row) (rows new)
  full_push slots new row is full =
      subst (λ (xs : List (Option R)). xs ≡ map (λ row. Some row) (rows xs)) (sym is)
      (ap (λ (xs : List (Option R)). xs ++ Some row ∷ []) full
      ∙ sym (ap (map (λ row. Some row)) (rows_push slots row) ∙ map_push (λ (row : R). Some row) (rows slots) row))

  pub names_push : (slots new : List (Option R)) (row : R) → new ≡ slots ++ Some row ∷ [] → map text (rows new) ≡ map text (rows slots) ++ text row ∷ []
  names_push slots new row is =
      ap (λ (xs : List (Option R)). map text (rows xs)) is ∙ (ap (map text) (rows_push slots row) ∙ map_push text (rows slots) row)
