-- A place that is found by a key is found by the key's text.
use Rattle.std.proofs.Common.{◌≡◌, ℕ, Bool, List, Option, sym}
use Rattle.kept_table.specs.Keys.{AreTexts}
use Rattle.kept_table.specs.Slots.{place_of, has_text}
use Rattle.kept_table.proofs.Closing.{place_of_alike}

module _ {K R : Type 0} {has_key : K → R → Bool} {same_key : R → R → Bool} {key_text : K → List ℕ} {row_text : R → List ℕ}
    (texts : AreTexts has_key same_key key_text row_text) where
  pub of_key : (key : K) (slots : List (Option R)) → place_of (has_text row_text (key_text key)) slots ≡ place_of (has_key key) slots
  of_key key slots = place_of_alike (has_text row_text (key_text key)) (has_key key) (λ row. sym (texts.has key row)) slots

  pub of_row : (row : R) (slots : List (Option R)) → place_of (has_text row_text (row_text row)) slots ≡ place_of (λ old. same_key old row) slots
  of_row row slots = place_of_alike (has_text row_text (row_text row)) (λ old. same_key old row) (λ old. sym (texts.same old row)) slots
