-- Lists of places that have all rows that count.
use Rattle.std.specs.Prelude.{◌≡◌, ℕ, ◌<◌, Bool, true, nat_eq, List, sum_by, Option, Some, None}
use Rattle.std.specs.List.{Contains, IsDistinct, list_any}
use Rattle.kept_table.specs.Slots.{slot_at, rows, holds}

module _ {R : Type 0} where
  -- the value of the row, or 0 if there is no row
  abbrev pub value_of : (R → ℕ) → Option R → ℕ
  value_of f None = 0
  value_of f (Some row) = f row

  -- each row with a value above 0 is at one of the places
  abbrev pub HasValues : (R → ℕ) → List (Option R) → List ℕ → Type 0
  HasValues f slots places = (place : ℕ) (row : R) → slot_at slots place ≡ Some row → 0 < f row → Contains places place

  -- each row that passes the test is at one of the places
  abbrev pub HasPassing : (R → Bool) → List (Option R) → List ℕ → Type 0
  HasPassing test slots places = (place : ℕ) (row : R) → slot_at slots place ≡ Some row → test row ≡ true → Contains places place

-- for any values, tests and slots: different places with all rows above 0 have the sum of all rows, and places with all rows that pass have
-- such a row exactly if there is one
pub record AreCovered (R : Type 0) : Type 0 where
  pub sums : (f : R → ℕ) (slots : List (Option R)) (places : List ℕ) → IsDistinct nat_eq places → HasValues f slots places
      → sum_by (λ place. value_of f (slot_at slots place)) places ≡ sum_by f (rows slots)
  pub any : (test : R → Bool) (slots : List (Option R)) (places : List ℕ) → HasPassing test slots places
      → list_any (λ place. holds test (slot_at slots place)) places ≡ list_any test (rows slots)
