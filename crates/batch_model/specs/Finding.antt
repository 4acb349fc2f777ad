-- Looking for rows, changing them, and choices in order.
-- Source: this project's own.
use Rattle.std.specs.Prelude.{◌≡◌, ℕ, ◌+◌, Bool, true, false, nat_eq, nat_le, List, [], ◌∷◌, map, ℤ, pos, negsuc, Option, Some, None, if◌then◌else◌}
use Rattle.std.specs.List.{list_all}
use Rattle.bt_base.specs.Ids.{same}
use Rattle.bt_rows.specs.declared.limits.TheConstants.{NUMBER_LIMIT}
-- the one of several rows that comes before the others
pub use Rattle.bt_rows.specs.Choice.{best}

module _ {R : Type 0} where
  -- every row passes the test
  abbrev pub Each : (R → Bool) → List R → Type 0
  Each test rows = list_all test rows ≡ true

  -- no rows
  abbrev pub is_empty : List R → Bool
  is_empty [] = true
  is_empty (row ∷ rows) = false

  -- the rows that pass the test, changed, and the others as they are
  abbrev pub change_where : (R → Bool) → (R → R) → List R → List R
  change_where test change rows = map (λ row. if test row then change row else row) rows

  -- the first that there is
  abbrev pub or_else : Option R → Option R → Option R
  or_else None other = other
  or_else (Some one) other = Some one

  -- the first of several that there is
  abbrev pub first_of : List (Option R) → Option R
  first_of [] = None
  first_of (one ∷ others) = or_else one (first_of others)

  -- the first item that there is of what the rows give
  abbrev pub find_map : {Q : Type 0} → (Q → Option R) → List Q → Option R
  find_map give rows = first_of (map give rows)

  -- a row changes a value; if there is none it stays
  abbrev pub at_row : {W : Type 0} → (R → W → W) → Option R → W → W
  at_row change None w = w
  at_row change (Some row) w = change row w

  -- a value under a condition
  abbrev pub only_if : Bool → Option R → Option R
  only_if true value = value
  only_if false value = None

-- the option holds this id
abbrev pub names : Option (List ℕ) → List ℕ → Bool
names None id = false
names (Some name) id = same name id

-- a moment and a duration after it are over; no limit never is
abbrev pub has_passed : ℕ → Option ℕ → ℕ → Bool
has_passed from None now = false
has_passed from (Some duration) now = nat_le (from + duration) now

-- n is at most the limit; -1 is no limit
abbrev pub is_within_limit : ℕ → ℤ → Bool
is_within_limit n (pos limit) = nat_le n limit
is_within_limit n (negsuc below) = nat_eq below 0

-- n is below the limit; -1 is no limit
abbrev pub is_below : ℕ → ℤ → Bool
is_below n limit = is_within_limit (n + 1) limit

-- the greatest number that a new node or run gets: 10^15
abbrev pub last_number : ℕ
last_number = NUMBER_LIMIT

-- nodes or runs can be made while their next number is not above the last one
abbrev pub has_number_left : ℕ → Bool
has_number_left next = nat_le next last_number
