-- Fields as JSON: options, lists and the places of an array, whatever the type of the field.
use Rattle.std.specs.Prelude.{◌≡◌, ◌≤◌, ℕ, false, List, [], ◌∷◌, Option, Some, None, Result, Ok, Err, nat_eq, option_and_then, is_some, if◌then◌else◌}
use Rattle.serde_json.specs.Data.{Data, null, array, Items, no_items, item, depth}
use Rattle.serde_json.specs.Find.{at, as_null, as_array}
use Rattle.serde_json.specs.Events.{items_len}
use Rattle.serde_json.specs.Written.{has_float}
use Rattle.bt_base.specs.Fails.{◌>>=◌}
use Rattle.row_fields.specs.declared.fault.RowFault.{RowFault}
use Rattle.row_fields.specs.declared.fault.RowFault.TheVariants.{NotARow}

-- the value, or the one fault
abbrev pub or_not_a_row : {A : Type 0} → Option A → Result A RowFault
or_not_a_row (Some a) = Ok a
or_not_a_row None = Err NotARow

-- the JSON is not null, has no floats and nests at most this deep
pub record IsPlain (nesting : ℕ) (d : Data) : Type 0 where
  pub not_null : is_some (as_null d) ≡ false
  pub no_float : has_float d ≡ false
  pub nests : depth d ≤ nesting

-- ---- what is written

-- the items, and one more after them
abbrev pub with_item : Items → Data → Items
with_item no_items d = item d no_items
with_item (item first rest) d = item first (with_item rest d)

-- null if the value is absent
abbrev pub option_data : {A : Type 0} → (A → Data) → Option A → Data
option_data data_of None = null
option_data data_of (Some a) = data_of a

-- the items that the values of a list are
abbrev pub items_data : {A : Type 0} → (A → Data) → List A → Items
items_data data_of [] = no_items
items_data data_of (a ∷ list) = item (data_of a) (items_data data_of list)

-- a list is an array
abbrev pub list_data : {A : Type 0} → (A → Data) → List A → Data
list_data data_of list = array (items_data data_of list)

-- ---- what is read

-- nothing, if the JSON is an array of this number of values
abbrev pub require_length : ℕ → Data → Result Unit RowFault
require_length length d =
    or_not_a_row (option_and_then (λ ds. if nat_eq (items_len ds) length then Some tt else None) (as_array d))

-- the value at a place of an array
abbrev pub field_at : {A : Type 0} → (Data → Result A RowFault) → ℕ → Data → Result A RowFault
field_at in_data place d = or_not_a_row (at place d) >>= in_data

-- null is an absent value
abbrev pub option_in : {A : Type 0} → (Data → Result A RowFault) → Data → Result (Option A) RowFault
option_in in_data d = if is_some (as_null d) then Ok None else in_data d >>= λ a. Ok (Some a)

-- the value at a place of an array, if it is not null
abbrev pub option_at : {A : Type 0} → (Data → Result A RowFault) → ℕ → Data → Result (Option A) RowFault
option_at in_data place d = field_at (option_in in_data) place d

-- the values that items are
abbrev pub items_in : {A : Type 0} → (Data → Result A RowFault) → Items → Result (List A) RowFault
items_in in_data no_items = Ok []
items_in in_data (item d ds) = in_data d >>= λ first. items_in in_data ds >>= λ rest. Ok (first ∷ rest)

-- the values of an array
abbrev pub list_in : {A : Type 0} → (Data → Result A RowFault) → Data → Result (List A) RowFault
list_in in_data d = or_not_a_row (as_array d) >>= items_in in_data

-- the values of the array at a place of an array
abbrev pub list_at : {A : Type 0} → (Data → Result A RowFault) → ℕ → Data → Result (List A) RowFault
list_at in_data place d = field_at (list_in in_data) place d
