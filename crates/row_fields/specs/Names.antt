-- Enums as JSON: a variant is its name, or an array of its name and its value.
use Rattle.std.proofs.Common.{◌≡◌, ℕ, suc, false, ◌≤◌, List, [], ◌∷◌, Result, Ok, Err, refl, arith}
use Rattle.std.proofs.lemmas.Grind.{common_steps}
use Rattle.std.specs.Prelude.{if◌then◌else◌}
use Rattle.std.specs.List.{find}
use Rattle.std.specs.Str.{bytes_eq}
use Rattle.serde_json.specs.Data.{Data, string, array, depth}
use Rattle.serde_json.specs.View.{items_of}
use Rattle.serde_json.specs.Written.{has_float}
use Rattle.bt_base.specs.Fails.{◌>>=◌}
use Rattle.row_fields.specs.declared.fault.RowFault.{RowFault}
use Rattle.row_fields.specs.declared.fault.RowFault.TheVariants.{NotARow}
use Rattle.row_fields.specs.Fields.{IsPlain, or_not_a_row, require_length, field_at}
use Rattle.row_fields.specs.Texts.{text_in, text_plain}

-- the name of a variant
abbrev pub named_data : {A : Type 0} → (A → List ℕ) → A → Data
named_data name a = string (name a)

-- the first of these variants that has the name
unfoldable pub named_in : {A : Type 0} → (A → List ℕ) → List A → Data → Result A RowFault
named_in name variants d = text_in d >>= λ text. or_not_a_row (find (λ a. bytes_eq text (name a)) variants)

-- an array of the name of a variant and its value
abbrev pub payload_data : {A : Type 0} → (A → Data) → List ℕ → A → Data
payload_data data_of name a = array (items_of (string name ∷ data_of a ∷ []))

-- the value of the variant of this name
abbrev pub payload_in : {A : Type 0} → (Data → Result A RowFault) → List ℕ → Data → Result A RowFault
payload_in in_data name d =
    require_length 2 d >>= λ _. field_at text_in 0 d >>= λ text. if bytes_eq text name then field_at in_data 1 d else Err NotARow

-- the first reading that there is
abbrev pub or_else : {A : Type 0} → Result A RowFault → Result A RowFault → Result A RowFault
or_else (Ok a) second = Ok a
or_else (Err e) second = second

pub named_plain : {A : Type 0} (name : A → List ℕ) (a : A) → IsPlain 0 (named_data name a)
named_plain name a = text_plain (name a)

pub payload_plain : {A : Type 0} (data_of : A → Data) (nesting : ℕ) → ((a : A) → IsPlain nesting (data_of a)) →
    (name : List ℕ) (a : A) → IsPlain (suc nesting) (payload_data data_of name a)
payload_plain data_of nesting plain name a =
    let f : has_float (data_of a) ≡ false = (plain a).no_float in
    let n : depth (data_of a) ≤ nesting = (plain a).nests in
    record { not_null = refl; no_float = grind (arith, common_steps); nests = omega arith }
