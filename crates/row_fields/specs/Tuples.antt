-- Tuples as JSON: each is an array of its parts.
use Rattle.std.proofs.Common.{◌≡◌, ◌≤◌, ℕ, suc, max, false, [], ◌∷◌, Result, Ok, refl, arith}
use Rattle.std.proofs.lemmas.Grind.{common_steps}
use Rattle.serde_json.specs.Data.{Data, array, depth}
use Rattle.serde_json.specs.View.{items_of}
use Rattle.serde_json.specs.Written.{has_float}
use Rattle.bt_base.specs.Fails.{◌>>=◌}
use Rattle.row_fields.specs.declared.fault.RowFault.{RowFault}
use Rattle.row_fields.specs.Fields.{IsPlain, require_length, field_at}

-- both parts
abbrev pub pair_data : {A B : Type 0} → (A → Data) → (B → Data) → A × B → Data
pair_data a_data b_data x = array (items_of (a_data x.0 ∷ b_data x.1 ∷ []))

abbrev pub pair_in : {A B : Type 0} → (Data → Result A RowFault) → (Data → Result B RowFault) → Data → Result (A × B) RowFault
pair_in a_in b_in d = require_length 2 d >>= λ _. field_at a_in 0 d >>= λ a. field_at b_in 1 d >>= λ b. Ok (a, b)

-- the three parts
abbrev pub triple_data : {A B C : Type 0} → (A → Data) → (B → Data) → (C → Data) → A × B × C → Data
triple_data a_data b_data c_data x = array (items_of (a_data x.0 ∷ b_data x.1 ∷ c_data x.2 ∷ []))

abbrev pub triple_in : {A B C : Type 0} → (Data → Result A RowFault) → (Data → Result B RowFault) → (Data → Result C RowFault) →
    Data → Result (A × B × C) RowFault
triple_in a_in b_in c_in d =
    require_length 3 d >>= λ _. field_at a_in 0 d >>= λ a. field_at b_in 1 d >>= λ b. field_at c_in 2 d >>= λ c. Ok (a, b, c)

pub pair_plain : {A B : Type 0} (a_data : A → Data) (b_data : B → Data) (a_nesting b_nesting : ℕ) →
    ((a : A) → IsPlain a_nesting (a_data a)) → ((b : B) → IsPlain b_nesting (b_data b)) →
    (x : A × B) → IsPlain (suc (max a_nesting b_nesting)) (pair_data a_data b_data x)
pair_plain a_data b_data a_nesting b_nesting p q x =
    let a_float : has_float (a_data x.0) ≡ false = (p x.0).no_float in
    let b_float : has_float (b_data x.1) ≡ false = (q x.1).no_float in
    let a_nests : depth (a_data x.0) ≤ a_nesting = (p x.0).nests in
    let b_nests : depth (b_data x.1) ≤ b_nesting = (q x.1).nests in
    record { not_null = refl; no_float = grind (arith, common_steps); nests = omega arith }

pub triple_plain : {A B C : Type 0} (a_data : A → Data) (b_data : B → Data) (c_data : C → Data)
    (a_nesting b_nesting c_nesting : ℕ) → ((a : A) → IsPlain a_nesting (a_data a)) → ((b : B) → IsPlain b_nesting (b_data b)) →
    ((c : C) → IsPlain c_nesting (c_data c)) →
    (x : A × B × C) → IsPlain (suc (max a_nesting (max b_nesting c_nesting))) (triple_data a_data b_data c_data x)
triple_plain a_data b_data c_data a_nesting b_nesting c_nesting p q r x =
    let a_float : has_float (a_data x.0) ≡ false = (p x.0).no_float in
    let b_float : has_float (b_data x.1) ≡ false = (q x.1).no_float in
    let c_float : has_float (c_data x.2) ≡ false = (r x.2).no_float in
    let a_nests : depth (a_data x.0) ≤ a_nesting = (p x.0).nests in
    let b_nests : depth (b_data x.1) ≤ b_nesting = (q x.1).nests in
    let c_nests : depth (c_data x.2) ≤ c_nesting = (r x.2).nests in
    record { not_null = refl; no_float = grind (arith, common_steps); nests = omega arith }
