-- Arrays of fields are plain: laws by which the parts of rows, and rows, show that they are.
use Rattle.std.proofs.Common.{◌≡◌, ◌≤◌, ℕ, suc, Bool, false, ◌||◌, List, [], ◌∷◌, Option, Some, None, refl, arith}
use Rattle.std.proofs.lemmas.Grind.{common_steps}
use Rattle.serde_json.specs.Data.{Data, null, array, Items, item, no_items, depth, items_depth}
use Rattle.serde_json.specs.Written.{has_float, items_have_float}
use Rattle.row_fields.specs.Fields.{IsPlain, option_data, list_data, items_data}

-- without a float, and nested at most this deep; it may be null
pub record IsItem (nesting : ℕ) (d : Data) : Type 0 where
  pub no_float : has_float d ≡ false
  pub nests : depth d ≤ nesting

-- all of them are such items
pub record AreItems (nesting : ℕ) (ds : Items) : Type 0 where
  pub no_float : items_have_float ds ≡ false
  pub nest : items_depth ds ≤ nesting

pub deeper : {n : ℕ} {d : Data} (nesting : ℕ) → IsPlain n d → n ≤ nesting → IsPlain nesting d
deeper nesting p h = let s = p.nests in record { not_null = p.not_null; no_float = p.no_float; nests = omega arith }

pub plain_item : {n : ℕ} {d : Data} (nesting : ℕ) → IsPlain n d → n ≤ nesting → IsItem nesting d
plain_item nesting p h = let s = p.nests in record { no_float = p.no_float; nests = omega arith }

null_item : (nesting : ℕ) → IsItem nesting null
null_item nesting = record { no_float = refl; nests = omega arith }

pub option_item : {A : Type 0} {n : ℕ} (data_of : A → Data) (nesting : ℕ) → ((a : A) → IsPlain n (data_of a)) → n ≤ nesting →
    (x : Option A) → IsItem nesting (option_data data_of x)
option_item data_of nesting p h None = null_item nesting
option_item data_of nesting p h (Some a) = plain_item nesting (p a) h

or_no : (a b : Bool) → a ≡ false → b ≡ false → (a || b) ≡ false
or_no a b p q = grind (arith, common_steps)

pub no_more : (nesting : ℕ) → AreItems nesting no_items
no_more nesting = record { no_float = refl; nest = omega arith }

pub and_items : {nesting : ℕ} {d : Data} {ds : Items} → IsItem nesting d → AreItems nesting ds → AreItems nesting (item d ds)
and_items p q =
    let a = p.nests in
    let b = q.nest in
    record { no_float = or_no _ _ p.no_float q.no_float; nest = omega arith }

list_items : {A : Type 0} {n : ℕ} (data_of : A → Data) (nesting : ℕ) → ((a : A) → IsPlain n (data_of a)) → n ≤ nesting →
    (list : List A) → AreItems nesting (items_data data_of list)
list_items data_of nesting p h [] = no_more nesting
list_items data_of nesting p h (x ∷ xs) = and_items (plain_item nesting (p x) h) (list_items data_of nesting p h xs)

array_item : {nesting : ℕ} {ds : Items} → AreItems nesting ds → IsItem (suc nesting) (array ds)
array_item p = let a = p.nest in record { no_float = p.no_float; nests = omega arith }

pub list_item : {A : Type 0} {n : ℕ} (data_of : A → Data) (nesting : ℕ) → ((a : A) → IsPlain n (data_of a)) → n ≤ nesting →
    (list : List A) → IsItem (suc nesting) (list_data data_of list)
list_item data_of nesting p h list = array_item (list_items data_of nesting p h list)

pub array_plain : {nesting : ℕ} {ds : Items} → AreItems nesting ds → IsPlain (suc nesting) (array ds)
array_plain p = let a = p.nest in record { not_null = refl; no_float = p.no_float; nests = omega arith }
