-- The items of a list member.
use Rattle.std.specs.Prelude.{◌≡◌, true, Bool, List, [], ◌∷◌, ◌++◌, Result, Ok}
use Rattle.serde_json.specs.Data.{Data, Items, item, no_items}
use Rattle.bt_base.specs.Fails.{◌>>=◌}
use Rattle.bt_rows.specs.declared.refusal.Refusal.{Refusal}

-- each item in order, as it is read, up to the first fault
abbrev pub items_in : {T : Type 0} → (Data → Result T Refusal) → Items → Result (List T) Refusal
items_in read no_items = Ok []
items_in read (item d ds) = read d >>= λ first. items_in read ds >>= λ rest. Ok (first ∷ rest)

-- an item was read, is in its range, and was added to those before it
pub record IsAdded {T : Type 0} (told : Result T Refusal) (in_range : T → Bool) (old new : List T) : Type 0 where
  pub last : T
  pub read : told ≡ Ok last
  pub kept : in_range last ≡ true
  pub items : new ≡ old ++ last ∷ []
