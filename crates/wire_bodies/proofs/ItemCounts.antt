-- The number of items of a list.
use Rattle.std.proofs.Common.{◌≡◌, suc, List, [], ◌∷◌, length, refl, ap}
use Rattle.serde_json.specs.Events.{items_len}
use Rattle.serde_json.specs.View.{items_view}
use Rattle.serde_json.specs.declared.value.Value.{Value}

-- contracts see as many items as there are values
pub items_counted : (values : List Value) → items_len (items_view values) ≡ length values
items_counted [] = refl
items_counted (value ∷ values) = ap suc (items_counted values)
