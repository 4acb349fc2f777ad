-- What contracts see of ranked groups: the list of their items, and the room.
use Rattle.std.specs.Prelude.{ℕ, zero, suc, Bool, ◌&&◌, List, [], ◌∷◌, nat_le, Option, Some, None, if◌then◌else◌}
use Rattle.std.specs.Option.{option_map}
use Rattle.std.specs.Str.{bytes_eq}

-- an item: the bytes of its group's name, and its rank
pub record Item : Type 0 where
  pub group : List ℕ
  pub rank : ℕ

-- the items in the order of adding, and how many more can be pushed without allocating
pub record GroupsView : Type 0 where
  pub items : List Item
  pub room : ℕ

-- the item is of the group
abbrev pub is_of : List ℕ → Item → Bool
is_of group item = bytes_eq item.group group

-- the number of the first item that is of the group and has a rank of at most the bound
abbrev pub first_of : List ℕ → ℕ → List Item → Option ℕ
first_of group bound [] = None
first_of group bound (item ∷ items) = if is_of group item && nat_le item.rank bound then Some 0 else option_map suc (first_of group bound items)

-- the items with another rank for one of them
abbrev pub set_rank : List Item → ℕ → ℕ → List Item
set_rank [] at rank = []
set_rank (item ∷ items) zero rank = record item { rank = rank } ∷ items
set_rank (item ∷ items) (suc at) rank = item ∷ set_rank items at rank
