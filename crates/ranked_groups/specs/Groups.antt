-- How the items are kept: a list of group names, for each of them the ranks and the places of its items, and for each item its group and
-- its number within the group.
use Rattle.std.specs.Prelude.{◌≡◌, ℕ, zero, suc, ◌+◌, ◌<◌, ◌≤◌, List, [], ◌∷◌, length, map, get_or, nat_le, Option, Some, None, if◌then◌else◌}
use Rattle.std.specs.Prelude.{Vec, vec_len, vec_capacity}
use Rattle.std.specs.Option.{option_map}
use Rattle.std.specs.List.{All}
use Rattle.std.specs.Str.{bytes_eq}
use Rattle.ranked_groups.specs.declared.entry.Entry.{Entry}
use Rattle.ranked_groups.specs.Items.{Item, is_of}

-- a group's items: their ranks, their numbers in the list of all items, and how many more can be pushed without allocating
pub record GroupView : Type 0 where
  pub ranks : List ℕ
  pub places : List ℕ
  pub room : ℕ

-- the names by their numbers, and how many more can be pushed without allocating
pub record NamesView : Type 0 where
  pub names : List (List ℕ)
  pub room : ℕ

-- the ranks of the group's items
abbrev pub ranks_of : List ℕ → List Item → List ℕ
ranks_of group [] = []
ranks_of group (item ∷ items) = if is_of group item then item.rank ∷ ranks_of group items else ranks_of group items

-- the numbers of the group's items, where the first item has this number
abbrev pub places_from : List ℕ → ℕ → List Item → List ℕ
places_from group number [] = []
places_from group number (item ∷ items) =
    if is_of group item then number ∷ places_from group (suc number) items else places_from group (suc number) items

-- how many of the items before this place are the group's
abbrev pub count_before : List ℕ → List Item → ℕ → ℕ
count_before group [] at = 0
count_before group (item ∷ items) zero = 0
count_before group (item ∷ items) (suc at) = if is_of group item then suc (count_before group items at) else count_before group items at

-- the place beside the first rank that is at most the bound
abbrev pub place_within : ℕ → List ℕ → List ℕ → Option ℕ
place_within bound [] places = None
place_within bound (rank ∷ ranks) [] = None
place_within bound (rank ∷ ranks) (place ∷ places) = if nat_le rank bound then Some place else place_within bound ranks places

-- the number of the first of the names that has these bytes
abbrev pub number_in : List ℕ → List (List ℕ) → Option ℕ
number_in name [] = None
number_in name (old ∷ names) = if bytes_eq old name then Some 0 else option_map suc (number_in name names)

-- an entry beside the rank of its item
pub record RankedEntry : Type 0 where
  pub group : ℕ
  pub at : ℕ
  pub rank : ℕ

-- what an entry says of its item
abbrev pub item_of : List (List ℕ) → RankedEntry → Item
item_of names entry = record { group = get_or names entry.group []; rank = entry.rank }

abbrev pub items_of : List (List ℕ) → List RankedEntry → List Item
items_of names entries = map (item_of names) entries

-- no items
abbrev pub no_group : GroupView
no_group = record { ranks = []; places = []; room = 0 }

-- the rank of an entry's item is the one at the entry's number in its group
abbrev pub with_rank : List GroupView → Entry → RankedEntry
with_rank groups entry = record { group = entry.group; at = entry.at; rank = get_or (get_or groups entry.group no_group).ranks entry.at 0 }

abbrev pub with_ranks : List GroupView → List Entry → List RankedEntry
with_ranks groups entries = map (with_rank groups) entries

-- the group has the ranks and the places of the items with its name
pub record IsGroup (name : List ℕ) (items : List Item) (group : GroupView) : Type 0 where
  pub ranks : group.ranks ≡ ranks_of name items
  pub places : group.places ≡ places_from name 0 items

abbrev pub no_entry : RankedEntry
no_entry = record { group = 0; at = 0; rank = 0 }

-- the entry of the item at this place has its group's number, and its number within the group
pub record IsHome (names : List (List ℕ)) (items : List Item) (place : ℕ) (entry : RankedEntry) : Type 0 where
  pub number : number_in (get_or names entry.group []) names ≡ Some entry.group
  pub at : entry.at ≡ count_before (get_or names entry.group []) items place

-- the groups are those of the items
pub record IsGrouped (names : List (List ℕ)) (groups : List GroupView) (entries : List RankedEntry) : Type 0 where
  pub count : length groups ≡ length names
  pub each : (name : List ℕ) (number : ℕ) → number_in name names ≡ Some number → IsGroup name (items_of names entries) (get_or groups number no_group)
  pub absent : (name : List ℕ) → number_in name names ≡ None → IsGroup name (items_of names entries) no_group
  pub homes : (place : ℕ) → place < length entries → IsHome names (items_of names entries) place (get_or entries place no_entry)

-- with more names and groups the entries have the same items
pub record AreKept (names : List (List ℕ)) (groups : List GroupView) (more_names : List (List ℕ)) (more_groups : List GroupView) : Type 0 where
  pub grouped : (entries : List Entry)
      → IsGrouped names groups (with_ranks groups entries) → IsGrouped more_names more_groups (with_ranks more_groups entries)
  pub items : (entries : List Entry)
      → IsGrouped names groups (with_ranks groups entries)
      → items_of more_names (with_ranks more_groups entries) ≡ items_of names (with_ranks groups entries)

-- the group has no items
pub record IsEmpty (group : GroupView) : Type 0 where
  pub ranks : group.ranks ≡ []
  pub places : group.places ≡ []

-- that many more items can be pushed to the group without allocating
abbrev pub Takes : ℕ → GroupView → Type 0
Takes room group = room ≤ group.room

-- the same groups, but perhaps with other room
pub record AreSame (old new : List GroupView) : Type 0 where
  pub length : length new ≡ length old
  pub ranks : (number : ℕ) → (get_or new number no_group).ranks ≡ (get_or old number no_group).ranks
  pub places : (number : ℕ) → (get_or new number no_group).places ≡ (get_or old number no_group).places

-- `room` more items can be pushed without allocating, to whatever groups; a place and the number of a group fit into 32 bits
pub record HasRoom {Y Z W : Type 0} (names : NamesView) (groups : Vec GroupView Y) (spares : Vec GroupView Z) (entries : Vec Entry W) (room : ℕ) : Type 0 where
  pub name_room : room ≤ names.room
  pub group_room : vec_len groups + room ≤ vec_capacity groups
  pub each : All (Takes room) groups.items
  pub spare_count : room ≤ vec_len spares
  pub empty : All IsEmpty spares.items
  pub wide : All (Takes room) spares.items
  pub entry_room : vec_len entries + room ≤ vec_capacity entries
  pub few : vec_len entries + room ≤ 4294967295
  pub few_groups : vec_len groups ≤ vec_len entries
