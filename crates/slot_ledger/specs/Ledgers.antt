-- What contracts see of a ledger: its nodes in the order of adding, each with its pool, its slots and how many are held.
use Rattle.std.specs.Prelude.{ℕ, ◌+◌, ◌-◌, Bool, false, not, ◌&&◌, nat_eq, nat_le, List, [], ◌∷◌, ◌++◌, filter, map, Option, if◌then◌else◌}
use Rattle.std.specs.Option.{option_map, option_map_or}
use Rattle.std.specs.List.{list_any}
use Rattle.bt_base.specs.Ids.{same}
use Rattle.bt_rows.specs.declared.pool.Fill.{Fill}
-- the one that comes before the others
pub use Rattle.bt_rows.specs.Choice.{best}
use Rattle.bt_rows.specs.Choice.{prefers}
-- an entry is a node of a pool, with its number of slots and the number of those that are held
pub use Rattle.slot_ledger.specs.declared.ledger.Entry.{Entry}

abbrev pub is_of : ℕ → Entry → Bool
is_of node entry = nat_eq entry.node node

-- the other entry is of the same node
abbrev pub same_node : Entry → Entry → Bool
same_node entry other = is_of entry.node other

-- the node has an entry
abbrev pub has_node : List Entry → ℕ → Bool
has_node entries node = list_any (is_of node) entries

-- the node has `n` slots free
abbrev pub has_free_slots : List Entry → ℕ → ℕ → Bool
has_free_slots entries node n = list_any (λ entry. is_of node entry && nat_le (entry.held + n) entry.slots) entries

-- at least `n` slots of the node are held
abbrev pub has_held_slots : List Entry → ℕ → ℕ → Bool
has_held_slots entries node n = list_any (λ entry. is_of node entry && nat_le n entry.held) entries

-- no slot of the node is held
abbrev pub is_unheld : List Entry → ℕ → Bool
is_unheld entries node = list_any (λ entry. is_of node entry && nat_eq entry.held 0) entries

-- the entry of the node, changed in its place
abbrev pub change_entry : ℕ → (Entry → Entry) → List Entry → List Entry
change_entry node change entries = map (λ entry. if is_of node entry then change entry else entry) entries

-- the ledger after each call

abbrev pub with_node : List Entry → ℕ → List ℕ → ℕ → List Entry
with_node entries number of_pool count = entries ++ record { node = number; pool = of_pool; slots = count; held = 0 } ∷ []

abbrev pub with_holder : List Entry → ℕ → List ℕ → ℕ → ℕ → List Entry
with_holder entries number of_pool count taken = entries ++ record { node = number; pool = of_pool; slots = count; held = taken } ∷ []

abbrev pub without_node : List Entry → ℕ → List Entry
without_node entries node = filter (λ entry. not (is_of node entry)) entries

abbrev pub holding : List Entry → ℕ → ℕ → List Entry
holding entries node n = change_entry node (λ entry. record entry { held = entry.held + n }) entries

abbrev pub giving : List Entry → ℕ → ℕ → List Entry
giving entries node n = change_entry node (λ entry. record entry { held = entry.held - n }) entries

-- the choice of a node

-- a node of the pool with `need` slots free
abbrev pub fits : List ℕ → ℕ → Entry → Bool
fits pool need entry = same entry.pool pool && nat_le (entry.held + need) entry.slots

-- the fill type prefers the node to the other, by the slots that are held on them and by their numbers
abbrev pub precedes : Fill → Entry → Entry → Bool
precedes fill entry other = prefers fill entry.held entry.node other.held other.node

-- the node of the pool on which `need` slots are to be held
abbrev pub chosen : List Entry → List ℕ → Fill → ℕ → Option ℕ
chosen entries pool fill need = option_map (λ (entry : Entry). entry.node) (best (precedes fill) (filter (fits pool need) entries))

-- no more slots are needed than this number, if there is one
abbrev pub is_within : ℕ → Option ℕ → Bool
is_within need most = option_map_or (nat_le need) most false
