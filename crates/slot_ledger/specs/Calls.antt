-- Lists of calls of a ledger: which are legal, and how many slots they leave held.
use Rattle.std.specs.Prelude.{◌≡◌, ℕ, ◌+◌, ◌-◌, ◌≤◌, Bool, true, not, nat_eq, List, [], ◌∷◌, if◌then◌else◌}
use Rattle.slot_ledger.specs.Ledgers.{Entry, has_node, has_free_slots, has_held_slots, is_unheld, with_node, without_node, holding, giving}

-- a call that changes a ledger
pub data Call : Type 0 where
  AddNode : (node : ℕ) (pool : List ℕ) (slots : ℕ) → Call
  RemoveNode : (node : ℕ) → Call
  Hold : (node slots : ℕ) → Call
  Give : (node slots : ℕ) → Call

-- the ledger after the call
abbrev pub after_call : Call → List Entry → List Entry
after_call (AddNode node pool slots) entries = with_node entries node pool slots
after_call (RemoveNode node) entries = without_node entries node
after_call (Hold node n) entries = holding entries node n
after_call (Give node n) entries = giving entries node n

-- the call may be made
abbrev pub may_call : Call → List Entry → Bool
may_call (AddNode node pool slots) entries = not (has_node entries node)
may_call (RemoveNode node) entries = is_unheld entries node
may_call (Hold node n) entries = has_free_slots entries node n
may_call (Give node n) entries = has_held_slots entries node n

-- the ledger after calls, the last of which stands first
abbrev pub after_calls : List Call → List Entry
after_calls [] = []
after_calls (call ∷ earlier) = after_call call (after_calls earlier)

-- each call may be made after those before it
abbrev pub AreLegal : List Call → Type 0
AreLegal [] = Unit {0}
AreLegal (call ∷ earlier) = (may_call call (after_calls earlier) ≡ true) × AreLegal earlier

-- the slots that `hold` took on the node since it was added, and those that `give` freed
abbrev pub held_by : List Call → ℕ → ℕ
held_by [] node = 0
held_by (AddNode added pool slots ∷ earlier) node = if nat_eq added node then 0 else held_by earlier node
held_by (RemoveNode removed ∷ earlier) node = if nat_eq removed node then 0 else held_by earlier node
held_by (Hold on n ∷ earlier) node = if nat_eq on node then held_by earlier node + n else held_by earlier node
held_by (Give on n ∷ earlier) node = held_by earlier node

abbrev pub given_by : List Call → ℕ → ℕ
given_by [] node = 0
given_by (AddNode added pool slots ∷ earlier) node = if nat_eq added node then 0 else given_by earlier node
given_by (RemoveNode removed ∷ earlier) node = if nat_eq removed node then 0 else given_by earlier node
given_by (Hold on n ∷ earlier) node = given_by earlier node
given_by (Give on n ∷ earlier) node = if nat_eq on node then given_by earlier node + n else given_by earlier node

-- the entry holds what was taken and not freed since its node was added, and no more than its slots
pub record HoldsItsSum (calls : List Call) (entry : Entry) : Type 0 where
  pub held : entry.held ≡ held_by calls entry.node - given_by calls entry.node
  pub given : given_by calls entry.node ≤ held_by calls entry.node
  pub slots : entry.held ≤ entry.slots
