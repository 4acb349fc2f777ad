use Rattle.std.proofs.Common.{◌≡◌, ℕ, ◌||◌, drop}
use Rattle.std.specs.List.{list_any}
use Rattle.slot_ledger.specs.Ledgers.{fits, is_within}
use Rattle.slot_ledger.proofs.ledger.most_free.Given as goal

-- what there is and what fits among the entries that are left is what fits among all
abbrev pub invariant-loop-entry : goal.invariant-loop-entry
invariant-loop-entry l = (need : ℕ) → (is_within need l.most || list_any (fits l.pool need) (drop l.entry-index l.entries)) ≡ list_any (fits l.pool need) l.entries
