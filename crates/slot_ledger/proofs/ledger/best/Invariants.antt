use Rattle.std.proofs.Common.{◌≡◌, filter, reverse, map}
use Rattle.std.specs.Option.{option_copied}
use Rattle.slot_ledger.specs.Ledgers.{fits, precedes, best}
use Rattle.slot_ledger.proofs.ledger.best.Given as goal

-- the best so far is that of the entries from the end on
abbrev pub invariant-loop-entry : goal.invariant-loop-entry
invariant-loop-entry l = option_copied l.best ≡ best (precedes l.fill) (filter (fits l.pool l.need) (reverse (map (λ one. one.now) l.yielded)))
