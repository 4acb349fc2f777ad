use Rattle.std.proofs.Common.{sym, subst}
use Rattle.bt_rows.specs.Lists.{AreDistinct}
use Rattle.slot_ledger.specs.Ledgers.{same_node}
use Rattle.slot_ledger.proofs.Entries.{distinct_added}
use Rattle.slot_ledger.proofs.ledger.Ledger.add_holding.Goals as goal

pub invariant_of-self-2 : goal.invariant_of-self-2
invariant_of-self-2 c =
    subst (AreDistinct same_node) (sym c.in_ok-push.ensures.items)
    (distinct_added c.self.inside.entries.items c.args.self.now (record { node = c.args.node; pool = c.in_ok-pool.pool; slots = c.args.slots; held = c.args.held }) c.self.view_is c.self.invariant c.requires.new)
