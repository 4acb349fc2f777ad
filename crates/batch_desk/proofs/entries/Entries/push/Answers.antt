use Rattle.std.proofs.Common.{rules}
use Rattle.batch_desk.proofs.Stored.{entries_pushed}
use Rattle.batch_desk.proofs.entries.Entries.push.Goals as goal

pub returns : goal.returns
returns c =
    rw (c.push_reserved.ensures.items, c.add_refusal.ensures.items, c.outcome_of.ensures, c.len-refusal.ensures, ← c.self.view_is)
    (entries_pushed c.self.inside.refusals.items c.self.inside.calls.items _ c.args.entry (search rules) c.self.invariant.0)
