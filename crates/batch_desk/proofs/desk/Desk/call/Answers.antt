use Rattle.batch_desk.proofs.Entering.{in_order_within}
use Rattle.batch_desk.proofs.desk.Desk.call.Goals as goal

pub invariant_of-self : goal.invariant_of-self
invariant_of-self g c =
    in_order_within g.K.Keeper.told g.K.Keeper.faults _ c.call_within.new.saved c.call_within.new.entries.items c.args.moment c.with_shared_job_id-event.result
    c.call_within.result c.know_ranges.ensures c.self.invariant c.call_within.ensures.seats c.call_within.ensures.kept c.call_within.ensures.later
    c.call_within.ensures.called

pub returns-clause-in_order : goal.returns-clause-in_order
returns-clause-in_order g c =
    in_order_within g.K.Keeper.told g.K.Keeper.faults _ c.call_within.new.saved c.call_within.new.entries.items c.args.moment c.with_shared_job_id-event.result
    c.call_within.result c.know_ranges.ensures c.self.invariant c.call_within.ensures.seats c.call_within.ensures.kept c.call_within.ensures.later
    c.call_within.ensures.called

pub returns-clause-laws : goal.returns-clause-laws
returns-clause-laws g c =
    (in_order_within g.K.Keeper.told g.K.Keeper.faults _ c.call_within.new.saved c.call_within.new.entries.items c.args.moment c.with_shared_job_id-event.result
    c.call_within.result c.know_ranges.ensures c.self.invariant c.call_within.ensures.seats c.call_within.ensures.kept c.call_within.ensures.later
    c.call_within.ensures.called).laws
