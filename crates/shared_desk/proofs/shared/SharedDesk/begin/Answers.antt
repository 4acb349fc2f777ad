use Rattle.std.proofs.Common.{ap, ◌∙◌}
use Rattle.shared_desk.proofs.Turning.{has_turn}
use Rattle.shared_desk.proofs.shared.SharedDesk.begin.Goals as goal

pub returns-clause-turn : goal.returns-clause-turn
returns-clause-turn g c = let b = c.begin-held.ensures in
    has_turn g.K.Keeper.told g.K.Keeper.faults c.args.self.now.origin c.args.pass c.begin-held.result.0 c.begin-held.result.1
    b.number b.seen b.placed b.opened b.journal (b.origin ∙ ap (λ l. l.origin) c.self.view_is) c.tables.ensures.in_order
