use Rattle.std.proofs.Common.{refl}
use Rattle.shared_desk.proofs.Turning.{looks_at}
use Rattle.shared_desk.proofs.shared.SharedDesk.looked_at.Goals as goal

pub returns-clause-looks : goal.returns-clause-looks
returns-clause-looks g c =
    looks_at g.K.Keeper.told g.K.Keeper.faults c.args.self.now.origin c.args.pass c.begin-held.result.0 c.leave.result c.begin-held.result.1
    c.begin-held.result.1.state c.args.seat c.queued_at-shown.result c.begin-held.ensures.turn c.leave.ensures.number c.leave.ensures.seen refl
    c.queued_at-shown.ensures
