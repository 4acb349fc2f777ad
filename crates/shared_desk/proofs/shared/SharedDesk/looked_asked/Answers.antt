use Rattle.std.proofs.Common.{refl}
use Rattle.shared_desk.proofs.Turning.{looks_asked}
use Rattle.shared_desk.proofs.shared.SharedDesk.looked_asked.Goals as goal

pub returns-clause-looks : goal.returns-clause-looks
returns-clause-looks g c =
    looks_asked g.K.Keeper.told g.K.Keeper.faults c.args.self.now.origin c.args.pass c.begin-held.result.0 c.leave.result c.begin-held.result.1
    c.begin-held.result.1.state c.asked_runs-shown.result c.begin-held.ensures.turn c.leave.ensures.number c.leave.ensures.seen refl
    c.asked_runs-shown.ensures
