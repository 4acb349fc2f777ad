use Rattle.shared_desk.proofs.Turning.{looks}
use Rattle.shared_desk.proofs.shared.SharedDesk.looked.Goals as goal

pub returns-clause-looks : goal.returns-clause-looks
returns-clause-looks g c =
    looks g.K.Keeper.told g.K.Keeper.faults c.args.self.now.origin c.args.pass c.begin-held.result.0 c.leave.result c.begin-held.result.1
    c.tables.result.now.state c.args.read.now c.read_reply-shown.result c.begin-held.ensures.turn c.leave.ensures.number c.leave.ensures.seen c.tables.ensures.state
    c.read_reply-shown.ensures
