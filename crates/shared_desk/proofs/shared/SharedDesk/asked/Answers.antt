use Rattle.std.proofs.Common.{sym, subst}
use Rattle.batch_desk.specs.Answers.{AnswersCall}
use Rattle.shared_desk.specs.Sharing.{Asked}
use Rattle.shared_desk.proofs.Turning.{extends, journal_after}
use Rattle.shared_desk.proofs.shared.SharedDesk.asked.Goals as goal

pub enter-requires-clause-entry : goal.enter-requires-clause-entry
enter-requires-clause-entry g c =
    let old = c.begin-held.result.1 in let new = c.call-answer.new.self in
    let called = subst (λ a. AnswersCall g.K.Keeper.faults old new c.args.moment c.args.event a) c.in-Done.is c.call-answer.ensures.answers in (
      _,
      journal_after g.K.Keeper.told g.K.Keeper.faults c.args.self.now.origin c.args.pass c.begin-held.result.0 old new _ _
          c.begin-held.ensures.turn called.0,
    )

pub enter-requires-in-KeeperFault-clause-entry : goal.enter-requires-in-KeeperFault-clause-entry
enter-requires-in-KeeperFault-clause-entry g c =
    let old = c.begin-held.result.1 in let new = c.call-answer.new.self in
    let called = subst (λ a. AnswersCall g.K.Keeper.faults old new c.args.moment c.args.event a) c.in-KeeperFault.is c.call-answer.ensures.answers in (
      _,
      journal_after g.K.Keeper.told g.K.Keeper.faults c.args.self.now.origin c.args.pass c.begin-held.result.0 old new _ _
          c.begin-held.ensures.turn called.0,
    )

pub returns-in-Done-clause-asked : goal.returns-in-Done-clause-asked
returns-in-Done-clause-asked g c =
    let o = c.args.self.now.origin in let old = c.begin-held.result.1 in let new = c.call-answer.new.self in
    let called = subst (λ a. AnswersCall g.K.Keeper.faults old new c.args.moment c.args.event a) c.in-Done.is c.call-answer.ensures.answers in
    subst (λ a. Asked o c.args.pass c.enter.result c.args.moment c.args.event a) (sym c.in-Done.is)
    (extends g.K.Keeper.told g.K.Keeper.faults o c.args.pass c.begin-held.result.0 c.enter.result old new _ _
    c.begin-held.ensures.turn called.0 c.call-answer.ensures.same c.call-answer.ensures.in_order c.enter.ensures.number c.enter.ensures.seen)

pub returns-in-KeeperFault-clause-asked : goal.returns-in-KeeperFault-clause-asked
returns-in-KeeperFault-clause-asked g c =
    let o = c.args.self.now.origin in let old = c.begin-held.result.1 in let new = c.call-answer.new.self in
    let called = subst (λ a. AnswersCall g.K.Keeper.faults old new c.args.moment c.args.event a) c.in-KeeperFault.is c.call-answer.ensures.answers in
    subst (λ a. Asked o c.args.pass c.enter-in-KeeperFault.result c.args.moment c.args.event a) (sym c.in-KeeperFault.is)
    (extends g.K.Keeper.told g.K.Keeper.faults o c.args.pass c.begin-held.result.0 c.enter-in-KeeperFault.result old new _ _
    c.begin-held.ensures.turn called.0 c.call-answer.ensures.same c.call-answer.ensures.in_order c.enter-in-KeeperFault.ensures.number c.enter-in-KeeperFault.ensures.seen)
