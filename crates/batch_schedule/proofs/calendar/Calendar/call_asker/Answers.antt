use Rattle.std.proofs.Common.{sym, refl, ◌∙◌}
use Rattle.batch_schedule.proofs.Following.{asked_stopped, asked_followed}
use Rattle.batch_schedule.proofs.calendar.Calendar.call_asker.Goals as goal

pub returns-then-is_stopped : goal.returns-then-is_stopped
returns-then-is_stopped g c =
    rw (← c.self.view_is, c.empty.ensures)
    (asked_stopped g.A.Ask.exchanged _ _ c.ask-answer.new.self c.args.now c.args.event c.ask-answer.result
    (sym c.is_stopped.ensures ∙ c.if-is_stopped.true) c.ask-answer.ensures refl)

pub returns : goal.returns
returns g c =
    asked_followed g.A.Ask.exchanged c.args.self.now c.run_turns-fires.new.self c.ask-answer.new.self c.args.now c.args.event c.ask-answer.result
    c.run_turns-fires.result.0 c.run_turns-fires.result.1 (sym c.is_stopped.ensures ∙ c.if-is_stopped.false)
    (rw (← c.self.view_is) c.ask-answer.ensures) (rw (← c.self.view_is) c.run_turns-fires.ensures)
