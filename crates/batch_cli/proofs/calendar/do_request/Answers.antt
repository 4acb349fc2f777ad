use Rattle.std.proofs.Common.{refl, Ok, []}
use Rattle.byte_streams.proofs.Gaining.{gains_nothing}
use Rattle.batch_cli.proofs.CalendarAdvancing.{keeps_itself}
use Rattle.batch_cli.proofs.CalendarGoingOn.{did_idle}
use Rattle.schedule_lines.specs.declared.line.CalLine.TheVariants.{Skip}
use Rattle.batch_cli.proofs.calendar.do_request.Goals as goal

pub returns-in-Skip-clause-ok : goal.returns-in-Skip-clause-ok
returns-in-Skip-clause-ok g c =
    rw c.in-Skip.is (did_idle g.K.Keeper.faults c.args.calendar.now c.args.calendar.now c.args.n (Ok Skip) [] _ _ _ refl refl refl (λ rest more. refl)
    (λ rest more. refl) (gains_nothing (g.W.Sink.taken c.args.sink.now)) refl refl)

pub returns-in-Skip-clause-keeps : goal.returns-in-Skip-clause-keeps
returns-in-Skip-clause-keeps g c = keeps_itself g.K.Keeper.told g.K.Keeper.faults c.args.calendar.now.asker c.requires
