use Rattle.std.proofs.Common.{rules, refl, ap, sym, ◌≡◌, ◌∙◌, string_bytes, subst, Ok}
use Rattle.byte_streams.specs.Content.{Gains, GainsFront}
use Rattle.batch_cli.specs.CalendarAdvance.{KeepsDesk}
use Rattle.batch_cli.specs.Shown.{look_text, memory_stops}
use Rattle.batch_cli.proofs.Advancing.{at_err_anyway}
use Rattle.batch_cli.proofs.CalendarAdvancing.{halts_at, keeps_itself}
use Rattle.batch_cli.proofs.CalendarGoingOn.{advances_idle, did_idle, halts_at_once}
use Rattle.schedule_lines.specs.declared.line.CalLine.TheVariants.{Look}
use Rattle.batch_cli.proofs.calendar.do_look.Goals as goal

pub returns-in_err-text-clause-err : goal.returns-in_err-text-clause-err
returns-in_err-text-clause-err g c =
    at_err_anyway _ (halts_at_once g.K.Keeper.faults c.args.calendar.now c.show_read.new.calendar c.args.n (Ok (Look c.args.read.now))
    (g.W.Sink.taken c.args.sink.now) c.in_err-text.ensures.asker)

pub returns-in_err-text-clause-keeps : goal.returns-in_err-text-clause-keeps
returns-in_err-text-clause-keeps g c =
    subst (λ d. KeepsDesk g.K.Keeper.told g.K.Keeper.faults c.args.calendar.now.asker d) (sym c.in_err-text.ensures.asker)
    (keeps_itself g.K.Keeper.told g.K.Keeper.faults c.args.calendar.now.asker c.requires)

pub returns-in_err-write_all-clause-err : goal.returns-in_err-write_all-clause-err
returns-in_err-write_all-clause-err g c =
    let text : c.as_bytes.result.now ≡ string_bytes c.in_ok-text.text = search rules in
    at_err_anyway _ (halts_at _ _ (advances_idle g.K.Keeper.faults c.args.calendar.now c.show_read.new.calendar c.args.n (Ok (Look c.args.read.now))
    (look_text c.args.n c.args.calendar.now.asker.state c.args.read.now) c.in_ok-text.ensures.asker c.in_ok-text.ensures.rows c.in_ok-text.ensures.now
    (λ rest more. refl) (λ rest more. refl))
    (subst (GainsFront (g.W.Sink.taken c.args.sink.now) (g.W.Sink.taken c.write_all.new.sink)) (text ∙ c.in_ok-text.ensures.text)
    c.in_err-write_all.ensures.err))

pub returns-in_err-write_all-clause-settled : goal.returns-in_err-write_all-clause-settled
returns-in_err-write_all-clause-settled g c _ = ap (λ d. memory_stops d.entries) c.in_ok-text.ensures.asker

pub returns-in_err-write_all-clause-keeps : goal.returns-in_err-write_all-clause-keeps
returns-in_err-write_all-clause-keeps g c =
    subst (λ d. KeepsDesk g.K.Keeper.told g.K.Keeper.faults c.args.calendar.now.asker d) (sym c.in_ok-text.ensures.asker)
    (keeps_itself g.K.Keeper.told g.K.Keeper.faults c.args.calendar.now.asker c.requires)

pub returns-clause-ok : goal.returns-clause-ok
returns-clause-ok g c =
    let text : c.as_bytes.result.now ≡ string_bytes c.in_ok-text.text = search rules in
    did_idle g.K.Keeper.faults c.args.calendar.now c.show_read.new.calendar c.args.n (Ok (Look c.args.read.now))
    (look_text c.args.n c.args.calendar.now.asker.state c.args.read.now) _ _ _ c.in_ok-text.ensures.asker c.in_ok-text.ensures.rows c.in_ok-text.ensures.now
    (λ rest more. refl) (λ rest more. refl)
    (subst (Gains (g.W.Sink.taken c.args.sink.now) (g.W.Sink.taken c.write_all.new.sink)) (text ∙ c.in_ok-text.ensures.text) c.in_ok-write_all.ensures.ok)
    refl refl

pub returns-clause-keeps : goal.returns-clause-keeps
returns-clause-keeps g c =
    subst (λ d. KeepsDesk g.K.Keeper.told g.K.Keeper.faults c.args.calendar.now.asker d) (sym c.in_ok-text.ensures.asker)
    (keeps_itself g.K.Keeper.told g.K.Keeper.faults c.args.calendar.now.asker c.requires)
