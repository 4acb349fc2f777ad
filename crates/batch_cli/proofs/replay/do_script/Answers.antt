use Rattle.std.proofs.Common.{subst}
use Rattle.byte_streams.specs.Content.{Gains, GainsFront}
use Rattle.wire_texts.specs.Tables.{tables_text}
use Rattle.batch_cli.proofs.Advancing.{at_err_anyway}
use Rattle.batch_cli.proofs.GoingOn.{going_ends, going_cut}
use Rattle.batch_cli.proofs.replay.do_script.Goals as goal

pub returns-in_err-finish-clause-err : goal.returns-in_err-finish-clause-err
returns-in_err-finish-clause-err g c =
    rw (← c.deref.ensures.value)
    (at_err_anyway _ (going_cut _ c.in_ok-tally.ensures.ok c.in_ok-tally.ensures.in_order.within
    (subst (λ s. GainsFront (g.W.Sink.taken c.do_lines.new.sink) (g.W.Sink.taken c.finish.new.sink) (tables_text s)) c.tables.ensures.state
    c.in_err-finish.ensures.err)))

pub returns-clause-ok : goal.returns-clause-ok
returns-clause-ok g c =
    rw (← c.deref.ensures.value)
    (going_ends _ c.in_ok-tally.ensures.ok (subst (λ s. Gains (g.W.Sink.taken c.do_lines.new.sink) (g.W.Sink.taken c.finish.new.sink) (tables_text s))
    c.tables.ensures.state c.in_ok-finish.ensures.ok))
