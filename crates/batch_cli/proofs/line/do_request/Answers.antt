use Rattle.std.proofs.Common.{Ok, sym, subst}
use Rattle.batch_cli.specs.Advance.{Halts}
use Rattle.batch_cli.proofs.Advancing.{did_skip, did_look, cut_look, at_err_anyway}
use Rattle.batch_cli.proofs.line.do_request.Goals as goal

pub returns-in-Skip-clause-ok : goal.returns-in-Skip-clause-ok
returns-in-Skip-clause-ok g c = rw c.in-Skip.is (did_skip g.K.Keeper.faults c.args.desk.now c.args.n (g.W.Sink.taken c.args.sink.now))

pub returns-in_ok-do_look-in-Look-clause-ok : goal.returns-in_ok-do_look-in-Look-clause-ok
returns-in_ok-do_look-in-Look-clause-ok g c =
    rw c.in-Look.is (did_look g.K.Keeper.faults c.args.desk.now c.args.n c.in-Look.read _ _ c.in_ok-do_look-in-Look.ensures.ok)

pub returns-in_err-do_look-in-Look-clause-err : goal.returns-in_err-do_look-in-Look-clause-err
returns-in_err-do_look-in-Look-clause-err g c =
    at_err_anyway _
    (subst (λ request. Halts g.K.Keeper.faults c.args.desk.now c.args.desk.now c.args.n (Ok request) (g.W.Sink.taken c.args.sink.now)
    (g.W.Sink.taken c.do_look.new.sink)) (sym c.in-Look.is)
    (cut_look g.K.Keeper.faults c.args.desk.now c.args.n c.in-Look.read _ _ c.in_err-do_look-in-Look.ensures.err))
