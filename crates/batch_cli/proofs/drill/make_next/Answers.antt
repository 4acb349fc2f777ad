use Rattle.std.proofs.Common.{◌≡◌, Some, rules}
use Rattle.batch_cli.specs.Drill.{asks}
use Rattle.batch_cli.proofs.Advancing.{at_err_anyway}
use Rattle.batch_cli.proofs.Drills.{step_stops}
use Rattle.batch_cli.proofs.drill.make_next.Goals as goal

pub returns-in_err-make_call-in-Some-clause-err : goal.returns-in_err-make_call-in-Some-clause-err
returns-in_err-make_call-in-Some-clause-err g c =
    let asked : asks c.args.stage c.args.desk.now.state ≡ Some (c.in-Some.call, c.in-Some.next) = search rules in
    at_err_anyway _ (step_stops asked c.in_err-make_call-in-Some.ensures.err)
