use Rattle.std.proofs.Common.{◌∙◌, ap}
use Rattle.batch_model.specs.Runs.{start_run}
use Rattle.node_machine.proofs.adding.first_run.Goals as goal

pub returns : goal.returns
returns c =
    c.in_ok-run.ensures ∙ (c.in_ok-start_run.ensures
    ∙ ap (λ at. start_run (record c.args.tables.now.state { moment = at }) c.args.node.now c.args.start.now) c.moment.ensures)
