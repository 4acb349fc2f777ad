use Rattle.std.proofs.Common.{sym, ap, ◌∙◌, false}
use Rattle.std.specs.Option.{option_map_or}
use Rattle.task_stops.specs.StopChanges.{is_among, stopped_test}
use Rattle.task_stops.proofs.RunOfStopped.{stopped_found}
use Rattle.task_stops.proofs.stop.is_named_stopped.Goals as goal

pub returns-in-None : goal.returns-in-None
returns-in-None c =
    let test = is_among c.args.tables.now.state c.args.which.now in
    sym (stopped_found test c.args.tables.now.state c.args.run.now c.args.of_job.now c.args.id.now c.requires.job c.requires.task c.requires.keys.tasks
    ∙ ap (λ found. option_map_or (stopped_test test c.args.run.now) found false) (sym c.in-None.ensures))

pub returns-in-Some : goal.returns-in-Some
returns-in-Some c =
    let test = is_among c.args.tables.now.state c.args.which.now in
    c.is_stopped_with.ensures
    ∙ sym (stopped_found test c.args.tables.now.state c.args.run.now c.args.of_job.now c.args.id.now c.requires.job c.requires.task c.requires.keys.tasks
    ∙ ap (λ found. option_map_or (stopped_test test c.args.run.now) found false) (sym c.in-Some.ensures))
