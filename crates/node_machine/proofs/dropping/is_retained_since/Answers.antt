use Rattle.std.proofs.Common.{sym, ap, ◌∙◌, false}
use Rattle.std.specs.Option.{option_map_or}
use Rattle.node_machine.proofs.RetainedRuns.{retained_found, retains}
use Rattle.node_machine.proofs.dropping.is_retained_since.Goals as goal

pub returns-in-None : goal.returns-in-None
returns-in-None c =
    let s = c.args.tables.now.state in
    sym
    (retained_found s.moment c.args.run.now c.args.at s.tasks c.requires.tasks
    ∙ ap (λ found. option_map_or (retains s.moment c.args.at) found false) (sym c.in-None.ensures))

pub returns-in-Some : goal.returns-in-Some
returns-in-Some c =
    let s = c.args.tables.now.state in
    c.retains.ensures
    ∙ ap (λ moment. retains moment c.args.at c.in-Some.task.now) c.moment.ensures
    ∙ sym
    (retained_found s.moment c.args.run.now c.args.at s.tasks c.requires.tasks
    ∙ ap (λ found. option_map_or (retains s.moment c.args.at) found false) (sym c.in-Some.ensures))
