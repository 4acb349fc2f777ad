use Rattle.std.proofs.Common.{sym, ap, ◌∙◌}
use Rattle.std.specs.List.{find}
use Rattle.std.specs.Option.{option_and_then}
use Rattle.task_placing.specs.Fitting.{is_ready_within}
use Rattle.task_placing.proofs.Found.{fits_most}
use Rattle.task_placing.proofs.fitting.first_fitting.Goals as goal

pub returns-in-None : goal.returns-in-None
returns-in-None c =
    let s = c.args.indexed.now.state in
    ap (option_and_then (λ n. find (is_ready_within s c.args.job.now.id n) s.tasks)) (sym c.in-None.is)
    ∙ sym (fits_most s c.args.ledger.now c.args.job.now c.args.pool.now c.most_free.result c.most_free.ensures s.tasks)

pub returns-in-Some : goal.returns-in-Some
returns-in-Some c =
    let s = c.args.indexed.now.state in
    c.first_ready.ensures
    ∙ ap (option_and_then (λ n. find (is_ready_within s c.args.job.now.id n) s.tasks)) (sym c.in-Some.is)
    ∙ sym (fits_most s c.args.ledger.now c.args.job.now c.args.pool.now c.most_free.result c.most_free.ensures s.tasks)
