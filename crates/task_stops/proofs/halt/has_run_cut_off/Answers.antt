use Rattle.std.proofs.Common.{sym, ◌∙◌}
use Rattle.task_stops.proofs.HaltMade.{none_of_other}
use Rattle.task_stops.proofs.halt.has_run_cut_off.Goals as goal

pub returns-else-concerns_prep : goal.returns-else-concerns_prep
returns-else-concerns_prep c =
    c.if-concerns_prep.false ∙ sym (none_of_other c.args.which.now c.args.tables.now.state c.args.prep.now (sym c.concerns_prep.ensures ∙ c.if-concerns_prep.false))
