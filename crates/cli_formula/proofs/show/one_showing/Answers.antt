use Rattle.cli_formula.proofs.OneShowing.{one_shown}
use Rattle.cli_formula.proofs.show.one_showing.Goals as goal

pub returns : goal.returns
returns c now nodes bytes one other first second =
    let clauses = c.one_answer.ensures in
    one_shown (record { not_both = clauses.not_both bytes; formula = clauses.one_formula bytes; fault = clauses.one_fault bytes }) first second
