use Rattle.std.proofs.Common.{◌∙◌, sym}
use Rattle.tables_check.proofs.Deciding.{well_formed_to, well_formed_from}
use Rattle.tables_check.proofs.check.well_formed.Goals as goal

pub returns-clause-yes : goal.returns-clause-yes
returns-clause-yes c = λ h. well_formed_from c.args.tables.now.state (sym c.in_ok-passes.ensures ∙ h)

pub returns-clause-no : goal.returns-clause-no
returns-clause-no c = λ h. c.in_ok-passes.ensures ∙ well_formed_to c.args.tables.now.state h
