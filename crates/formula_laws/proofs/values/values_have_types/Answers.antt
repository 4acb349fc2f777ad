use Rattle.formula_laws.proofs.Expressions.{kept}
use Rattle.formula_laws.proofs.Formulas.{statements_kept, setting_kept}
use Rattle.formula_laws.proofs.Operands.{all_operands_kept}
use Rattle.formula_laws.proofs.values.values_have_types.Goals as goal

pub returns-clause-expressions : goal.returns-clause-expressions
returns-clause-expressions = λ _ text metrics now set variables tree known found agree e h. kept text metrics now set variables agree tree known found e h

pub returns-clause-operands : goal.returns-clause-operands
returns-clause-operands = λ _ text metrics now set variables tree found agree h. all_operands_kept text metrics now set variables agree tree found h

pub returns-clause-settings : goal.returns-clause-settings
returns-clause-settings = λ _ text metrics now set variables after span tree known setting agree e h is.
    setting_kept text metrics now set variables after span tree known setting agree e h is

pub returns-clause-statements : goal.returns-clause-statements
returns-clause-statements = λ _ text metrics now start set variables front rest formula done e.
    statements_kept text metrics now start set variables front rest formula done e
