use Rattle.formula_types.proofs.Rules.{by_rules, by_definition}
use Rattle.formula_types.proofs.typing.types_by_rules.Goals as goal

pub returns : goal.returns
returns c = λ text set tree found. (by_rules text set tree found, by_definition text set tree found)
