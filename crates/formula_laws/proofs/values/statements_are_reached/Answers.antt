use Rattle.formula_laws.proofs.Reachings.{reached_on, reached_or_ended}
use Rattle.formula_laws.proofs.values.statements_are_reached.Goals as goal

pub returns-clause-goes_on : goal.returns-clause-goes_on
returns-clause-goes_on = λ _ text metrics now set end front rest reached. reached_on text metrics now set end front rest reached

pub returns-clause-reached_or_ended : goal.returns-clause-reached_or_ended
returns-clause-reached_or_ended = λ _ text metrics now set front. reached_or_ended text metrics now set front
