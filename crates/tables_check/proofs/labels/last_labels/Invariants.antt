use Rattle.row_keys.specs.Numbers.{number_at}
use Rattle.tables_check.proofs.LabelSteps.{Follows}
use Rattle.tables_check.proofs.labels.last_labels.Given as goal

abbrev pub invariant-loop-sample : goal.invariant-loop-sample
invariant-loop-sample l = Follows (number_at l.labels) l.sample-iterator l.tables.state.samples
