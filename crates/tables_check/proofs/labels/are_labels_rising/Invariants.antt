use Rattle.row_keys.specs.Numbers.{number_at}
use Rattle.tables_check.proofs.LabelSteps.{Splits}
use Rattle.tables_check.proofs.labels.are_labels_rising.Given as goal

abbrev pub invariant-loop-sample : goal.invariant-loop-sample
invariant-loop-sample l = Splits l.rising (number_at l.labels) l.sample-iterator l.tables.state.samples
