use Rattle.std.proofs.Common.{◌≡◌}
use Rattle.pool_scaling.specs.Gathering.{with_rows}
use Rattle.pool_scaling.proofs.gathering.push_samples.Given as goal

-- the samples that are left make of the metrics what all make of those at the start
abbrev pub invariant-loop-sample : goal.invariant-loop-sample
invariant-loop-sample l = with_rows l.pool l.sample-iterator l.metrics ≡ with_rows l.pool l.tables.state.samples l.fn.metrics
