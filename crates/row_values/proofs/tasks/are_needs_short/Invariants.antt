use Rattle.std.proofs.Common.{◌≡◌, drop}
use Rattle.std.specs.Prelude.{nat_le}
use Rattle.batch_model.specs.Limits.{needs_limit}
use Rattle.batch_model.specs.WellFormed.{needs_length}
use Rattle.row_values.proofs.tasks.are_needs_short.Given as goal

-- the ids that are left are short enough exactly if all are
abbrev pub invariant-loop-need : goal.invariant-loop-need
invariant-loop-need l = nat_le (needs_length (drop l.need-index l.needs)) l.left ≡ nat_le (needs_length l.needs) needs_limit
