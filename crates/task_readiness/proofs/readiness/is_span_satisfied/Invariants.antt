use Rattle.std.proofs.Common.{◌≡◌, ◌-◌}
use Rattle.std.specs.List.{list_all, range_with_len}
use Rattle.batch_model.specs.Readiness.{is_number_satisfied, is_span_satisfied}
use Rattle.task_readiness.proofs.readiness.is_span_satisfied.Given as goal

-- the range is satisfied if the numbers before this one are
abbrev pub invariant-loop-number : goal.invariant-loop-number
invariant-loop-number l =
    is_span_satisfied l.indexed.state l.job (l.first, l.last)
    ≡ list_all (is_number_satisfied l.indexed.state l.job) (range_with_len l.first (l.number - l.first))
