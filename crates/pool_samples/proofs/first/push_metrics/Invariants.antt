use Rattle.std.proofs.Common.{◌≡◌, ◌++◌, drop}
use Rattle.pool_samples.specs.Changes.{all_added}
use Rattle.pool_samples.proofs.first.push_metrics.Given as goal

-- what there is and what the metrics that are left add give what all add
abbrev pub invariant-loop-metric : goal.invariant-loop-metric
invariant-loop-metric l =
    l.changes.items ++ all_added l.kept l.moment l.pool l.values (drop l.metric-index l.metrics)
    ≡ l.fn.changes.items ++ all_added l.kept l.moment l.pool l.values l.metrics
