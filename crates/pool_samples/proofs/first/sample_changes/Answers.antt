use Rattle.pool_samples.proofs.SampledPool.{pool_sampled}
use Rattle.pool_samples.proofs.first.sample_changes.Goals as goal

pub returns : goal.returns
returns c =
    let s = c.args.indexed.now.state in
    let pool = c.args.pool.now in
    let kept = c.kept_samples-kept.result in
    let h = c.in_ok-push_metrics.ensures in
    let made = pool_sampled s pool c.requires.able c.requires.lacks kept (rw c.tables-tables.ensures at c.kept_samples-kept.ensures) in
    rw (h, c.new-changes.ensures.items, c.moment.ensures, c.tables-tables.ensures, c.pool_metrics-values.ensures) made
