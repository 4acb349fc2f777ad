use Rattle.std.proofs.Common.{◌&&◌, not, sym}
use Rattle.batch_model.specs.Scaling.{is_to_sample, lacks_sample}
use Rattle.batch_model.specs.WellFormed.{scales}
use Rattle.model_lists.proofs.RowLists.{find_test}
use Rattle.model_lists.proofs.Tests.{and_second}
use Rattle.pool_samples.proofs.first.sample_first.Goals as goal

pub pool_sampled-requires-clause-lacks : goal.pool_sampled-requires-clause-lacks
pool_sampled-requires-clause-lacks c =
    let s = c.args.indexed.now.state in
    let pool = c.in-Some.pool.now in
    and_second (scales s pool.id) (lacks_sample s pool)
    (and_second (not pool.deleting) (scales s pool.id && lacks_sample s pool)
    (find_test (is_to_sample s) pool s.pools (sym (rw c.tables.ensures at c.in-Some.ensures))))
