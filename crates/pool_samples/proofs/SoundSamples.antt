-- Sound tables can be sampled.
use Rattle.std.proofs.Common.{ℕ, ◌≤◌, arith}
use Rattle.std.specs.Prelude.{length}
use Rattle.batch_model.specs.Sound.{IsSound}
use Rattle.batch_model.specs.Variants.{State}
use Rattle.pool_samples.specs.Conditions.{CanSample}
use Rattle.pool_samples.proofs.FewNodes.{few_nodes}

pub can_sample : (seats : ℕ) (s : State) → IsSound seats s → CanSample s
can_sample seats s sound = record {
  keys = sound.consistent.keys;
  rows = sound.limited.rows;
  counts = sound.limited.counts;
  pools = sound.limited.pools;
  nodes =
      let few : length s.nodes ≤ seats = few_nodes seats s.nodes sound.consistent.seated.distinct sound.consistent.seated.in_range in
      let limit = sound.consistent.seated.few in
      omega (arith, few, limit);
}
