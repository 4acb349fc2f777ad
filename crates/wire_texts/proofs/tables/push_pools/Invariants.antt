use Rattle.std.proofs.Common.{◌≡◌, ◌++◌, string_bytes}
use Rattle.std.specs.Prelude.{flat_map}
use Rattle.wire_texts.specs.Rows.{pool_line}
use Rattle.wire_texts.proofs.tables.push_pools.Given as goal

abbrev pub invariant-loop-pool : goal.invariant-loop-pool
invariant-loop-pool l = string_bytes l.out ++ flat_map pool_line l.pool-iterator ≡ string_bytes l.fn.out ++ flat_map pool_line l.tables.state.pools
