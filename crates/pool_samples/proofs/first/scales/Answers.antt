use Rattle.std.proofs.Common.{◌≡◌, ◌∙◌, find, is_some, rules}
use Rattle.bt_rows.specs.Keys.{scale_has_pool}
use Rattle.pool_samples.proofs.Lacking.{scale_found}
use Rattle.pool_samples.proofs.first.scales.Goals as goal

pub returns : goal.returns
returns c =
    let found : c.is_some.result ≡ is_some (find (scale_has_pool c.args.pool.now) c.args.tables.now.state.scales) = search rules in
    found ∙ scale_found c.args.pool.now c.args.tables.now.state.scales
