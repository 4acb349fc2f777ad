use Rattle.std.proofs.Common.{◌≡◌, ◌∙◌, find, is_some, rules}
use Rattle.bt_rows.specs.Keys.{scale_has_pool}
use Rattle.pool_scaling.proofs.ScalePuts.{scales_by_row}
use Rattle.pool_scaling.proofs.requests.scales.Goals as goal

pub returns : goal.returns
returns c =
    let found : c.is_some.result ≡ is_some (find (scale_has_pool c.args.pool.now) c.args.tables.now.state.scales) = search rules in
    found ∙ scales_by_row c.args.tables.now.state c.args.pool.now
