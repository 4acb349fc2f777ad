use Rattle.std.proofs.Common.{Some, sym, ◌∙◌}
use Rattle.row_keys.specs.Passes.{share_key}
use Rattle.row_keys.proofs.SeenKeys.{distinct_alike}
use Rattle.row_keys.proofs.passes.are_own_keys_distinct.Goals as goal

pub returns : goal.returns
returns g c =
    c.in_ok-distinct.ensures
    ∙ distinct_alike (share_key (λ row. Some (g.R.Keyed.row_text row))) g.R.Keyed.same_key
    (λ row other. sym (g.met.R.Keyed.texts_decide.same row other)) c.args.rows
