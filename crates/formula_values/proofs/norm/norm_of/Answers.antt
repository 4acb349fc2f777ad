use Rattle.std.proofs.Common.{◌∙◌, ap, arith}
use Rattle.std.specs.Int.{w128}
use Rattle.std.proofs.lemmas.Int.{to_z_pos}
use Rattle.bt_base.specs.Numbers.{bounded}
use Rattle.formula_values.specs.Values.{double_of}
use Rattle.formula_values.specs.Functions.{squares}
use Rattle.formula_values.proofs.Roots.{root_told}
use Rattle.formula_values.proofs.norm.norm_of.Goals as goal

pub returns : goal.returns
returns c =
    let k = c.isqrt-root.ensures in
    let told = root_told c.squares.result (squares c.args.items.now) c.isqrt-root.result c.squares.ensures
    (record { at_most = k.square_le; above = k.next_square_gt }) in
    c.double_of.ensures ∙ ap double_of (c.bounded.ensures ∙ ap bounded (to_z_pos w128 c.isqrt-root.result (omega (arith, k.bound))) ∙ told)
