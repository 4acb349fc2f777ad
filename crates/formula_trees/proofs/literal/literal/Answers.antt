use Rattle.std.proofs.Common.{◌≡◌, ◌≤◌, ◌∙◌, ap, arith}
use Rattle.std.specs.Prelude.{pos}
use Rattle.bt_base.specs.Numbers.{in_bounds}
use Rattle.std.proofs.lemmas.Int.{to_z_pos}
use mir.Syntax.{w64}
use Rattle.formula_trees.proofs.Literals.{all_parts}
use Rattle.formula_trees.proofs.literal.literal.Goals as goal

pub returns : goal.returns
returns c =
    let r = c.shown-millionths.result in
    let small : r ≤ 1000000000000000001 = omega arith in
    let same = all_parts c.args.digit c.args.whole.now c.args.decimals.now c.min-kept.result c.shown-first.result c.shown-ones.result c.shown-cut.result r
    c.min-kept.ensures c.shown-first.ensures c.shown-ones.ensures c.shown-cut.ensures c.shown-millionths.ensures in
    c.of_millionths.ensures ∙ ap in_bounds (to_z_pos w64 r (omega arith)) ∙ same
