use Rattle.std.proofs.Common.{arith}
use Rattle.first_tree.proofs.FirstsFrom.{above_all, leaf_first, half_less, half_fits, left_covers, right_covers, in_left, in_right}
use Rattle.first_tree.proofs.nodes.+first_from.Goals as goal

pub returns-then-least-bound : goal.returns-then-least-bound
returns-then-least-bound t c =
    above_all c.args.nodes.now c.args.size c.args.bound c.args.at c.args.first c.args.width c.args.from c.requires.tree c.requires.covers c.if-least-bound.true

pub returns-then-at-size : goal.returns-then-at-size
returns-then-at-size t c =
    leaf_first c.args.nodes.now c.args.size c.args.bound c.args.at c.args.first c.args.width c.args.from c.requires.covers
    c.if-first-width.false c.if-least-bound.false c.if-at-size.true

pub first_from-requires : goal.first_from-requires
first_from-requires t c =
    let covers = c.requires.covers in
    let less = half_less c.args.size c.args.at c.args.first c.args.width covers in
    (omega (arith, c.decreases), (c.requires.length, (c.requires.tree, left_covers c.args.size c.args.at c.args.first c.args.width covers c.if-at-size.false)))

pub first_from-requires-in-None : goal.first_from-requires-in-None
first_from-requires-in-None t c =
    let covers = c.requires.covers in
    let less = half_less c.args.size c.args.at c.args.first c.args.width covers in
    (omega (arith, c.decreases), (c.requires.length, (c.requires.tree, right_covers c.args.size c.args.at c.args.first c.args.width covers c.if-at-size.false)))

pub returns-in-None : goal.returns-in-None
returns-in-None t c =
    let twice = half_fits c.args.size c.args.at c.args.first c.args.width c.requires.covers c.if-at-size.false in
    in_right c.args.nodes.now c.args.size c.args.bound c.args.first c.args.width c.args.from c.first_from-in-None.result twice
    c.in-None.ensures c.first_from-in-None.ensures

pub returns-in-Some : goal.returns-in-Some
returns-in-Some t c =
    let twice = half_fits c.args.size c.args.at c.args.first c.args.width c.requires.covers c.if-at-size.false in
    in_left c.args.nodes.now c.args.size c.args.bound c.args.first c.args.width c.args.from c.in-Some.leaf twice c.in-Some.ensures
