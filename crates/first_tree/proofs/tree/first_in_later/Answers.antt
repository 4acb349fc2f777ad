use Rattle.std.proofs.Common.{◌*◌, min, length, arith}
use Rattle.first_tree.proofs.Searched.{none_before, none_from_of, first_from_of, blocks_none, blocks_some}
use Rattle.first_tree.proofs.tree.first_in_later.Goals as goal

pub first_in_block-requires : goal.first_in_block-requires
first_in_block-requires c =
    let leasts = c.args.blocks.now.items in
    let first = first_from_of c.args.block c.args.bound c.in-Some.later leasts c.in-Some.ensures.found in
    omega (arith, first.high, c.requires.blocks.few)

pub returns-in-None : goal.returns-in-None
returns-in-None c =
    let ranks = c.args.ranks.now in
    let leasts = c.args.blocks.now.items in
    let start = 16 * c.args.block in
    blocks_none ranks leasts start c.args.block c.args.bound c.requires.blocks
    (none_before ranks start (min start (length ranks)) c.args.bound (omega arith)) (none_from_of c.args.block c.args.bound leasts c.in-None.ensures.found)

pub returns-in-Some : goal.returns-in-Some
returns-in-Some c =
    let ranks = c.args.ranks.now in
    let leasts = c.args.blocks.now.items in
    let start = 16 * c.args.block in
    blocks_some ranks leasts start c.args.block c.args.bound c.in-Some.later c.first_in_block.result c.requires.blocks (omega arith)
    (none_before ranks start (min start (length ranks)) c.args.bound (omega arith))
    (first_from_of c.args.block c.args.bound c.in-Some.later leasts c.in-Some.ensures.found) c.first_in_block.ensures
