use Rattle.std.proofs.Common.{◌≡◌, ℕ, ◌+◌, ◌*◌, min, length, subst, arith}
use Rattle.first_tree.specs.Blocks.{IsLeastIn}
use Rattle.first_tree.proofs.blocks.least_in_block.Goals as goal

pub returns : goal.returns
returns c =
    let ends : c.block_end-end.result ≡ min (16 * c.args.block + 16) (length c.args.ranks.now) = omega (arith, c.block_end-end.ensures) in
    subst (λ (end : ℕ). IsLeastIn c.args.ranks.now (16 * c.args.block) end c.least_in.result) ends c.least_in.ensures
