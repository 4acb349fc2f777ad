use Rattle.std.proofs.Common.{◌≡◌, ℕ, ◌+◌, ◌*◌, min, length, subst, arith}
use Rattle.first_tree.specs.Blocks.{IsFirstIn}
use Rattle.first_tree.proofs.blocks.first_in_block.Goals as goal

pub returns : goal.returns
returns c =
    let ends : c.block_end-end.result ≡ min (16 * c.args.block + 16) (length c.args.ranks.now) = omega (arith, c.block_end-end.ensures) in
    subst (λ (end : ℕ). IsFirstIn c.args.ranks.now (16 * c.args.block) end c.args.bound c.first_in.result) ends c.first_in.ensures
