use Rattle.std.proofs.Common.{◌≡◌, ℕ, ◌+◌, min, get_or, subst, arith}
use Rattle.first_tree.specs.Blocks.{IsLeastIn}
use Rattle.first_tree.proofs.Blocked.{least_more}
use Rattle.first_tree.proofs.blocks.least_in.Goals as goal

pub loop-at-preserved : goal.loop-at-preserved
loop-at-preserved c =
    let ranks = c.args.ranks.now in
    let at = c.loop-at.at in
    let more = least_more ranks c.args.from at c.loop-at.least (omega arith) c.loop-at.invariant in
    let is : min c.loop-at.least (get_or ranks at 0) ≡ c.min-least.result = omega (arith, c.min-least.ensures) in
    subst (λ (n : ℕ). IsLeastIn ranks c.args.from (at + 1) n) is more
