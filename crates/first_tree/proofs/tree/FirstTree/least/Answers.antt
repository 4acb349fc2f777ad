use Rattle.std.proofs.Common.{ap, ◌∙◌}
use Rattle.first_tree.specs.Ranks.{Ranks, least_rank}
use Rattle.first_tree.proofs.Blocked.{blocks_least}
use Rattle.first_tree.proofs.tree.FirstTree.least.Goals as goal

pub returns : goal.returns
returns c =
    let t = c.self.inside in
    c.least.ensures ∙ blocks_least t.ranks.items t.blocks.items c.self.invariant.0 ∙ ap (λ (r : Ranks). least_rank r.items) c.self.view_is
