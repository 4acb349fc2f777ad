use Rattle.std.proofs.Common.{◌≤◌, get_or, ap, ◌∙◌, arith}
use Rattle.std.proofs.lemmas.List.{get_or_read}
use Rattle.std.proofs.lemmas.Nat.{pow_pos}
use Rattle.first_tree.specs.Ranks.{Ranks, least_rank, no_rank}
use Rattle.first_tree.proofs.Leasts.{root_least}
use Rattle.first_tree.proofs.min_tree.MinTree.least.Goals as goal

pub returns : goal.returns
returns c =
    let t = c.self.inside in
    let pos = pow_pos c.self.invariant.power.exponent in
    let is = c.self.invariant.power.is in
    let read = get_or_read t.nodes.items 1 c.index.result.now (omega (arith, c.self.invariant.length)) c.index.ensures 0 in
    let small : get_or t.nodes.items 1 0 ≤ no_rank = omega (arith, read) in
    read ∙ root_least t.nodes.items t.size t.len c.self.invariant small ∙ ap (λ (r : Ranks). least_rank r.items) c.self.view_is
