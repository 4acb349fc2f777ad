use Rattle.std.proofs.Common.{◌<◌, get_or, sym, arith}
use Rattle.std.proofs.lemmas.List.{get_or_read}
use Rattle.std.proofs.lemmas.Nat.{pow_pos}
use Rattle.first_tree.proofs.Firsts.{root_none, root_some}
use Rattle.first_tree.proofs.min_tree.MinTree.first.Goals as goal

pub returns-then-index-bound : goal.returns-then-index-bound
returns-then-index-bound c =
    let t = c.self.inside in
    let above : c.args.bound < get_or t.nodes.items 1 0 =
    (let pos = pow_pos c.self.invariant.power.exponent in
    let is = c.self.invariant.power.is in
    let read = get_or_read t.nodes.items 1 c.index.result.now (omega (arith, c.self.invariant.length)) c.index.ensures 0 in
    omega arith) in
    rw (← c.self.view_is) (sym (root_none t.nodes.items t.size t.len c.args.bound c.self.invariant above))

pub returns : goal.returns
returns c =
    let t = c.self.inside in
    let is_first = rw c.deref.ensures.value at c.first_leaf.ensures in
    rw (← c.self.view_is) (sym (root_some t.nodes.items t.size t.len c.args.bound c.first_leaf.result c.self.invariant c.requires is_first))
