use Rattle.std.proofs.Common.{◌-◌, ℕ, ◌≡◌, List, take, drop, length, ap, ◌∙◌, arith}
use Rattle.std.proofs.lemmas.List.{with_items_is}
use Rattle.first_tree.proofs.Firsts.{take_set}
use Rattle.first_tree.proofs.min_tree.MinTree.set.Goals as goal

pub returns : goal.returns
returns c =
    let t = c.self.inside in
    let same : length c.set_leaf.new.nodes ≡ t.nodes.len =
    omega (arith, c.set_leaf.ensures.length, c.self.invariant.length, ap length c.deref_mut.ensures.value, c.deref_mut.ensures.len) in
    let kept = with_items_is t.nodes c.set_leaf.new.nodes same in
    let leaves = ap (λ (xs : List ℕ). drop t.size xs) kept ∙ (rw c.deref_mut.ensures.value at c.set_leaf.ensures.leaves) in
    rw (← c.self.view_is)
    (ap (λ (xs : List ℕ). record { items = xs; room = t.size - t.len })
    (ap (take t.len) leaves ∙ take_set t.len (drop t.size t.nodes.items) c.args.at c.args.rank))
