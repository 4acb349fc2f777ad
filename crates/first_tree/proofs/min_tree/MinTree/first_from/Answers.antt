use Rattle.std.proofs.Common.{◌≡◌, ◌+◌, ℕ, List, length, sym, ap, subst, arith}
use Rattle.first_tree.specs.Nodes.{IsFirstFrom}
use Rattle.first_tree.proofs.FirstsFrom.{whole_from, next_fits}
use Rattle.first_tree.proofs.min_tree.MinTree.first_from.Goals as goal

pub returns-clause-found : goal.returns-clause-found
returns-clause-found c =
    let t = c.self.inside in
    let is = subst (λ (ns : List ℕ). IsFirstFrom ns t.size c.args.bound 0 c.args.from (0 + t.size) c.first_from.result)
    c.deref.ensures.value c.first_from.ensures in
    rw (← c.self.view_is) (sym (whole_from t.nodes.items t.size t.len c.args.from c.args.bound c.first_from.result c.self.invariant c.requires is))

pub returns-clause-next : goal.returns-clause-next
returns-clause-next c =
    let t = c.self.inside in
    let is = subst (λ (ns : List ℕ). IsFirstFrom ns t.size c.args.bound 0 c.args.from (0 + t.size) c.first_from.result)
    c.deref.ensures.value c.first_from.ensures in
    let same : length c.deref.result.now ≡ length t.nodes.items = ap length c.deref.ensures.value in
    next_fits t.nodes.items t.size t.len c.args.from c.args.bound c.first_from.result c.self.invariant (omega (arith, same)) is
