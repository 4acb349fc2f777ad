use Rattle.std.proofs.Common.{Some, sym, ap, ◌∙◌, arith}
use Rattle.std.proofs.lemmas.List.{get_or_read}
use Rattle.ranked_groups.specs.Groups.{GroupView, place_within}
use Rattle.ranked_groups.proofs.Members.{beside_none, beside_some}
use Rattle.ranked_groups.proofs.group.Group.first.Goals as goal

pub index-requires : goal.index-requires
index-requires c =
    let t = c.self.inside in
    let beside = beside_some c.args.bound c.in-Some.at t.tree.items t.places.items c.self.invariant (sym c.first.ensures ∙ c.in-Some.is) in
    omega (arith, beside.within, t.places.ok)

pub returns-in-None : goal.returns-in-None
returns-in-None c =
    let t = c.self.inside in
    sym (beside_none c.args.bound t.tree.items t.places.items (sym c.first.ensures ∙ c.in-None.is))
    ∙ ap (λ (v : GroupView). place_within c.args.bound v.ranks v.places) c.self.view_is

pub returns-in-Some : goal.returns-in-Some
returns-in-Some c =
    let t = c.self.inside in
    let at = c.in-Some.at in
    let beside = beside_some c.args.bound at t.tree.items t.places.items c.self.invariant (sym c.first.ensures ∙ c.in-Some.is) in
    ap (λ place. Some place) (get_or_read t.places.items at c.index.result.now beside.within c.index.ensures 0)
    ∙ (sym beside.is ∙ ap (λ (v : GroupView). place_within c.args.bound v.ranks v.places) c.self.view_is)
