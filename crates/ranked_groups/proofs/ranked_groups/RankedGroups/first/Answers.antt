use Rattle.std.proofs.Common.{ℕ, List, get_or, sym, ap, ◌∙◌, arith}
use Rattle.std.proofs.lemmas.List.{get_or_read}
use Rattle.ranked_groups.specs.Items.{GroupsView, first_of}
use Rattle.ranked_groups.specs.Groups.{GroupView, items_of, with_ranks, place_within, places_from, ranks_of, no_group}
use Rattle.ranked_groups.proofs.Members.{first_place}
use Rattle.ranked_groups.proofs.Numbers.{found}
use Rattle.ranked_groups.proofs.ranked_groups.RankedGroups.first.Goals as goal

pub index-requires : goal.index-requires
index-requires c =
    let t = c.self.inside in
    let within = (found c.args.group.now t.names.names c.in-Some.number (sym c.number_of.ensures ∙ c.in-Some.is)).within in
    let count = c.self.invariant.0.count in
    omega (arith, t.groups.ok)

pub returns-in-None : goal.returns-in-None
returns-in-None c =
    let t = c.self.inside in
    let name = c.args.group.now in
    let bound = c.args.bound in
    let items = items_of t.names.names (with_ranks t.groups.items t.entries.items) in
    let none = c.self.invariant.0.absent name (sym c.number_of.ensures ∙ c.in-None.is) in
    ap (λ (ranks : List ℕ). place_within bound ranks (places_from name 0 items)) none.ranks
    ∙ (first_place name bound items ∙ ap (λ (v : GroupsView). first_of name bound v.items) c.self.view_is)

pub returns-in-Some : goal.returns-in-Some
returns-in-Some c =
    let t = c.self.inside in
    let name = c.args.group.now in
    let bound = c.args.bound in
    let number = c.in-Some.number in
    let items = items_of t.names.names (with_ranks t.groups.items t.entries.items) in
    let is = sym c.number_of.ensures ∙ c.in-Some.is in
    let within = (found name t.names.names number is).within in
    let count = c.self.invariant.0.count in
    let read = get_or_read t.groups.items number c.index.result.now (omega arith) c.index.ensures no_group in
    let each = c.self.invariant.0.each name number is in
    c.first.ensures
    ∙ (ap (λ (v : GroupView). place_within bound v.ranks v.places) read
    ∙ (ap (λ (ranks : List ℕ). place_within bound ranks (get_or t.groups.items number no_group).places) each.ranks
    ∙ (ap (λ (places : List ℕ). place_within bound (ranks_of name items) places) each.places
    ∙ (first_place name bound items ∙ ap (λ (v : GroupsView). first_of name bound v.items) c.self.view_is))))
