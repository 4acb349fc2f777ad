use Rattle.std.proofs.Common.{◌≡◌, ◌<◌, ◌-◌, List, [], ◌∷◌, ◌++◌, length, set, get_or, sym, ap, subst, ◌∙◌, arith}
use Rattle.std.specs.List.{All}
use Rattle.std.proofs.lemmas.List.{get_or_read}
use Rattle.std.proofs.lemmas.List.Elements.{All-get_or, All-set, All-weaker}
use Rattle.ranked_groups.specs.declared.entry.Entry.{Entry}
use Rattle.ranked_groups.specs.Items.{Item, GroupsView}
use Rattle.ranked_groups.specs.Groups.{GroupView, items_of, with_ranks, no_group, IsGrouped, Takes}
use Rattle.ranked_groups.proofs.WithRanks.{told_pushed, told_fewer}
use Rattle.ranked_groups.proofs.Numbers.{found}
use Rattle.ranked_groups.proofs.ranked_groups.RankedGroups.push.Goals as goal

pub index-requires : goal.index-requires
index-requires c =
    let t = c.self.inside in
    let made = c.group_for-number in
    let g = made.ensures.kept.grouped t.entries.items c.self.invariant.0 in
    let within = (found c.args.group.now made.new.names.names made.result made.ensures.number).within in
    let count = g.count in
    omega (arith, made.new.groups.ok)

pub index_mut-requires : goal.index_mut-requires
index_mut-requires c =
    let t = c.self.inside in
    let made = c.group_for-number in
    let g = made.ensures.kept.grouped t.entries.items c.self.invariant.0 in
    let within = (found c.args.group.now made.new.names.names made.result made.ensures.number).within in
    let count = g.count in
    omega (arith, made.new.groups.ok)

pub overflow_cast-number : goal.overflow_cast-number
overflow_cast-number c =
    let t = c.self.inside in
    let made = c.group_for-number in
    let g = made.ensures.kept.grouped t.entries.items c.self.invariant.0 in
    let within = (found c.args.group.now made.new.names.names made.result made.ensures.number).within in
    let count = g.count in
    let room = c.self.invariant.1 in
    let same_room = ap (λ (v : GroupsView). v.room) c.self.view_is in
    omega (arith, c.requires.room, made.new.groups.ok, made.ensures.count, room.few, room.few_groups)

pub overflow_cast-at : goal.overflow_cast-at
overflow_cast-at c =
    let t = c.self.inside in
    let name = c.args.group.now in
    let made = c.group_for-number in
    let groups = made.new.groups.items in
    let number = made.result in
    let g = made.ensures.kept.grouped t.entries.items c.self.invariant.0 in
    let within = (found name made.new.names.names number made.ensures.number).within in
    let count = g.count in
    let seen = get_or_read groups number c.index.result.now (omega arith) c.index.ensures no_group in
    let long : c.len-at.result ≡ length (get_or groups number no_group).ranks = c.len-at.ensures ∙ ap (λ (v : GroupView). length v.ranks) seen in
    let fewer = told_fewer made.new.names.names groups t.entries.items name number made.ensures.number g in
    let room = c.self.invariant.1 in
    let same_room = ap (λ (v : GroupsView). v.room) c.self.view_is in
    omega (arith, c.requires.room, t.entries.ok, room.few)

pub push-requires : goal.push-requires
push-requires c =
    let t = c.self.inside in
    let made = c.group_for-number in
    let groups = made.new.groups.items in
    let g = made.ensures.kept.grouped t.entries.items c.self.invariant.0 in
    let within = (found c.args.group.now made.new.names.names made.result made.ensures.number).within in
    let count = g.count in
    let low : made.result < length groups = omega arith in
    let each : All (Takes t.room) groups = made.ensures.each t.room c.self.invariant.1.each c.self.invariant.1.wide in
    let read = get_or_read groups made.result c.index_mut.result.now low c.index_mut.ensures.value no_group in
    let here : Takes t.room c.index_mut.result.now =
    subst (Takes t.room) (sym read) (All-get_or (Takes t.room) groups made.result no_group low each) in
    let room = ap (λ (v : GroupsView). v.room) c.self.view_is in
    omega (arith, c.requires.room)

pub invariant_of-self : goal.invariant_of-self
invariant_of-self c =
    let t = c.self.inside in
    let name = c.args.group.now in
    let made = c.group_for-number in
    let names = made.new.names.names in
    let groups = made.new.groups.items in
    let entries = t.entries.items in
    let number = made.result in
    let at = c.len-at.result in
    let rank = c.args.rank in
    let new = c.push.new.self in
    let g = made.ensures.kept.grouped entries c.self.invariant.0 in
    let within = (found name names number made.ensures.number).within in
    let count = g.count in
    let low : number < length groups = omega arith in
    let seen = get_or_read groups number c.index.result.now low c.index.ensures no_group in
    let read = get_or_read groups number c.index_mut.result.now low c.index_mut.ensures.value no_group in
    let long : at ≡ length c.index_mut.result.now.ranks = c.len-at.ensures ∙ ap (λ (v : GroupView). length v.ranks) (seen ∙ sym read) in
    let end : c.len.result ≡ length entries = omega (arith, c.len.ensures, t.entries.ok) in
    let room = c.self.invariant.1 in
    let each : All (Takes t.room) groups = made.ensures.each t.room room.each room.wide in
    let fewer : (v : GroupView) → Takes t.room v → Takes (t.room - 1) v = λ v h. omega arith in
    let here : Takes t.room c.index_mut.result.now =
    subst (Takes t.room) (sym read) (All-get_or (Takes t.room) groups number no_group low each) in
    let left : Takes (t.room - 1) new = omega (arith, c.push.ensures.room) in
    let same_room = ap (λ (v : GroupsView). v.room) c.self.view_is in
    let free : 0 < t.room = omega (arith, c.requires.room) in (
      subst (λ (xs : List Entry). IsGrouped names (set groups number new) (with_ranks (set groups number new) xs))
          (sym {A = List Entry} c.push_reserved.ensures.items)
          (told_pushed names groups entries name number at rank c.len.result c.index_mut.result.now new made.ensures.number read long end
          c.push.ensures.ranks c.push.ensures.places g).grouped,
      record {
        name_room = omega (arith, room.name_room, made.ensures.names);
        group_room = omega (arith, room.group_room, made.ensures.groups);
        each = All-set (Takes (t.room - 1)) groups number new left (All-weaker (Takes t.room) (Takes (t.room - 1)) fewer groups each);
        spare_count = omega (arith, room.spare_count, made.ensures.spares);
        empty = made.ensures.empty;
        wide =
            All-weaker (Takes t.room) (Takes (t.room - 1)) fewer made.new.spares.items (made.ensures.wide t.room room.wide);
        entry_room = omega (arith, room.entry_room, c.push_reserved.ensures.len, c.push_reserved.ensures.capacity);
        few = omega (arith, room.few, c.push_reserved.ensures.len);
        few_groups = omega (arith, room.few_groups, made.ensures.count, c.push_reserved.ensures.len);
      },
    )

pub returns-clause-items : goal.returns-clause-items
returns-clause-items c =
    let t = c.self.inside in
    let name = c.args.group.now in
    let made = c.group_for-number in
    let names = made.new.names.names in
    let groups = made.new.groups.items in
    let entries = t.entries.items in
    let number = made.result in
    let at = c.len-at.result in
    let rank = c.args.rank in
    let new = c.push.new.self in
    let g = made.ensures.kept.grouped entries c.self.invariant.0 in
    let within = (found name names number made.ensures.number).within in
    let count = g.count in
    let low : number < length groups = omega arith in
    let seen = get_or_read groups number c.index.result.now low c.index.ensures no_group in
    let read = get_or_read groups number c.index_mut.result.now low c.index_mut.ensures.value no_group in
    let long : at ≡ length c.index_mut.result.now.ranks = c.len-at.ensures ∙ ap (λ (v : GroupView). length v.ranks) (seen ∙ sym read) in
    let end : c.len.result ≡ length entries = omega (arith, c.len.ensures, t.entries.ok) in
    let item : Item = record { group = name; rank = rank } in
    ap (λ (xs : List Entry). items_of names (with_ranks (set groups number new) xs)) c.push_reserved.ensures.items
    ∙ ((told_pushed names groups entries name number at rank c.len.result c.index_mut.result.now new made.ensures.number read long end
    c.push.ensures.ranks c.push.ensures.places g).is
    ∙ (ap (λ (items : List Item). items ++ item ∷ []) (made.ensures.kept.items entries c.self.invariant.0)
    ∙ ap (λ (v : GroupsView). v.items ++ item ∷ []) c.self.view_is))
