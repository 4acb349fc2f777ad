use Rattle.std.proofs.Common.{◌≡◌, ◌<◌, List, length, set, sym, ap, subst, ◌∙◌, arith}
use Rattle.std.proofs.lemmas.List.{get_or_read, length-map}
use Rattle.std.proofs.lemmas.List.Elements.{All-get_or, All-set}
use Rattle.ranked_groups.specs.Items.{Item, GroupsView, set_rank}
use Rattle.ranked_groups.specs.Groups.{GroupView, item_of, items_of, with_rank, with_ranks, no_group, no_entry, Takes}
use Rattle.ranked_groups.proofs.WithRanks.{bare, IsTold, told_within, told_ranked}
use Rattle.ranked_groups.proofs.ranked_groups.RankedGroups.set.Goals as goal

pub index_mut-requires : goal.index_mut-requires
index_mut-requires c =
    let t = c.self.inside in
    let groups = t.groups.items in
    let entries = t.entries.items in
    let place = c.args.place in
    let all = with_ranks groups entries in
    let count : length (items_of t.names.names all) ≡ length c.args.self.now.items = ap (λ (v : GroupsView). length v.items) c.self.view_is in
    let long = length-map all (item_of t.names.names) in
    let also = length-map entries (with_rank groups) in
    let low : place < length entries = omega (arith, c.requires) in
    let entry = c.index-entry.result.now in
    let read = get_or_read entries place entry low c.index-entry.ensures (bare no_entry) in
    let within = (told_within t.names.names groups entries place entry low read c.self.invariant.0).0 in
    omega (arith, t.groups.ok)

pub set-requires : goal.set-requires
set-requires c =
    let t = c.self.inside in
    let groups = t.groups.items in
    let entries = t.entries.items in
    let place = c.args.place in
    let all = with_ranks groups entries in
    let count : length (items_of t.names.names all) ≡ length c.args.self.now.items = ap (λ (v : GroupsView). length v.items) c.self.view_is in
    let long = length-map all (item_of t.names.names) in
    let also = length-map entries (with_rank groups) in
    let low : place < length entries = omega (arith, c.requires) in
    let entry = c.index-entry.result.now in
    let read = get_or_read entries place entry low c.index-entry.ensures (bare no_entry) in
    let within = told_within t.names.names groups entries place entry low read c.self.invariant.0 in
    let group = get_or_read groups entry.group c.index_mut.result.now within.0 c.index_mut.ensures.value no_group in
    subst (λ (v : GroupView). entry.at < length v.ranks) (sym group) within.1

pub invariant_of-self : goal.invariant_of-self
invariant_of-self c =
    let t = c.self.inside in
    let names = t.names.names in
    let groups = t.groups.items in
    let entries = t.entries.items in
    let place = c.args.place in
    let rank = c.args.rank in
    let all = with_ranks groups entries in
    let count : length (items_of names all) ≡ length c.args.self.now.items = ap (λ (v : GroupsView). length v.items) c.self.view_is in
    let long = length-map all (item_of names) in
    let also = length-map entries (with_rank groups) in
    let low : place < length entries = omega (arith, c.requires) in
    let entry = c.index-entry.result.now in
    let read = get_or_read entries place entry low c.index-entry.ensures (bare no_entry) in
    let within = (told_within names groups entries place entry low read c.self.invariant.0).0 in
    let old = c.index_mut.result.now in
    let group = get_or_read groups entry.group old within c.index_mut.ensures.value no_group in
    let new = c.set.new.self in
    let room = c.self.invariant.1 in
    let here : Takes t.room old = subst (Takes t.room) (sym group) (All-get_or (Takes t.room) groups entry.group no_group within room.each) in
    let wide : Takes t.room new = let same = ap (λ (v : GroupView). v.room) c.set.ensures in omega arith in (
      (told_ranked names groups entries place rank entry old new low read group (ap (λ (v : GroupView). v.ranks) c.set.ensures)
          (ap (λ (v : GroupView). v.places) c.set.ensures) c.self.invariant.0).grouped,
      record {
        name_room = room.name_room;
        group_room = room.group_room;
        each = All-set (Takes t.room) groups entry.group new wide room.each;
        spare_count = room.spare_count;
        empty = room.empty;
        wide = room.wide;
        entry_room = room.entry_room;
        few = room.few;
        few_groups = room.few_groups;
      },
    )

pub returns : goal.returns
returns c =
    let t = c.self.inside in
    let names = t.names.names in
    let groups = t.groups.items in
    let entries = t.entries.items in
    let place = c.args.place in
    let rank = c.args.rank in
    let all = with_ranks groups entries in
    let count : length (items_of names all) ≡ length c.args.self.now.items = ap (λ (v : GroupsView). length v.items) c.self.view_is in
    let long = length-map all (item_of names) in
    let also = length-map entries (with_rank groups) in
    let low : place < length entries = omega (arith, c.requires) in
    let entry = c.index-entry.result.now in
    let read = get_or_read entries place entry low c.index-entry.ensures (bare no_entry) in
    let within = (told_within names groups entries place entry low read c.self.invariant.0).0 in
    let old = c.index_mut.result.now in
    let group = get_or_read groups entry.group old within c.index_mut.ensures.value no_group in
    let told : IsTold names (set groups entry.group c.set.new.self) entries (set_rank (items_of names all) place rank) =
    told_ranked names groups entries place rank entry old c.set.new.self low read group (ap (λ (v : GroupView). v.ranks) c.set.ensures)
    (ap (λ (v : GroupView). v.places) c.set.ensures) c.self.invariant.0 in
    ◌∙◌ {b = record { items = set_rank (items_of names all) place rank; room = t.room }}
    (ap (λ (items : List Item). record { items = items; room = t.room }) told.is)
    (ap (λ (v : GroupsView). record { items = set_rank v.items place rank; room = v.room }) c.self.view_is)
