use Rattle.std.proofs.Common.{arith}
use Rattle.ranked_groups.proofs.WithRanks.{told_roomier}
use Rattle.ranked_groups.proofs.ranked_groups.RankedGroups.reserve.Goals as goal

pub invariant_of-self-in_err-reserve_each : goal.invariant_of-self-in_err-reserve_each
invariant_of-self-in_err-reserve_each c =
    let t = c.self.inside in
    let room = c.self.invariant.1 in (
      (told_roomier t.names.names c.reserve.new.self.names t.groups.items c.reserve-2.new.self.items c.reserve_each.new.groups.items
          t.entries.items c.reserve-3.new.self.items c.reserve.ensures.names c.reserve-2.ensures.items c.reserve_each.ensures.same
          c.reserve-3.ensures.items c.self.invariant.0).grouped,
      record {
        name_room = omega arith;
        group_room =
            omega (arith, room.group_room, c.reserve-2.ensures.len, c.reserve-2.ensures.capacity, c.reserve_each.ensures.len, c.reserve_each.ensures.capacity);
        each = λ k d l. omega arith;
        spare_count = omega arith;
        empty = room.empty;
        wide = λ k d l. omega arith;
        entry_room = omega (arith, room.entry_room, c.reserve-3.ensures.len, c.reserve-3.ensures.capacity);
        few = omega (arith, room.few, c.reserve-3.ensures.len);
        few_groups = omega (arith, room.few_groups, c.reserve-2.ensures.len, c.reserve_each.ensures.len, c.reserve-3.ensures.len);
      },
    )

pub invariant_of-self-in_err-reserve_spares : goal.invariant_of-self-in_err-reserve_spares
invariant_of-self-in_err-reserve_spares c =
    let t = c.self.inside in
    let room = c.self.invariant.1 in (
      (told_roomier t.names.names c.reserve.new.self.names t.groups.items c.reserve-2.new.self.items c.reserve_each.new.groups.items
          t.entries.items c.reserve-3.new.self.items c.reserve.ensures.names c.reserve-2.ensures.items c.reserve_each.ensures.same
          c.reserve-3.ensures.items c.self.invariant.0).grouped,
      record {
        name_room = omega arith;
        group_room =
            omega (arith, room.group_room, c.reserve-2.ensures.len, c.reserve-2.ensures.capacity, c.reserve_each.ensures.len, c.reserve_each.ensures.capacity);
        each = λ k d l. omega arith;
        spare_count = omega arith;
        empty = c.reserve_spares.ensures.empty;
        wide = λ k d l. omega arith;
        entry_room = omega (arith, room.entry_room, c.reserve-3.ensures.len, c.reserve-3.ensures.capacity);
        few = omega (arith, room.few, c.reserve-3.ensures.len);
        few_groups = omega (arith, room.few_groups, c.reserve-2.ensures.len, c.reserve_each.ensures.len, c.reserve-3.ensures.len);
      },
    )

pub invariant_of-self-2 : goal.invariant_of-self-2
invariant_of-self-2 c =
    let t = c.self.inside in
    let room = c.self.invariant.1 in (
      (told_roomier t.names.names c.reserve.new.self.names t.groups.items c.reserve-2.new.self.items c.reserve_each.new.groups.items
          t.entries.items c.reserve-3.new.self.items c.reserve.ensures.names c.reserve-2.ensures.items c.reserve_each.ensures.same
          c.reserve-3.ensures.items c.self.invariant.0).grouped,
      record {
        name_room = c.in_ok-reserve.ensures.room;
        group_room = omega (arith, c.in_ok-reserve-2.ensures.ok, c.reserve_each.ensures.len, c.reserve_each.ensures.capacity);
        each = c.in_ok-reserve_each.ensures.room;
        spare_count = c.in_ok-reserve_spares.ensures.enough;
        empty = c.reserve_spares.ensures.empty;
        wide = c.in_ok-reserve_spares.ensures.wide;
        entry_room = c.in_ok-reserve-3.ensures.ok;
        few = omega (arith, room.few, c.len.ensures, c.reserve-3.ensures.len);
        few_groups = omega (arith, room.few_groups, c.reserve-2.ensures.len, c.reserve_each.ensures.len, c.reserve-3.ensures.len);
      },
    )
