use Rattle.std.proofs.Common.{take}
use Rattle.run_index.proofs.held_slots.HeldSlots.of_tables.Goals as goal

pub loop-place-init : goal.loop-place-init
loop-place-init c = c.new-held.ensures c.args.tables.now.state.tasks

pub hold_next-requires-clause-held : goal.hold_next-requires-clause-held
hold_next-requires-clause-held c =
    let t = c.args.tables.now in
    c.reserve.ensures.held t.state.tasks (take c.loop-place.place t.run_slots) c.loop-place.invariant
