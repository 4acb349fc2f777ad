use Rattle.std.proofs.Common.{take}
use Rattle.run_index.specs.Held.{HasHeld}
use Rattle.run_index.proofs.held_slots.HeldSlots.of_tables.Given as goal

abbrev pub invariant-loop-place : goal.invariant-loop-place
invariant-loop-place l = HasHeld l.held l.fn.tables.state.tasks (take l.place l.fn.tables.run_slots)
