use Rattle.std.proofs.Common.{◌≡◌, ◌+◌, ℕ, sum_by}
use Rattle.kept_table.specs.Slots.{slot_at, rows}
use Rattle.text_chains.specs.Places.{value_of}
use Rattle.batch_model.specs.Runs.{is_present}
use Rattle.run_index.specs.Held.{kept_sum, run_held, AreCounted}
use Rattle.run_index.proofs.held_slots.HeldSlots.add_runs.Given as goal

abbrev pub invariant-loop-place : goal.invariant-loop-place
invariant-loop-place l = record {
  next : (goal.iterator-loop-place).can_next l.place-iterator;
  ends : (goal.iterator-loop-place).is_finite l.place-iterator;
  sums : (node : ℕ) → kept_sum l.self node + sum_by (λ place. value_of (run_held (is_present l.fn.task) node) (slot_at l.fn.tables.run_slots place)) l.place-iterator
      ≡ kept_sum l.fn.self node + sum_by (run_held (is_present l.fn.task) node) (rows l.fn.tables.run_slots);
  counted : AreCounted l.self l.fn.tables.run_slots;
  room : l.self.room ≡ l.fn.self.room;
}
