use Rattle.std.proofs.Common.{◌≡◌, ◌&&◌, None}
use Rattle.kept_table.specs.Slots.{slot_at, holds}
use Rattle.text_chains.specs.Chains.{places_of}
use Rattle.batch_model.specs.Runs.{is_present, is_main}
use Rattle.batch_model.specs.Variants.{RunRow}
use Rattle.run_index.specs.Attempts.{present_text, lowest_from}
use Rattle.run_index.proofs.runs_of_attempts.RunsOfAttempts.main_place.Given as goal

abbrev pub invariant-loop-place : goal.invariant-loop-place
invariant-loop-place l = record {
  next : (goal.iterator-loop-place).can_next l.place-iterator;
  ends : (goal.iterator-loop-place).is_finite l.place-iterator;
  least : lowest_from (λ place. holds (λ (run : RunRow). is_present l.fn.task run && is_main run.kind) (slot_at l.fn.tables.run_slots place)) l.least l.place-iterator
      ≡ lowest_from (λ place. holds (λ (run : RunRow). is_present l.fn.task run && is_main run.kind) (slot_at l.fn.tables.run_slots place)) None (places_of l.fn.self (present_text l.fn.task));
}
