use Rattle.std.proofs.Common.{ℕ, sum_by, refl, ap, ◌∙◌, arith}
use Rattle.std.proofs.lemmas.List.Sums.{sum_by-cons}
use Rattle.kept_table.specs.Slots.{slot_at}
use Rattle.text_chains.specs.Places.{value_of}
use Rattle.batch_model.specs.Runs.{is_present}
use Rattle.run_index.specs.Held.{run_held}
use Rattle.run_index.proofs.HeldSums.{present_sum, counted_kept}
use Rattle.run_index.proofs.held_slots.HeldSlots.take_runs.Goals as goal

pub loop-place-init : goal.loop-place-init
loop-place-init c = record {
  next = tt;
  ends = tt;
  sums = λ node.
      let slots = c.args.tables.now.run_slots in
      let task = c.args.task.now in
      let all = ap (sum_by (λ place. value_of (run_held (is_present task) node) (slot_at slots place))) (c.into_iter-place-iterator.ensures.into_iter_gives ∙ c.places-place-items.ensures)
      ∙ present_sum c.args.runs.now slots task node c.requires.runs in
      omega (arith, all);
  counted = c.requires.counted;
  room = refl;
}

pub loop-place-preserved : goal.loop-place-preserved
loop-place-preserved c = record {
  next = tt;
  ends = tt;
  sums = λ node.
      let slots = c.args.tables.now.run_slots in
      let task = c.args.task.now in
      let value : ℕ → ℕ = λ place. value_of (run_held (is_present task) node) (slot_at slots place) in
      let all = ap (sum_by value) c.in-Some.ensures.steps ∙ sum_by-cons value c.in-Some.place c.next.new.self in
      let before = c.loop-place.invariant.sums node in
      let step = c.take_at.ensures.sums node in
      omega (arith, all, before, step);
  counted = counted_kept c.loop-place.self c.take_at.new.self c.args.tables.now.run_slots c.take_at.ensures.keys c.loop-place.invariant.counted;
  room = c.take_at.ensures.room ∙ c.loop-place.invariant.room;
}
