use Rattle.std.proofs.Common.{◌+◌, sym, ap, ◌∙◌}
use Rattle.text_chains.specs.Places.{value_of}
use Rattle.batch_model.specs.Runs.{is_present}
use Rattle.run_index.specs.Held.{kept_sum, run_held}
use Rattle.run_index.proofs.held_slots.HeldSlots.add_at.Goals as goal

pub add_if-requires-clause-counted : goal.add_if-requires-clause-counted
add_if-requires-clause-counted c = c.requires.counted c.args.place c.in-Some.run'.now (sym c.in-Some.ensures)

pub returns-in-Some-clause-sums : goal.returns-in-Some-clause-sums
returns-in-Some-clause-sums c = λ node.
    let task = c.args.task.now in
    c.add_if.ensures.sums (is_present task) node c.is_present.ensures
    ∙ ap (λ slot. kept_sum c.args.self.now node + value_of (run_held (is_present task) node) slot) c.in-Some.ensures
