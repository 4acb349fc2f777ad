use Rattle.std.proofs.Common.{sym, subst, ◌∙◌}
use Rattle.run_index.specs.Held.{is_owned, HasHeld}
use Rattle.run_index.proofs.HeldSums.{run_released, run_enough}
use Rattle.run_index.proofs.HeldTasks.{set_free}
use Rattle.run_index.proofs.held_slots.HeldSlots.release_run.Goals as goal

pub take_if-requires-clause-counted : goal.take_if-requires-clause-counted
take_if-requires-clause-counted c = c.requires.held.counted c.args.place c.in-Some.run'.now (sym c.in-Some.ensures)

pub take_if-requires-clause-enough : goal.take_if-requires-clause-enough
take_if-requires-clause-enough c = λ holds.
    let t = c.args.tables.now in
    run_enough c.args.self.now t.state.tasks t.run_slots c.args.place c.in-Some.run'.now (sym c.in-Some.ensures) (sym c.is_owned.ensures ∙ holds) c.requires.held

pub returns-in-None-clause-held : goal.returns-in-None-clause-held
returns-in-None-clause-held c =
    let t = c.args.tables.now in
    subst (HasHeld c.args.self.now t.state.tasks) (sym (set_free t.run_slots c.args.place (sym c.in-None.ensures))) c.requires.held

pub returns-in-Some-clause-held : goal.returns-in-Some-clause-held
returns-in-Some-clause-held c =
    let t = c.args.tables.now in
    run_released c.args.self.now c.take_if.new.self t.state.tasks t.run_slots c.args.place c.in-Some.run'.now (sym c.in-Some.ensures)
    (λ node. c.take_if.ensures.sums (is_owned t.state.tasks) node c.is_owned.ensures) c.take_if.ensures.keys c.requires.held
