use Rattle.std.proofs.Common.{None, set, sym, subst, arith}
use Rattle.std.proofs.lemmas.List.{length-set}
use Rattle.run_index.specs.Held.{HasHeld}
use Rattle.run_index.proofs.HeldSums.{run_added, held_small}
use Rattle.run_index.proofs.HeldTasks.{set_free}
use Rattle.run_index.proofs.held_slots.HeldSlots.hold_run.Goals as goal

pub hold-requires-clause-small : goal.hold-requires-clause-small
hold-requires-clause-small c = λ node.
    let t = c.args.tables.now in
    let few = c.run_places_known.ensures in
    let long = length-set t.run_slots c.args.place None in
    held_small c.args.self.now t.state.tasks (set t.run_slots c.args.place None) node (omega (arith, few, long)) c.requires.held

pub returns-in-None-clause-held : goal.returns-in-None-clause-held
returns-in-None-clause-held c =
    let t = c.args.tables.now in
    subst (HasHeld c.args.self.now t.state.tasks) (set_free t.run_slots c.args.place (sym c.in-None.ensures)) c.requires.held

pub returns-in-Some-clause-held : goal.returns-in-Some-clause-held
returns-in-Some-clause-held c =
    let t = c.args.tables.now in
    run_added c.args.self.now c.hold.new.self t.state.tasks t.run_slots c.args.place c.in-Some.run'.now (sym c.in-Some.ensures) c.hold.ensures.sums c.hold.ensures.keys
    c.hold.ensures.counted c.requires.held
