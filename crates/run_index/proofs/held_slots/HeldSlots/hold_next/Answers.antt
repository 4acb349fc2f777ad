use Rattle.std.proofs.Common.{◌≡◌, ◌≤◌, length, take, Some, None, arith}
use Rattle.std.proofs.lemmas.List.{length-take-le}
use Rattle.run_index.specs.Held.{HasHeld}
use Rattle.run_index.proofs.HeldSums.{held_small}
use Rattle.run_index.proofs.NextPlaces.{at_next, held_none, held_next}
use Rattle.run_index.proofs.held_slots.HeldSlots.hold_next.Goals as goal

pub hold-requires-clause-small : goal.hold-requires-clause-small
hold-requires-clause-small c = λ node.
    let t = c.args.tables.now in
    let place = c.args.place in
    let within = c.requires.place in
    let few = c.run_places_known.ensures in
    let below : place ≤ length t.run_slots = omega (arith, within) in
    let long : length (take place t.run_slots) ≡ place = length-take-le place t.run_slots below in
    held_small c.args.self.now t.state.tasks (take place t.run_slots) node (omega (arith, within, few, long)) c.requires.held

pub returns-in-None : goal.returns-in-None
returns-in-None c =
    let t = c.args.tables.now in
    at_next (HasHeld c.args.self.now t.state.tasks) t.run_slots c.args.place None c.requires.place c.in-None.ensures
    (held_none c.args.self.now t.state.tasks (take c.args.place t.run_slots) c.requires.held)

pub returns-in-Some : goal.returns-in-Some
returns-in-Some c =
    let t = c.args.tables.now in
    let run = c.in-Some.run'.now in
    at_next (HasHeld c.hold.new.self t.state.tasks) t.run_slots c.args.place (Some run) c.requires.place c.in-Some.ensures
    (held_next c.args.self.now c.hold.new.self t.state.tasks (take c.args.place t.run_slots) run c.hold.ensures.sums c.hold.ensures.keys c.hold.ensures.counted
    c.requires.held)
