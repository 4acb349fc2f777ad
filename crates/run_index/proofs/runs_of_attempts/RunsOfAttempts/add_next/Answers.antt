use Rattle.std.proofs.Common.{◌≡◌, ◌≤◌, length, take, Some, None, sym, arith}
use Rattle.std.proofs.lemmas.List.{length-take-le}
use Rattle.run_index.specs.Attempts.{HasRuns, run_attempt_text}
use Rattle.run_index.proofs.NextPlaces.{at_next}
use Rattle.run_index.proofs.TextPlaces.{row_none_next}
use Rattle.run_index.proofs.runs_of_attempts.RunsOfAttempts.add_next.Goals as goal

pub returns-in-None : goal.returns-in-None
returns-in-None c = λ runs.
    let slots = c.args.tables.now.run_slots in
    let place = c.args.place in
    at_next (HasRuns c.args.self.now) slots place None c.requires.place c.in-None.ensures (row_none_next run_attempt_text c.args.self.now (take place slots) runs)

pub returns-in-Some : goal.returns-in-Some
returns-in-Some c = λ runs.
    let slots = c.args.tables.now.run_slots in
    let place = c.args.place in
    let within = c.requires.place in
    let below : place ≤ length slots = omega (arith, within) in
    let long : length (take place slots) ≡ place = length-take-le place slots below in
    at_next (HasRuns c.add.new.self) slots place (Some c.in-Some.run'.now) within c.in-Some.ensures (c.add.ensures.runs (take place slots) None (sym long) runs)
