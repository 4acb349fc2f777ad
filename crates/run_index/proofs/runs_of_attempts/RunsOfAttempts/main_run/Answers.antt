use Rattle.std.proofs.Common.{◌≡◌, ◌&&◌, Bool, Some, None, sym, ap, ◌∙◌}
use Rattle.std.specs.List.{find}
use Rattle.kept_table.specs.Slots.{place_of}
use Rattle.kept_table.proofs.Listed.{rows_found, rows_missed}
use Rattle.text_chains.specs.Chains.{places_of}
use Rattle.batch_model.specs.Runs.{is_present, is_main}
use Rattle.batch_model.specs.Variants.{RunRow}
use Rattle.run_index.specs.Attempts.{present_text}
use Rattle.run_index.proofs.LowestPlaces.{lowest_covered}
use Rattle.run_index.proofs.RunPlaces.{main_passing}
use Rattle.run_index.proofs.runs_of_attempts.RunsOfAttempts.main_run.Goals as goal

pub returns-in-None : goal.returns-in-None
returns-in-None c =
    let slots = c.args.tables.now.run_slots in
    let task = c.args.task.now in
    let test : RunRow → Bool = λ run. is_present task run && is_main run.kind in
    let place = lowest_covered test slots (places_of c.args.self.now (present_text task)) (main_passing c.args.self.now slots task c.requires) in
    let none : place_of test slots ≡ None = sym place ∙ sym c.main_place.ensures ∙ c.in-None.is in
    sym (rows_missed test slots none) ∙ ap (find test) c.places_known.ensures.runs

pub returns-in-Some : goal.returns-in-Some
returns-in-Some c =
    let slots = c.args.tables.now.run_slots in
    let task = c.args.task.now in
    let test : RunRow → Bool = λ run. is_present task run && is_main run.kind in
    let place = lowest_covered test slots (places_of c.args.self.now (present_text task)) (main_passing c.args.self.now slots task c.requires) in
    let some : place_of test slots ≡ Some c.in-Some.place = sym place ∙ sym c.main_place.ensures ∙ c.in-Some.is in
    c.run_at.ensures ∙ sym (rows_found test slots c.in-Some.place some) ∙ ap (find test) c.places_known.ensures.runs
