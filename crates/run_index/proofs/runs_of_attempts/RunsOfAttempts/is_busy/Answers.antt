use Rattle.std.proofs.Common.{ap, ◌∙◌, rules}
use Rattle.std.specs.List.{list_any}
use Rattle.std.proofs.lemmas.Iterator.Consumers.{YieldsList-from_first}
use Rattle.std.proofs.lemmas.Iterator.Search.{any_from_yields_List}
use Rattle.kept_table.specs.Slots.{slot_at, holds}
use Rattle.text_chains.specs.Chains.{ChainsView, places_of}
use Rattle.text_chains.proofs.Covered.{any_covered}
use Rattle.batch_model.specs.Runs.{is_busy_for}
use Rattle.run_index.specs.Attempts.{present_text}
use Rattle.run_index.proofs.RunPlaces.{busy_passing}
use Rattle.run_index.proofs.runs_of_attempts.RunsOfAttempts.is_busy.Goals as goal

pub returns : goal.returns
returns c =
    let tables = c.args.tables.now in
    let task = c.args.task.now in
    let places = places_of c.args.self.now (present_text task) in
    any_from_yields_List (λ place. holds (is_busy_for task) (slot_at tables.run_slots place)) _ _ c.any.result c.any.ensures.ran
    (YieldsList-from_first (λ place. place) (λ rest. rest) places
    (c.places.ensures ∙ ap (λ (v : ChainsView). places_of v c.as_slice.result.now) c.self.view_is ∙ ap (places_of c.args.self.now) (c.as_slice.ensures.bytes ∙ c.present-text.ensures)))
    (λ x b q called. search rules)
    ∙ any_covered (is_busy_for task) tables.run_slots places (busy_passing c.args.self.now tables.run_slots task c.requires)
    ∙ ap (list_any (is_busy_for task)) c.places_known.ensures.runs
