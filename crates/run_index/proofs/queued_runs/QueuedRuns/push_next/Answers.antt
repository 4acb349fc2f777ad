use Rattle.std.proofs.Common.{◌≡◌, Option, List, ℕ, [], ◌∷◌, ◌++◌, take, refl, sym, ap, subst, ◌∙◌}
use Rattle.first_tree.specs.Ranks.{Ranks}
use Rattle.kept_table.specs.Slots.{slot_at}
use Rattle.batch_model.specs.Variants.{RunRow}
use Rattle.run_index.specs.Queued.{AreQueued, queued_rank_at}
use Rattle.run_index.proofs.NextPlaces.{at_next}
use Rattle.run_index.proofs.QueuedRanks.{queued_push}
use Rattle.run_index.proofs.queued_runs.QueuedRuns.push_next.Goals as goal

pub returns : goal.returns
returns c = λ queued.
    let slots = c.args.tables.now.run_slots in
    let place = c.args.place in
    let old = c.args.self.now.items in
    let items : c.push.new.self.items ≡ old ++ queued_rank_at (slot_at slots place) ∷ [] =
    c.push.ensures.items ∙ ap (λ (r : Ranks). r.items ++ c.queued_rank_at.result ∷ []) c.self.view_is
    ∙ ap (λ (n : ℕ). old ++ n ∷ []) c.queued_rank_at.ensures in
    at_next (λ (ss : List (Option RunRow)). AreQueued ss c.push.new.self.items) slots place (slot_at slots place) c.requires.place refl
    (subst (AreQueued (take place slots ++ slot_at slots place ∷ [])) (sym items) (queued_push (take place slots) old (slot_at slots place) queued))
