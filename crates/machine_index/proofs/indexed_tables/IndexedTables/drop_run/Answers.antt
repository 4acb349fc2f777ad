use Rattle.std.proofs.Common.{◌≡◌, List, Option, None, ℕ, length, refl, sym, ap, subst, ◌∙◌, rules}
use Rattle.std.specs.Option.{unwrap_or}
use Rattle.kept_table.specs.Slots.{slot_at, rows, clear_at}
use Rattle.bt_rows.specs.Keys.{run_has_number}
use Rattle.batch_model.specs.Variants.{TaskRow, RunRow}
use Rattle.run_index.specs.Attempts.{HasRuns, run_attempt_text}
use Rattle.task_index.specs.Active.{AreItemsOf}
use Rattle.task_index.specs.Timed.{AreTimed}
use Rattle.run_index.specs.Queued.{AreQueued}
use Rattle.run_index.specs.Asked.{AreAsked}
use Rattle.task_index.specs.Numbered.{HasNumbered}
use Rattle.run_index.specs.Nodes.{HasNodeRuns}
use Rattle.machine_index.proofs.IndexedSteps.{within_queued, within_asked, within_named, over_after, clear_step, held_cleared}
use Rattle.run_index.proofs.TextPlaces.{row_cleared}
use Rattle.run_index.proofs.NodePlaces.{node_cleared}
use Rattle.machine_index.proofs.indexed_tables.IndexedTables.drop_run.Goals as goal

pub clear-requires : goal.clear-requires
clear-requires c =
    let s = c.self.inside in
    within_queued (run_has_number c.args.number) c.run_place-before.result s.tables.run_slots s.queued.items c.run_place-before.ensures
    c.self.invariant.0.queued

pub clear-requires-2 : goal.clear-requires-2
clear-requires-2 c =
    let s = c.self.inside in
    within_asked (run_has_number c.args.number) c.run_place-before.result s.tables.run_slots s.asked.items c.run_place-before.ensures
    c.self.invariant.0.asked

pub refresh-requires-clause-runs : goal.refresh-requires-clause-runs
refresh-requires-clause-runs c =
    let s = c.self.inside in
    let slots = s.tables.run_slots in
    let before = c.run_place-before.result in
    let placed : c.apply_one.new.self.run_slots ≡ clear_at before slots =
    c.apply_one.ensures.runs ∙ sym (ap (λ (p : Option ℕ). clear_at p slots) c.run_place-before.ensures) in
    subst (HasRuns s.runs) (sym placed) (row_cleared run_attempt_text s.runs slots before c.self.invariant.0.runs)

pub refresh-requires-clause-place : goal.refresh-requires-clause-place
refresh-requires-clause-place c =
    let s = c.self.inside in
    within_named (slot_at s.tables.run_slots c.unwrap_or-place.result) c.task_of_run_at-old_task.result s.tables.task_slots s.over.items c.task_of_run_at-old_task.ensures
    c.self.invariant.0.over.long

pub invariant_of-self : goal.invariant_of-self
invariant_of-self c =
    let s = c.self.inside in
    let t = s.tables in
    let old = c.self.invariant.0 in
    let before = c.run_place-before.result in
    let new = c.apply_one.new.self in
    let place : c.unwrap_or-place.result ≡ unwrap_or before (length t.run_slots) = c.unwrap_or-place.ensures ∙ ap (unwrap_or before) c.run_place_count.ensures in
    let placed : new.run_slots ≡ clear_at before t.run_slots =
    c.apply_one.ensures.runs ∙ sym (ap (λ (p : Option ℕ). clear_at p t.run_slots) c.run_place-before.ensures) in (
      record {
        runs = subst (HasRuns s.runs) (sym placed) (row_cleared run_attempt_text s.runs t.run_slots before old.runs);
        active = subst (λ (ts : List (Option TaskRow)). AreItemsOf ts s.active.items) (sym c.apply_one.ensures.tasks) old.active;
        over =
            over_after (slot_at t.run_slots c.unwrap_or-place.result) None t.run_slots new.run_slots t.task_slots new.task_slots new.state.runs c.task_of_run_at-old_task.result None s.over.items
            c.refresh.new.self.items c.refresh.new.self.items c.keys_known.ensures.tasks (clear_step before c.unwrap_or-place.result t.run_slots new.run_slots place placed) c.apply_one.ensures.tasks
            (sym c.places_known-2.ensures.runs) c.task_of_run_at-old_task.ensures refl c.refresh.ensures.items refl old.over;
        held =
            held_cleared c.release_run.new.self before t.state.tasks (rows new.task_slots) t.run_slots new.run_slots c.unwrap_or-place.result
            (ap rows c.apply_one.ensures.tasks ∙ c.places_known.ensures.tasks) placed place c.release_run.ensures.held;
        timed = subst (λ (ts : List (Option TaskRow)). AreTimed ts s.timed.items) (sym c.apply_one.ensures.tasks) old.timed;
        queued = subst (λ (ss : List (Option RunRow)). AreQueued ss c.clear.new.self.items) (sym placed) (c.clear.ensures.ranks t.run_slots old.queued);
        asked = subst (λ (ss : List (Option RunRow)). AreAsked ss c.clear-2.new.self.items) (sym placed) (c.clear-2.ensures.ranks t.run_slots old.asked);
        numbered = subst (λ (ts : List (Option TaskRow)). HasNumbered s.numbered ts) (sym c.apply_one.ensures.tasks) old.numbered;
        on_nodes = subst (HasNodeRuns s.nodes) (sym placed) (node_cleared s.nodes t.run_slots before old.on_nodes);
      },
      search rules,
    )
