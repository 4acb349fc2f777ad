use Rattle.std.proofs.Common.{◌≡◌, List, Option, Some, ℕ, length, sym, ap, subst, ◌∙◌, rules}
use Rattle.std.specs.Option.{unwrap_or}
use Rattle.kept_table.specs.Slots.{place_of, slot_at, rows, put_at}
use Rattle.bt_rows.specs.Keys.{run_has_number}
use Rattle.batch_model.specs.Variants.{TaskRow, RunRow}
use Rattle.run_index.specs.Attempts.{HasRuns}
use Rattle.run_index.specs.Held.{HasHeld}
use Rattle.task_index.specs.Active.{AreItemsOf}
use Rattle.task_index.specs.Timed.{AreTimed}
use Rattle.run_index.specs.Queued.{AreQueued}
use Rattle.run_index.specs.Asked.{AreAsked}
use Rattle.task_index.specs.Numbered.{HasNumbered}
use Rattle.run_index.specs.Nodes.{HasNodeRuns}
use Rattle.machine_index.proofs.IndexedSteps.{within_queued, within_asked, within_named, within_again, over_after, put_step, held_beside_run}
use Rattle.machine_index.proofs.indexed_tables.IndexedTables.put_run.Goals as goal

pub put-requires-clause-place : goal.put-requires-clause-place
put-requires-clause-place c =
    let s = c.self.inside in
    within_queued (run_has_number c.get-row.result.now.number) c.run_place-before.result s.tables.run_slots s.queued.items c.run_place-before.ensures
    c.self.invariant.0.queued

pub put-requires-2-clause-place : goal.put-requires-2-clause-place
put-requires-2-clause-place c =
    let s = c.self.inside in
    within_asked (run_has_number c.get-row.result.now.number) c.run_place-before.result s.tables.run_slots s.asked.items c.run_place-before.ensures
    c.self.invariant.0.asked

pub hold_run-requires-clause-held : goal.hold_run-requires-clause-held
hold_run-requires-clause-held c =
    let t = c.self.inside.tables in
    let before = c.run_place-before.result in
    let new = c.apply_one.new.self in
    let place : c.unwrap_or-place.result ≡ unwrap_or before (length t.run_slots) = c.unwrap_or-place.ensures ∙ ap (unwrap_or before) c.run_place_count.ensures in
    let found : before ≡ place_of (run_has_number c.args.run.number) t.run_slots =
    c.run_place-before.ensures ∙ ap (λ (row : RunRow). place_of (run_has_number row.number) t.run_slots) c.get-row.ensures in
    let placed : new.run_slots ≡ put_at before c.args.run t.run_slots =
    c.apply_one.ensures.runs ∙ sym (ap (λ (p : Option ℕ). put_at p c.args.run t.run_slots) found) in
    held_beside_run c.release_run.new.self before t.state.tasks new.state.tasks t.run_slots new.run_slots c.unwrap_or-place.result c.args.run
    (sym c.places_known-2.ensures.tasks ∙ ap rows c.apply_one.ensures.tasks ∙ c.places_known.ensures.tasks) placed place c.release_run.ensures.held

pub refresh-requires-clause-place : goal.refresh-requires-clause-place
refresh-requires-clause-place c =
    let s = c.self.inside in
    within_named (slot_at s.tables.run_slots c.unwrap_or-place.result) c.task_of_run_at-old_task.result s.tables.task_slots s.over.items c.task_of_run_at-old_task.ensures
    c.self.invariant.0.over.long

pub refresh-requires-2-clause-place : goal.refresh-requires-2-clause-place
refresh-requires-2-clause-place c =
    let s = c.self.inside in
    let new = c.apply_one.new.self in
    within_again (Some c.get-row.result.now) c.place_of_run-new_task.result c.task_of_run_at-old_task.result s.tables.task_slots new.task_slots new.state.runs s.over.items c.refresh.new.self.items
    c.place_of_run-new_task.ensures c.refresh.ensures.items c.self.invariant.0.over.long

pub refresh-requires-clause-runs : goal.refresh-requires-clause-runs
refresh-requires-clause-runs c =
    let t = c.self.inside.tables in
    let before = c.run_place-before.result in
    let new = c.apply_one.new.self in
    let place : c.unwrap_or-place.result ≡ unwrap_or before (length t.run_slots) = c.unwrap_or-place.ensures ∙ ap (unwrap_or before) c.run_place_count.ensures in
    let found : before ≡ place_of (run_has_number c.args.run.number) t.run_slots =
    c.run_place-before.ensures ∙ ap (λ (row : RunRow). place_of (run_has_number row.number) t.run_slots) c.get-row.ensures in
    let placed : new.run_slots ≡ put_at before c.get-row.result.now t.run_slots =
    c.apply_one.ensures.runs ∙ sym (ap (λ (p : Option ℕ). put_at p c.args.run t.run_slots) found)
    ∙ ap (λ (row : RunRow). put_at before row t.run_slots) (sym c.get-row.ensures) in
    subst (HasRuns c.add.new.self) (sym placed) (c.add.ensures.runs t.run_slots before place c.self.invariant.0.runs)

pub refresh-requires-2-clause-runs : goal.refresh-requires-2-clause-runs
refresh-requires-2-clause-runs c =
    let t = c.self.inside.tables in
    let before = c.run_place-before.result in
    let new = c.apply_one.new.self in
    let place : c.unwrap_or-place.result ≡ unwrap_or before (length t.run_slots) = c.unwrap_or-place.ensures ∙ ap (unwrap_or before) c.run_place_count.ensures in
    let found : before ≡ place_of (run_has_number c.args.run.number) t.run_slots =
    c.run_place-before.ensures ∙ ap (λ (row : RunRow). place_of (run_has_number row.number) t.run_slots) c.get-row.ensures in
    let placed : new.run_slots ≡ put_at before c.get-row.result.now t.run_slots =
    c.apply_one.ensures.runs ∙ sym (ap (λ (p : Option ℕ). put_at p c.args.run t.run_slots) found)
    ∙ ap (λ (row : RunRow). put_at before row t.run_slots) (sym c.get-row.ensures) in
    subst (HasRuns c.add.new.self) (sym placed) (c.add.ensures.runs t.run_slots before place c.self.invariant.0.runs)

pub invariant_of-self : goal.invariant_of-self
invariant_of-self c =
    let s = c.self.inside in
    let t = s.tables in
    let old = c.self.invariant.0 in
    let before = c.run_place-before.result in
    let new = c.apply_one.new.self in
    let place : c.unwrap_or-place.result ≡ unwrap_or before (length t.run_slots) = c.unwrap_or-place.ensures ∙ ap (unwrap_or before) c.run_place_count.ensures in
    let run = c.get-row.result.now in
    let found : before ≡ place_of (run_has_number c.args.run.number) t.run_slots =
    c.run_place-before.ensures ∙ ap (λ (row : RunRow). place_of (run_has_number row.number) t.run_slots) c.get-row.ensures in
    let placed : new.run_slots ≡ put_at before run t.run_slots =
    c.apply_one.ensures.runs ∙ sym (ap (λ (p : Option ℕ). put_at p c.args.run t.run_slots) found)
    ∙ ap (λ (row : RunRow). put_at before row t.run_slots) (sym c.get-row.ensures) in (
      record {
        runs = subst (HasRuns c.add.new.self) (sym placed) (c.add.ensures.runs t.run_slots before place old.runs);
        active = subst (λ (ts : List (Option TaskRow)). AreItemsOf ts s.active.items) (sym c.apply_one.ensures.tasks) old.active;
        over =
            over_after (slot_at t.run_slots c.unwrap_or-place.result) (Some run) t.run_slots new.run_slots t.task_slots new.task_slots new.state.runs c.task_of_run_at-old_task.result
            c.place_of_run-new_task.result s.over.items c.refresh.new.self.items c.refresh-2.new.self.items c.keys_known.ensures.tasks
            (put_step before c.unwrap_or-place.result t.run_slots new.run_slots run place placed) c.apply_one.ensures.tasks (sym c.places_known-2.ensures.runs)
            c.task_of_run_at-old_task.ensures c.place_of_run-new_task.ensures c.refresh.ensures.items c.refresh-2.ensures.items old.over;
        held =
            subst (λ (ts : List TaskRow). HasHeld c.hold_run.new.self ts new.run_slots) (sym c.places_known-2.ensures.tasks) c.hold_run.ensures.held;
        timed = subst (λ (ts : List (Option TaskRow)). AreTimed ts s.timed.items) (sym c.apply_one.ensures.tasks) old.timed;
        queued = subst (λ (ss : List (Option RunRow)). AreQueued ss c.put.new.self.items) (sym placed) (c.put.ensures.ranks t.run_slots old.queued);
        asked = subst (λ (ss : List (Option RunRow)). AreAsked ss c.put-2.new.self.items) (sym placed) (c.put-2.ensures.ranks t.run_slots old.asked);
        numbered = subst (λ (ts : List (Option TaskRow)). HasNumbered s.numbered ts) (sym c.apply_one.ensures.tasks) old.numbered;
        on_nodes = subst (HasNodeRuns c.put-3.new.self) (sym placed) (c.put-3.ensures.runs before place old.on_nodes);
      },
      search rules,
    )
