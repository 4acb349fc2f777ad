use Rattle.std.proofs.Common.{◌≡◌, List, Option, ℕ, length, sym, ap, subst, ◌∙◌, rules}
use Rattle.std.specs.Option.{unwrap_or}
use Rattle.kept_table.specs.Slots.{place_of, rows, put_at}
use Rattle.bt_rows.specs.Keys.{task_has_ids}
use Rattle.bt_rows.specs.Changes.{apply_change}
use Rattle.bt_rows.specs.declared.tables.Change.TheVariants.{PutTask}
use Rattle.batch_model.specs.Variants.{TaskRow, RunRow}
use Rattle.run_index.specs.Held.{HasHeld}
use Rattle.machine_index.specs.Indexed.{IndexedView}
use Rattle.task_index.specs.Over.{AreOver}
use Rattle.machine_index.proofs.IndexedSteps.{within_active, within_over, within_timed, held_beside, indexed_at}
use Rattle.machine_index.proofs.indexed_tables.IndexedTables.put_task.Goals as goal

pub put-requires-clause-place : goal.put-requires-clause-place
put-requires-clause-place c =
    let s = c.self.inside in
    within_active (task_has_ids c.get-row.result.now.job c.get-row.result.now.id) c.place_of_row-before.result s.tables.task_slots s.active c.place_of_row-before.ensures c.self.invariant.0.active

pub put-requires-2-clause-place : goal.put-requires-2-clause-place
put-requires-2-clause-place c =
    let s = c.self.inside in
    within_over (task_has_ids c.get-row.result.now.job c.get-row.result.now.id) c.place_of_row-before.result s.tables.task_slots s.over.items c.place_of_row-before.ensures c.self.invariant.0.over.long

pub put-requires-3-clause-place : goal.put-requires-3-clause-place
put-requires-3-clause-place c =
    let s = c.self.inside in
    within_timed (task_has_ids c.get-row.result.now.job c.get-row.result.now.id) c.place_of_row-before.result s.tables.task_slots s.timed.items c.place_of_row-before.ensures c.self.invariant.0.timed

pub hold_task-requires-clause-held : goal.hold_task-requires-clause-held
hold_task-requires-clause-held c =
    let t = c.self.inside.tables in
    let before = c.place_of_row-before.result in
    let new = c.apply_one.new.self in
    let place : c.unwrap_or-place.result ≡ unwrap_or before (length t.task_slots) = c.unwrap_or-place.ensures ∙ ap (unwrap_or before) c.task_place_count.ensures in
    let found : before ≡ place_of (task_has_ids c.args.task.job c.args.task.id) t.task_slots =
    c.place_of_row-before.ensures ∙ ap (λ (row : TaskRow). place_of (task_has_ids row.job row.id) t.task_slots) c.get-row.ensures in
    let placed : new.task_slots ≡ put_at before c.args.task t.task_slots =
    c.apply_one.ensures.tasks ∙ sym (ap (λ (p : Option ℕ). put_at p c.args.task t.task_slots) found) in
    held_beside c.release_task.new.self before t.task_slots new.task_slots t.run_slots new.run_slots c.unwrap_or-place.result c.args.task placed c.apply_one.ensures.runs place
    c.release_task.ensures.held

pub invariant_of-self : goal.invariant_of-self
invariant_of-self c =
    let s = c.self.inside in
    let t = s.tables in
    let old = c.self.invariant.0 in
    let before = c.place_of_row-before.result in
    let new = c.apply_one.new.self in
    let task = c.get-row.result.now in
    let all : List (Option TaskRow) = put_at before task t.task_slots in
    let place : c.unwrap_or-place.result ≡ unwrap_or before (length t.task_slots) = c.unwrap_or-place.ensures ∙ ap (unwrap_or before) c.task_place_count.ensures in
    let found : before ≡ place_of (task_has_ids c.args.task.job c.args.task.id) t.task_slots =
    c.place_of_row-before.ensures ∙ ap (λ (row : TaskRow). place_of (task_has_ids row.job row.id) t.task_slots) c.get-row.ensures in
    let placed : new.task_slots ≡ all =
    c.apply_one.ensures.tasks ∙ sym (ap (λ (p : Option ℕ). put_at p c.args.task t.task_slots) found)
    ∙ ap (λ (row : TaskRow). put_at before row t.task_slots) (sym c.get-row.ensures) in
    let over : AreOver (rows t.run_slots) all c.put-2.new.self.items =
    subst (λ (rs : List RunRow). AreOver rs all c.put-2.new.self.items) (sym c.places_known.ensures.runs)
    (c.put-2.ensures.ranks t.task_slots (subst (λ (rs : List RunRow). AreOver rs t.task_slots s.over.items) c.places_known.ensures.runs old.over)) in
    let held : HasHeld c.hold_task.new.self (rows all) t.run_slots =
    subst (λ (ss : List (Option RunRow)). HasHeld c.hold_task.new.self (rows all) ss) c.apply_one.ensures.runs
    (subst (λ (ts : List (Option TaskRow)). HasHeld c.hold_task.new.self (rows ts) new.run_slots) placed c.hold_task.ensures.held) in (
      indexed_at all new.task_slots t.run_slots new.run_slots s.runs c.put.new.self c.put-2.new.self c.hold_task.new.self c.put-3.new.self s.queued s.asked
          c.put-4.new.self s.nodes placed c.apply_one.ensures.runs old.runs
          (c.put.ensures.items t.task_slots c.place_of_row-before.ensures old.active) over held
          (c.put-3.ensures.ranks t.task_slots old.timed) old.queued old.asked (c.put-4.ensures.tasks t.task_slots before place old.numbered) old.on_nodes,
      search rules,
    )

pub returns-clause-state : goal.returns-clause-state
returns-clause-state c = c.apply_one.ensures.state ∙ ap (λ (v : IndexedView). apply_change (PutTask c.args.task) v.state) c.self.view_is
