use Rattle.std.proofs.Common.{◌≡◌, Option, ℕ, length, sym, ap, ◌∙◌, rules}
use Rattle.std.specs.Option.{unwrap_or}
use Rattle.kept_table.specs.Slots.{rows, clear_at}
use Rattle.bt_rows.specs.Keys.{task_has_ids}
use Rattle.task_index.specs.Numbered.{number_text_of}
use Rattle.machine_index.proofs.IndexedSteps.{within_active, within_over, within_timed, held_without, indexed_at}
use Rattle.run_index.proofs.TextPlaces.{row_cleared}
use Rattle.machine_index.proofs.indexed_tables.IndexedTables.drop_task.Goals as goal

pub clear_active-requires : goal.clear_active-requires
clear_active-requires c =
    let s = c.self.inside in
    within_active (task_has_ids c.args.key.job c.args.key.id) c.task_place-before.result s.tables.task_slots s.active c.task_place-before.ensures c.self.invariant.0.active

pub clear_over-requires : goal.clear_over-requires
clear_over-requires c =
    let s = c.self.inside in
    within_over (task_has_ids c.args.key.job c.args.key.id) c.task_place-before.result s.tables.task_slots s.over.items c.task_place-before.ensures c.self.invariant.0.over.long

pub clear_timed-requires : goal.clear_timed-requires
clear_timed-requires c =
    let s = c.self.inside in
    within_timed (task_has_ids c.args.key.job c.args.key.id) c.task_place-before.result s.tables.task_slots s.timed.items c.task_place-before.ensures c.self.invariant.0.timed

pub invariant_of-self : goal.invariant_of-self
invariant_of-self c =
    let s = c.self.inside in
    let t = s.tables in
    let old = c.self.invariant.0 in
    let before = c.task_place-before.result in
    let new = c.apply_one.new.self in
    let place : c.unwrap_or-place.result ≡ unwrap_or before (length t.task_slots) = c.unwrap_or-place.ensures ∙ ap (unwrap_or before) c.task_place_count.ensures in
    let placed : new.task_slots ≡ clear_at before t.task_slots =
    c.apply_one.ensures.tasks ∙ sym (ap (λ (p : Option ℕ). clear_at p t.task_slots) c.task_place-before.ensures) in (
      indexed_at (clear_at before t.task_slots) new.task_slots t.run_slots new.run_slots s.runs c.clear_active.new.active c.clear_over.new.over c.release_task.new.self
          c.clear_timed.new.timed s.queued s.asked s.numbered s.nodes placed
          c.apply_one.ensures.runs old.runs (c.clear_active.ensures.items t.task_slots old.active) (c.clear_over.ensures.ranks (rows t.run_slots) t.task_slots old.over)
          (held_without c.release_task.new.self before t.task_slots t.run_slots c.unwrap_or-place.result place c.release_task.ensures.held)
          (c.clear_timed.ensures.ranks t.task_slots old.timed) old.queued old.asked
          (row_cleared number_text_of s.numbered t.task_slots before old.numbered) old.on_nodes,
      search rules,
    )
