use Rattle.std.proofs.Common.{◌≡◌, Some, None, List, ℕ, sym, ap, ◌∙◌, arith}
use Rattle.std.specs.List.{find}
use Rattle.kept_table.specs.Slots.{place_of}
use Rattle.kept_table.proofs.Listed.{rows_found, rows_missed}
use Rattle.kept_table.specs.Keys.{id_text}
use Rattle.ranked_groups.specs.Items.{GroupsView, first_of}
use Rattle.task_index.specs.Active.{is_active_within}
use Rattle.task_index.proofs.ActiveItems.{active_first}
use Rattle.task_index.proofs.active_tasks.ActiveTasks.first.Goals as goal

pub returns-in-None : goal.returns-in-None
returns-in-None c =
    let tables = c.args.tables.now in
    let job = c.args.job.now in
    let most = c.args.most in
    let test = is_active_within job most in
    let first = active_first job most tables.task_slots c.args.self.now.items (omega (arith, c.ranges.most)) c.requires in
    let asked : first_of c.as_slice.result.now c.from.result c.self.inside.groups.items ≡ first_of (id_text job) most c.args.self.now.items =
    ap (λ (t : List ℕ). first_of t c.from.result c.self.inside.groups.items) (c.as_slice.ensures.bytes ∙ c.of_id-group.ensures)
    ∙ ap (λ (n : ℕ). first_of (id_text job) n c.self.inside.groups.items) c.from.ensures
    ∙ ap (λ (v : GroupsView). first_of (id_text job) most v.items) c.self.view_is in
    let none : place_of test tables.task_slots ≡ None = sym first ∙ sym asked ∙ sym c.first.ensures ∙ c.in-None.is in
    sym (rows_missed test tables.task_slots none) ∙ ap (find test) c.places_known.ensures.tasks

pub returns-in-Some : goal.returns-in-Some
returns-in-Some c =
    let tables = c.args.tables.now in
    let job = c.args.job.now in
    let most = c.args.most in
    let test = is_active_within job most in
    let first = active_first job most tables.task_slots c.args.self.now.items (omega (arith, c.ranges.most)) c.requires in
    let asked : first_of c.as_slice.result.now c.from.result c.self.inside.groups.items ≡ first_of (id_text job) most c.args.self.now.items =
    ap (λ (t : List ℕ). first_of t c.from.result c.self.inside.groups.items) (c.as_slice.ensures.bytes ∙ c.of_id-group.ensures)
    ∙ ap (λ (n : ℕ). first_of (id_text job) n c.self.inside.groups.items) c.from.ensures
    ∙ ap (λ (v : GroupsView). first_of (id_text job) most v.items) c.self.view_is in
    let some : place_of test tables.task_slots ≡ Some c.in-Some.place = sym first ∙ sym asked ∙ sym c.first.ensures ∙ c.in-Some.is in
    c.task_at.ensures ∙ sym (rows_found test tables.task_slots c.in-Some.place some) ∙ ap (find test) c.places_known.ensures.tasks
