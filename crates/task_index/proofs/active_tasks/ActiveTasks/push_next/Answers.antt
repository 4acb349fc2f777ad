use Rattle.std.proofs.Common.{◌≡◌, Option, List, ℕ, [], ◌∷◌, ◌++◌, Some, None, take, sym, ap, subst, ◌∙◌}
use Rattle.first_tree.specs.Ranks.{no_rank}
use Rattle.ranked_groups.specs.Items.{GroupsView}
use Rattle.batch_model.specs.Variants.{TaskRow}
use Rattle.task_index.specs.Active.{AreItemsOf, active_item}
use Rattle.run_index.proofs.NextPlaces.{at_next}
use Rattle.task_index.proofs.ActiveItems.{items_none_next, items_push}
use Rattle.task_index.proofs.active_tasks.ActiveTasks.push_next.Goals as goal

pub returns-in-None : goal.returns-in-None
returns-in-None c = λ h.
    let slots = c.args.tables.now.task_slots in
    let place = c.args.place in
    let old = c.args.self.now.items in
    let items : c.push.new.self.items ≡ old ++ record { group = []; rank = no_rank } ∷ [] =
    c.push.ensures.items ∙ ap (λ (v : GroupsView). v.items ++ record { group = []; rank = no_rank } ∷ []) c.self.view_is in
    at_next (λ (ss : List (Option TaskRow)). AreItemsOf ss c.push.new.self.items) slots place None c.requires.place c.in-None.ensures
    (subst (AreItemsOf (take place slots ++ None ∷ [])) (sym items) (items_none_next (take place slots) old [] h))

pub returns-in-Some : goal.returns-in-Some
returns-in-Some c = λ h.
    let slots = c.args.tables.now.task_slots in
    let place = c.args.place in
    let task = c.in-Some.task.now in
    let rank = c.active_rank.result in
    let old = c.args.self.now.items in
    let items : c.push-in-Some.new.self.items ≡ old ++ active_item task ∷ [] =
    c.push-in-Some.ensures.items
    ∙ ap (λ (v : GroupsView). v.items ++ record { group = c.as_slice.result.now; rank = rank } ∷ []) c.self.view_is
    ∙ ap (λ (g : List ℕ). old ++ record { group = g; rank = rank } ∷ []) (c.as_slice.ensures.bytes ∙ c.group_of-group.ensures)
    ∙ ap (λ (n : ℕ). old ++ record (active_item task) { rank = n } ∷ []) c.active_rank.ensures in
    at_next (λ (ss : List (Option TaskRow)). AreItemsOf ss c.push-in-Some.new.self.items) slots place (Some task) c.requires.place c.in-Some.ensures
    (subst (AreItemsOf (take place slots ++ Some task ∷ [])) (sym items) (items_push (take place slots) old task h))
