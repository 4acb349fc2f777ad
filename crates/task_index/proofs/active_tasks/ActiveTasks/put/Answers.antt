use Rattle.std.proofs.Common.{◌≡◌, Option, List, ℕ, [], ◌∷◌, ◌++◌, Some, None, sym, ap, subst, ◌∙◌}
use Rattle.kept_table.specs.Slots.{put_at}
use Rattle.ranked_groups.specs.Items.{GroupsView, set_rank}
use Rattle.task_index.specs.Active.{AreItemsOf, active_rank, active_item}
use Rattle.task_index.proofs.ActiveItems.{items_put}
use Rattle.task_index.proofs.active_tasks.ActiveTasks.put.Goals as goal

pub returns-in-None-clause-items : goal.returns-in-None-clause-items
returns-in-None-clause-items c = λ slots before h.
    let task = c.args.task.now in
    let rank = c.active_rank.result in
    let old = c.args.self.now.items in
    let items : c.push.new.self.items ≡ old ++ active_item task ∷ [] =
    c.push.ensures.items
    ∙ ap (λ (v : GroupsView). v.items ++ record { group = c.as_slice.result.now; rank = rank } ∷ []) c.self.view_is
    ∙ ap (λ (g : List ℕ). old ++ record { group = g; rank = rank } ∷ []) (c.as_slice.ensures.bytes ∙ c.group_of-group.ensures)
    ∙ ap (λ (n : ℕ). old ++ record (active_item task) { rank = n } ∷ []) c.active_rank.ensures in
    subst (λ (b : Option ℕ). AreItemsOf (put_at b task slots) c.push.new.self.items) (sym c.in-None.is)
    (subst (AreItemsOf (slots ++ Some task ∷ [])) (sym items) (items_put None slots old task (sym c.in-None.is ∙ before) h))

pub returns-in-Some-clause-items : goal.returns-in-Some-clause-items
returns-in-Some-clause-items c = λ slots before h.
    let task = c.args.task.now in
    let place = c.in-Some.place in
    let old = c.args.self.now.items in
    let items : c.set.new.self.items ≡ set_rank old place (active_rank task) =
    ap (λ (v : GroupsView). v.items) c.set.ensures ∙ ap (λ (v : GroupsView). set_rank v.items place c.active_rank-in-Some.result) c.self.view_is
    ∙ ap (set_rank old place) c.active_rank-in-Some.ensures in
    subst (λ (b : Option ℕ). AreItemsOf (put_at b task slots) c.set.new.self.items) (sym c.in-Some.is)
    (subst (AreItemsOf (put_at (Some place) task slots)) (sym items) (items_put (Some place) slots old task (sym c.in-Some.is ∙ before) h))
