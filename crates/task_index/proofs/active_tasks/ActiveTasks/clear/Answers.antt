use Rattle.std.proofs.Common.{◌≡◌, None, set, sym, ap, subst, ◌∙◌}
use Rattle.first_tree.specs.Ranks.{no_rank}
use Rattle.ranked_groups.specs.Items.{GroupsView, set_rank}
use Rattle.task_index.specs.Active.{AreItemsOf}
use Rattle.task_index.proofs.ActiveItems.{items_clear}
use Rattle.task_index.proofs.active_tasks.ActiveTasks.clear.Goals as goal

pub returns-clause-items : goal.returns-clause-items
returns-clause-items c = λ slots h.
    let place = c.args.place in
    let items : c.set.new.self.items ≡ set_rank c.args.self.now.items place no_rank =
    ap (λ (v : GroupsView). v.items) c.set.ensures ∙ ap (λ (v : GroupsView). set_rank v.items place no_rank) c.self.view_is in
    subst (AreItemsOf (set slots place None)) (sym items) (items_clear slots c.args.self.now.items place h)
