use Rattle.std.proofs.Common.{ℕ, ◌+◌, ap, ◌∙◌}
use Rattle.run_index.specs.Held.{SumsView, kept_sum, run_held, is_owned}
use Rattle.run_index.proofs.held_slots.HeldSlots.hold.Goals as goal

pub returns-clause-sums : goal.returns-clause-sums
returns-clause-sums c = λ node.
    let owned = is_owned c.args.tables.now.state.tasks in
    c.add_if.ensures.sums owned node c.is_owned.ensures
    ∙ ap (λ (n : ℕ). n + run_held owned node c.args.run.now) (c.add_node.ensures.sums node ∙ ap (λ (v : SumsView). kept_sum v node) c.self.view_is)
