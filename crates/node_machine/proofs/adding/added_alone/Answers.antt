use Rattle.std.proofs.Common.{◌+◌, ◌∷◌, [], ◌∙◌, ap, refl, sym}
use Rattle.bt_rows.specs.declared.tables.Change.TheVariants.{PutNode, Counters}
use Rattle.bt_rows.specs.Changes.{apply_changes}
use Rattle.batch_model.specs.Dues.{new_node, begin_start, node_added}
use Rattle.batch_model.specs.Rows.{add_node_row}
use Rattle.machine_plans.proofs.DuePlans.{of_step}
use Rattle.machine_plans.proofs.DuePuts.{node_put}
use Rattle.node_machine.proofs.adding.added_alone.Goals as goal

pub returns : goal.returns
returns c =
    let s = c.args.tables.now.state in
    let seated = new_node s c.args.pool.now c.args.seat in
    let after = c.next_node.result + 1 in
    of_step c.step_two.result c.in_ok-due.due
    (PutNode c.in_ok-node.node ∷ Counters after c.next_run.result ∷ []) s
    (node_added s c.args.seat c.args.pool.now) c.step_two.ensures.reply c.step_two.ensures.changes
    c.in_ok-due.ensures
    (ap (λ row. apply_changes (PutNode row ∷ Counters after c.next_run.result ∷ []) s) c.in_ok-node.ensures
    ∙ (node_put s seated after c.next_run.result c.requires.numbers refl (ap (λ number. number + 1) c.next_node.ensures) c.next_run.ensures
    ∙ ap (λ start. begin_start start seated (add_node_row seated s)) (sym c.requires.start)))
