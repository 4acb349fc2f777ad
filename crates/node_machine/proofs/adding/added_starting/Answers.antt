use Rattle.std.proofs.Common.{◌≡◌, ◌+◌, ◌∷◌, [], ◌∙◌, ap, refl, sym}
use Rattle.bt_rows.specs.declared.tables.Change.TheVariants.{PutNode, PutRun, Counters}
use Rattle.bt_rows.specs.Changes.{apply_changes}
use Rattle.batch_model.specs.Dues.{new_node, begin_start, node_added}
use Rattle.batch_model.specs.Rows.{add_node_row}
use Rattle.batch_model.specs.Runs.{start_run}
use Rattle.machine_plans.proofs.DuePlans.{of_step}
use Rattle.machine_plans.proofs.DuePuts.{node_and_run_put}
use Rattle.node_machine.proofs.adding.added_starting.Goals as goal

pub returns : goal.returns
returns c =
    let s = c.args.tables.now.state in
    let start = c.args.start.now in
    let seated = new_node s c.args.pool.now c.args.seat in
    let nodes = c.next_node.result + 1 in
    let runs = c.next_run.result + 1 in
    let run : c.in_ok-run.run' ≡ start_run s seated start =
    c.in_ok-run.ensures ∙ ap (λ node. start_run s node start) (c.get.ensures ∙ c.in_ok-node.ensures) in
    of_step c.step_three.result c.in_ok-due.due
    (PutNode c.in_ok-node.node ∷ PutRun c.in_ok-run.run' ∷ Counters nodes runs ∷ []) s
    (node_added s c.args.seat c.args.pool.now) c.step_three.ensures.reply c.step_three.ensures.changes
    c.in_ok-due.ensures
    (ap (λ node. apply_changes (PutNode node ∷ PutRun c.in_ok-run.run' ∷ Counters nodes runs ∷ []) s) c.in_ok-node.ensures
    ∙ (ap (λ row. apply_changes (PutNode seated ∷ PutRun row ∷ Counters nodes runs ∷ []) s) run
    ∙ (node_and_run_put s seated (start_run s seated start) nodes runs c.requires.numbers refl refl (ap (λ n. n + 1) c.next_node.ensures) (ap (λ n. n + 1) c.next_run.ensures)
    ∙ ap (λ o. begin_start o seated (add_node_row seated s)) (sym c.requires.start))))
