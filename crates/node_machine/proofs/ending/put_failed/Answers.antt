use Rattle.std.proofs.Common.{[], ◌∷◌, refl, ◌∙◌}
use Rattle.bt_rows.specs.declared.tables.Change.TheVariants.{PutNode, PutRun}
use Rattle.batch_model.specs.Events.{accept}
use Rattle.batch_model.specs.Starts.{change_node, failed_node}
use Rattle.machine_plans.proofs.Moves.{moved_plan}
use Rattle.node_machine.specs.Endings.{with_end}
use Rattle.node_machine.proofs.StartPuts.{end_and_node}
use Rattle.node_machine.proofs.ending.put_failed.Goals as goal

pub returns : goal.returns
returns c =
    let s = c.args.tables.now.state in
    let run = c.args.run.now in
    let node = c.args.node.now in
    moved_plan c.accept_two.result c.args.now (accept 200 (change_node node failed_node (with_end c.args.now c.args.ending run s))) s
    (PutRun c.in_ok-ended.ended ∷ PutNode c.in_ok-failed.failed ∷ []) (λ refusal e. cc)
    c.accept_two.ensures.reply c.accept_two.ensures.changes
    (end_and_node s run c.requires.there c.args.now c.args.ending c.in_ok-ended.ended c.in_ok-failed.failed node failed_node (c.in_ok-ended.ensures ∙ c.in_ok-ended_run.ensures) (c.in_ok-failed.ensures ∙ c.in_ok-failed_node.ensures) (λ x. refl) c.requires.seated)
