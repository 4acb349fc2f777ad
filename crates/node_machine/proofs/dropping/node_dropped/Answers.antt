use Rattle.std.proofs.Common.{Ok, refl, ◌∙◌}
use Rattle.bt_rows.specs.declared.due.Due.TheVariants.{NodeDropped}
use Rattle.bt_rows.specs.declared.reply.Reply.TheVariants.{Step}
use Rattle.batch_model.specs.Dues.{node_dropped}
use Rattle.machine_plans.proofs.DuePlans.{of_step}
use Rattle.node_machine.specs.Drops.{drop_changes}
use Rattle.node_machine.proofs.NodeDrops.{dropped}
use Rattle.node_machine.proofs.dropping.node_dropped.Goals as goal

pub returns : goal.returns
returns c =
    let s = c.args.tables.now.state in
    let node = c.args.node.now in
    of_step (Ok (record { reply = Step (NodeDropped node.number); changes = c.of_vec.result })) (NodeDropped node.number) (drop_changes node.number s) s
    (node_dropped s node) refl (c.of_vec.ensures ∙ c.in_ok-changes.ensures) refl (dropped node s c.requires)
