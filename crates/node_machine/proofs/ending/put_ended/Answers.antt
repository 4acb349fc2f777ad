use Rattle.std.proofs.Common.{sym}
use Rattle.node_machine.proofs.OnNodes.{on_node}
use Rattle.node_machine.proofs.ending.put_ended.Goals as goal

pub put_end_on-requires : goal.put_end_on-requires
put_end_on-requires c =
    on_node c.args.view.now.seats c.args.view.now.tables.now.state c.args.run.now c.in-Some.node.now c.requires.sound c.requires.there (sym c.in-Some.ensures)
