use Rattle.first_tree.proofs.nodes.+first_from.Given as goal

abbrev pub decreases-first_from : goal.decreases-first_from
decreases-first_from l = l.width
