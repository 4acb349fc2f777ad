use Rattle.first_tree.specs.Blocks.{IsLeastIn}
use Rattle.first_tree.proofs.blocks.least_in.Given as goal

abbrev pub invariant-loop-at : goal.invariant-loop-at
invariant-loop-at l = IsLeastIn l.ranks l.from l.at l.least
