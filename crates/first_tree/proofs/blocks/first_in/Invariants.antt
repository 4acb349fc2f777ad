use Rattle.first_tree.specs.Blocks.{NoneWithin}
use Rattle.first_tree.proofs.blocks.first_in.Given as goal

abbrev pub invariant-loop-at : goal.invariant-loop-at
invariant-loop-at l = NoneWithin l.ranks l.from l.at l.bound
