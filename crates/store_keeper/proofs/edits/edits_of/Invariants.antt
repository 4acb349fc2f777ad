use Rattle.std.proofs.Common.{take}
use Rattle.store_keeper.specs.Edits.{AreEdits}
use Rattle.store_keeper.proofs.edits.edits_of.Given as goal

-- the edits so far are the changes before this one
abbrev pub invariant-loop-change : goal.invariant-loop-change
invariant-loop-change l = AreEdits (take l.change-index l.changes) l.edits.items
