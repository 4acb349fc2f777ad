use Rattle.std.proofs.Common.{◌≡◌, drop}
use Rattle.child_runs.specs.Memory.{ending_of}
use Rattle.child_runs.proofs.endings.ending_of.Given as goal

abbrev pub invariant-loop-ending : goal.invariant-loop-ending
invariant-loop-ending l = ending_of l.endings l.number ≡ ending_of (drop l.ending-index l.endings) l.number
