use Rattle.std.proofs.Common.{◌≡◌, drop}
use Rattle.batch_desk.specs.Entries.{faults_in}
use Rattle.batch_desk.proofs.entries.any_fault.Given as goal

abbrev pub invariant-loop-call : goal.invariant-loop-call
invariant-loop-call l = faults_in (drop l.call-index l.calls) ≡ faults_in l.calls
