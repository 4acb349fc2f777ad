use Rattle.std.proofs.Common.{◌≡◌, ◌≤◌, ◌++◌, List, ℕ, length}
use Rattle.byte_streams.specs.Content.{Gains}
use Rattle.byte_streams.proofs.sink.write_all.Given as goal

abbrev pub invariant-loop-rest : goal.invariant-loop-rest
invariant-loop-rest g l =
    let taken = g.W.Sink.taken in
    let faults = g.W.Sink.faults in
    (front : List ℕ) × (l.piece ≡ front ++ l.rest) × Gains (taken l.fn.sink) (taken l.sink) front × (faults l.fn.sink ≤ faults l.sink)

abbrev pub decreases-loop-rest : goal.decreases-loop-rest
decreases-loop-rest g l = length l.rest
