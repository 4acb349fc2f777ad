use Rattle.std.proofs.Common.{◌≡◌}
use Rattle.batch_serve.proofs.kinds.make_service.Given as goal

abbrev pub invariant-loop : goal.invariant-loop
invariant-loop g l = l.parts ≡ l.initial.parts
