use Rattle.std.proofs.Common.{◌≡◌}
use Rattle.batch_serve.proofs.passes.new_pass.Given as goal

abbrev pub invariant-loop : goal.invariant-loop
invariant-loop g l = l.pass ≡ l.initial.pass
