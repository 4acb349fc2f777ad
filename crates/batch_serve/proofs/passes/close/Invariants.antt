use Rattle.std.proofs.Common.{◌≡◌}
use Rattle.batch_serve.proofs.passes.close.Given as goal

abbrev pub invariant-loop : goal.invariant-loop
invariant-loop g l = record {
  desk : l.open.0 ≡ l.initial.open.0;
  passes : l.open.1.items ≡ l.initial.open.1.items;
}
