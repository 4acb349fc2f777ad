use Rattle.std.proofs.Common.{◌≤◌, length, subst, sym, ◌∙◌, arith}
use Rattle.batch_serve.proofs.serving.unshared.Goals as goal

pub returns-clause-kept : goal.returns-clause-kept
returns-clause-kept g c = let closed = c.close-keeper.ensures in record {
  within = subst (λ es. length es ≤ c.close-keeper.result.1.limit) (sym (closed.entries ∙ c.requires)) (omega arith);
  legal = closed.legal;
  laws = closed.laws;
  kept = closed.kept;
  counted = closed.counted;
}
