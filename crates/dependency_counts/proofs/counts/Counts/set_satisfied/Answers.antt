use Rattle.std.proofs.Common.{sym, subst}
use Rattle.batch_model.specs.Finding.{Each}
use Rattle.dependency_counts.specs.Counts.{is_kept}
use Rattle.dependency_counts.proofs.Lists.{kept_satisfied}
use Rattle.dependency_counts.proofs.counts.Counts.set_satisfied.Goals as goal

pub invariant_of-self : goal.invariant_of-self
invariant_of-self g c =
    subst (Each (is_kept c.self.inside.next)) (sym c.set_satisfied.ensures)
    (kept_satisfied c.self.inside.next c.self.inside.lives.items c.args.key c.args.yes c.self.invariant)
