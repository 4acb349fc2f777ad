use Rattle.std.proofs.Common.{not, sym, subst}
use Rattle.batch_model.specs.Finding.{Each}
use Rattle.model_lists.proofs.KeptRows.{each_kept}
use Rattle.dependency_counts.specs.Counts.{Live, has_key, is_kept}
use Rattle.dependency_counts.proofs.counts.Counts.remove_task.Goals as goal

pub invariant_of-self : goal.invariant_of-self
invariant_of-self c =
    subst (Each (is_kept c.self.inside.next)) (sym c.remove_key.ensures)
    (each_kept (λ (live : Live). not (has_key c.args.key live)) (is_kept c.self.inside.next) c.self.inside.lives.items c.self.invariant)
