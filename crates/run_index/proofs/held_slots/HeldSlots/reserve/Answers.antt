use Rattle.std.proofs.Common.{ap, ◌∙◌}
use Rattle.run_index.specs.Held.{SumsView, sum_at}
use Rattle.run_index.proofs.HeldSums.{held_kept}
use Rattle.run_index.proofs.held_slots.HeldSlots.reserve.Goals as goal

pub returns-clause-held : goal.returns-clause-held
returns-clause-held c = λ tasks slots.
    held_kept c.args.self.now c.reserve.new.self tasks slots (λ node. c.reserve.ensures.sums node ∙ ap (λ (v : SumsView). sum_at v node) c.self.view_is)
