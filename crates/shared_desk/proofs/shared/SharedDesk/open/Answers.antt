use Rattle.std.proofs.Common.{◌≡◌, [], sym, subst, ap, ◌∙◌}
use Rattle.counted_lock.specs.Views.{places_of, unnumbered}
use Rattle.shared_desk.proofs.Opened.{no_places, all_unnumbered}
use Rattle.shared_desk.proofs.shared.SharedDesk.open.Goals as goal

pub returns-in-Ok-clause-places : goal.returns-in-Ok-clause-places
returns-in-Ok-clause-places g c =
    subst (λ h. places_of c.in-Ok.pass.number h ≡ []) (sym c.in-Ok.ensures.first.1) (no_places 0 c.in-Ok.pass.number c.of.result.entries)

pub returns-in-Ok-clause-opened : goal.returns-in-Ok-clause-opened
returns-in-Ok-clause-opened g c = ap unnumbered c.in-Ok.ensures.first.1 ∙ (all_unnumbered c.of.result.entries ∙ ap (λ d. d.entries) c.of.ensures)
