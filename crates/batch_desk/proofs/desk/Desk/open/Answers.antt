use Rattle.std.proofs.Common.{ap, sym, subst, ◌∙◌}
use Rattle.batch_desk.specs.Kept.{Tells}
use Rattle.batch_desk.proofs.Opened.{in_order_opened}
use Rattle.batch_desk.proofs.desk.Desk.open.Goals as goal

pub invariant_of-result : goal.invariant_of-result
invariant_of-result g c =
    in_order_opened g.K.Keeper.told g.K.Keeper.faults c.new.result c.in-Ok.opened.state c.args.seats c.args.limit c.new-in-Ok.result.items
    (ap (λ saved. saved.seats) c.new.ensures) (ap (λ saved. saved.state) c.new.ensures ∙ c.in-Ok.ensures.machine.0) c.new-in-Ok.ensures.items
    c.in-Ok.ensures.sound (subst (λ keeper. Tells (g.K.Keeper.told keeper) c.in-Ok.opened.state) (sym (ap (λ saved. saved.keeper) c.new.ensures))
    c.in-Ok.ensures.kept) c.ranges.limit.fits

pub returns-in-Ok-clause-in_order : goal.returns-in-Ok-clause-in_order
returns-in-Ok-clause-in_order g c =
    in_order_opened g.K.Keeper.told g.K.Keeper.faults c.new.result c.in-Ok.opened.state c.args.seats c.args.limit c.new-in-Ok.result.items
    (ap (λ saved. saved.seats) c.new.ensures) (ap (λ saved. saved.state) c.new.ensures ∙ c.in-Ok.ensures.machine.0) c.new-in-Ok.ensures.items
    c.in-Ok.ensures.sound (subst (λ keeper. Tells (g.K.Keeper.told keeper) c.in-Ok.opened.state) (sym (ap (λ saved. saved.keeper) c.new.ensures))
    c.in-Ok.ensures.kept) c.ranges.limit.fits
