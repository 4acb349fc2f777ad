use Rattle.std.proofs.Common.{◌≡◌, ◌⊎◌, ◌∙◌, sym, refl, subst}
use Rattle.bt_base.specs.Causes.{Rose}
use Rattle.batch_serve.specs.declared.status.ServeStatus.TheVariants.{Memory, Usage, KeeperFault}
use Rattle.batch_serve.proofs.Outcomes.{unopened_is, open_why, open_fault, open_usage, open_sink}
use Rattle.batch_serve.proofs.serving.serve.Goals as goal

pub returns-in-Err-clause-served : goal.returns-in-Err-clause-served
returns-in-Err-clause-served g c =
    let is = c.unopened.ensures.status ∙ c.open_status.ensures in
    unopened_is _ _ _ _ _ _ _ refl refl c.unopened.ensures.journal
    (subst (λ z. (z ≡ Memory) ⊎ ((z ≡ Usage) ⊎ (z ≡ KeeperFault))) (sym is) (open_why c.in-Err.error))

pub returns-in-Err-clause-no_usage : goal.returns-in-Err-clause-no_usage
returns-in-Err-clause-no_usage g c is = open_usage c.in-Err.error (sym (c.unopened.ensures.status ∙ c.open_status.ensures) ∙ is)

pub returns-in-Err-clause-sink_fault : goal.returns-in-Err-clause-sink_fault
returns-in-Err-clause-sink_fault g c is = absurd (open_sink c.in-Err.error (sym (c.unopened.ensures.status ∙ c.open_status.ensures) ∙ is))

pub returns-in-Err-clause-keeper_fault : goal.returns-in-Err-clause-keeper_fault
returns-in-Err-clause-keeper_fault g c is =
    let failed = open_fault c.in-Err.error (sym (c.unopened.ensures.status ∙ c.open_status.ensures) ∙ is) in
    subst (λ k. Rose (g.K.Keeper.faults c.args.keeper) (g.K.Keeper.faults k)) (sym c.unopened.ensures.keeper) (c.in-Err.ensures.unopened.failed failed)
