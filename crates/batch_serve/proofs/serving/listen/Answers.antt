use Rattle.std.proofs.Common.{refl, sym, inl, inr}
use Rattle.batch_serve.specs.Serving.{IsDeskOf}
use Rattle.batch_serve.proofs.Outcomes.{unshared_is, served_is, front_none, front_all}
use Rattle.batch_serve.proofs.serving.listen.Goals as goal

pub returns-in-Err-clause-served : goal.returns-in-Err-clause-served
returns-in-Err-clause-served g c = let left = c.unshared-in-Err.ensures in
    unshared_is _ _ _ _ _ _ _ refl left.journal left.empty (front_none _ _) (inl left.status)

pub returns-in-Err-write_all-clause-served : goal.returns-in-Err-write_all-clause-served
returns-in-Err-write_all-clause-served g c = let left = c.unshared-in-Err-write_all.ensures in
    unshared_is _ _ _ _ _ _ _ refl left.journal left.empty c.in-Err-write_all.ensures.err (inr left.status)

pub returns-in-Ok-open-clause-served : goal.returns-in-Ok-open-clause-served
returns-in-Ok-open-clause-served g c =
    let opened = c.run_crew-keeper.ensures.opened in
    let desk : IsDeskOf c.run_crew-keeper.result.1 c.in-Ok-open.desk = record { opened = sym opened.2; seats = sym opened.0; limit = sym opened.1 } in
    served_is _ _ _ _ _ _ _ c.in-Ok-open.desk c.status_of.ensures.status desk c.in-Ok-write_all.ensures.ok c.run_crew-keeper.ensures.serves

pub returns-in-Err-open-clause-served : goal.returns-in-Err-open-clause-served
returns-in-Err-open-clause-served g c = let left = c.unshared-in-Err-open.ensures in
    unshared_is _ _ _ _ _ _ _ refl left.journal left.empty (front_all _ _ _ c.in-Ok-write_all.ensures.ok) (inl left.status)
