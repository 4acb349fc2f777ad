use Rattle.std.proofs.Common.{ℕ, sym, subst}
use Rattle.batch_desk.specs.Laws.{KeepsLaws}
use Rattle.batch_desk.proofs.desk.Desk.close.Goals as goal

pub returns-clause-laws : goal.returns-clause-laws
returns-clause-laws g c =
    let desk = c.self.inside in
    subst (λ (seats : ℕ). KeepsLaws seats desk.opened.state desk.entries.items) (sym c.seats-seats.ensures) c.self.invariant.laws
