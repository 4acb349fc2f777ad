use Rattle.std.proofs.Common.{refl}
use Rattle.batch_desk.proofs.Stored.{faults_stored}
use Rattle.batch_desk.proofs.entries.Entries.has_faults.Goals as goal

pub returns : goal.returns
returns c =
    rw (c.any_fault.ensures, c.deref.ensures.value, ← c.self.view_is, faults_stored c.self.inside.refusals.items c.self.inside.calls.items) refl
