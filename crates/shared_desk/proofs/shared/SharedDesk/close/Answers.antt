use Rattle.std.proofs.Common.{ap, ◌∙◌}
use Rattle.shared_desk.proofs.Closed.{shared_journal}
use Rattle.shared_desk.proofs.shared.SharedDesk.close.Goals as goal

pub returns-in-Ok-clause-shared : goal.returns-in-Ok-clause-shared
returns-in-Ok-clause-shared g c =
    shared_journal c.in-Ok.desk c.close-in-Ok.result.1 c.args.passes.items c.in-Ok.ensures.shared
    (c.close-in-Ok.ensures.entries ∙ ap (λ d. d.entries) c.into_desk.ensures.desk)
