use Rattle.batch_desk.proofs.desk.load_machine.Goals as goal

pub returns-clause-cause : goal.returns-clause-cause
returns-clause-cause g c = record { later = c.in_ok-tables.ensures.cause.later; failed = λ e. absurd (cc) }
