use Rattle.batch_schedule.proofs.TurnParts.{SoFar}
use Rattle.batch_schedule.proofs.turn.run_turns.Given as goal

abbrev pub invariant-loop-at : goal.invariant-loop-at
invariant-loop-at g l = SoFar g.A.Ask.exchanged l.fn.now l.fn.rows l.rows l.at l.fn.asker l.asker l.fn.fires.items l.fires.items
