use Rattle.std.proofs.Common.{rules}
use Rattle.counted_lock.proofs.StepKinds.{takes_turn}
use Rattle.counted_lock.proofs.steps.take_turn_alone.Goals as goal

pub swap-requires : goal.swap-requires
swap-requires g c = (search rules, search rules, takes_turn g.D.Journaled.entries g.D.Journaled.origin _ _ _ _ c.requires.free c.requires.part)
