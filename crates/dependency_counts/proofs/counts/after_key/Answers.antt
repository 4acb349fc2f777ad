use Rattle.dependency_counts.proofs.Lists.{after_place, after_none}
use Rattle.dependency_counts.proofs.counts.after_key.Goals as goal

pub returns-in-None : goal.returns-in-None
returns-in-None c = after_none c.args.key c.args.lives.now c.in-None.ensures

pub returns-in-Some : goal.returns-in-Some
returns-in-Some c = after_place c.args.key c.args.lives.now c.in-Some.place c.in-Some.ensures
