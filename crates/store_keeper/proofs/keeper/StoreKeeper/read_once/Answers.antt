use Rattle.store_keeper.proofs.KeeperCalls.{no_failure}
use Rattle.store_keeper.proofs.keeper.StoreKeeper.read_once.Goals as goal

pub returns-in_ok-read-clause-cause : goal.returns-in_ok-read-clause-cause
returns-in_ok-read-clause-cause g c = no_failure (tt {0}) _ _ _ c.in_ok-read.ensures.cause
