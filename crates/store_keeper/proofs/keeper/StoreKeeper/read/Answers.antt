use Rattle.std.proofs.Common.{true, sym, subst}
use Rattle.store_keeper.specs.Found.{IsFound, IsContentOf}
use Rattle.store_keeper.specs.Kept.{IsReadable}
use Rattle.store_keeper.proofs.KeeperCalls.{found_is, readable_is}
use Rattle.store_keeper.proofs.keeper.StoreKeeper.read.Goals as goal

pub invariant_of-self-in-Some : goal.invariant_of-self-in-Some
invariant_of-self-in-Some g c =
    let content = g.S.Store.content c.self.inside.store in
    let stored = c.in_ok-stored.stored in
    let s = c.in-Some.tables.state in
    let is : IsContentOf stored s = subst (IsFound stored) c.in-Some.is c.in_ok-tables.ensures in
    subst (IsReadable true) (sym c.in_ok-stored.ensures.same) (readable_is content s (found_is content stored s c.in_ok-stored.ensures.content is))

pub returns-in-Some-clause-found : goal.returns-in-Some-clause-found
returns-in-Some-clause-found g c =
    let stored = c.in_ok-stored.stored in
    let s = c.in-Some.tables.state in
    let is : IsContentOf stored s = subst (IsFound stored) c.in-Some.is c.in_ok-tables.ensures in
    rw (← c.self.view_is) (found_is (g.S.Store.content c.self.inside.store) stored s c.in_ok-stored.ensures.content is)
