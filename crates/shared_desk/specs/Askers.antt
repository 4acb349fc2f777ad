-- An asker over a shared desk.
use Rattle.std.specs.Prelude.{◌≡◌, ℕ, List, [], ◌∷◌, ◌++◌, Some, slice_get}
use Rattle.std.specs.List.{flat_map}
use mathlib.Core.List.{IsPrefix}
use Rattle.batch_desk.specs.declared.entry.Entry.{Entry}
use Rattle.batch_desk.specs.Exchanges.{Exchange, Called, Looked, Leads}
use Rattle.batch_desk.specs.Desks.{entries_of}
use Rattle.counted_lock.specs.declared.views.Stamped.{Stamped}
use Rattle.counted_lock.specs.Passes.{LockIdentity}
use Rattle.counted_lock.specs.Views.{places_of, unnumbered, stamped}
use Rattle.shared_desk.specs.Openings.{Opening}
use Rattle.shared_desk.specs.Sharing.{Caller, Asked, Looks}

-- a shared desk and a pass of it
pub record AskerState : Type 0 where
  pub desk : LockIdentity Opening
  pub pass : Caller

-- the desk is the same, and so is the number of the pass
pub record IsSameAsker (old new : AskerState) : Type 0 where
  pub desk : new.desk ≡ old.desk
  pub number : new.pass.number ≡ old.pass.number

-- a call or a read in a turn of the pass
abbrev pub IsSharedExchange : AskerState → Exchange → AskerState → Type 0
IsSharedExchange old (Called moment event answer) new = IsSameAsker old new × Asked old.desk.origin old.pass new.pass moment event answer
IsSharedExchange old (Looked read reply) new = IsSameAsker old new × Looks old.desk.origin old.pass new.pass read reply

-- the history has these calls under this number at these places, in order
abbrev pub StandAt : ℕ → List (Stamped Entry) → List ℕ → List Entry → Type 0
StandAt n h [] [] = Unit {0}
StandAt n h [] (e ∷ es) = ⊥
StandAt n h (k ∷ ks) [] = ⊥
StandAt n h (k ∷ ks) (e ∷ es) = (slice_get h k ≡ Some (stamped (Some n) e)) × StandAt n h ks es

-- What exchanges leave of an asker: it has seen what it had seen, and perhaps more, in which its new places are those of the calls that were
-- made or that a keeper fault left undone, in order. No call without a number was added.
pub record LeavesAsker (old new : AskerState) (exchanges : List Exchange) : Type 0 where
  pub same : IsSameAsker old new
  pub begins : IsPrefix old.pass.seen new.pass.seen
  pub added : List ℕ
  pub places : places_of old.pass.number new.pass.seen ≡ places_of old.pass.number old.pass.seen ++ added
  pub calls : StandAt old.pass.number new.pass.seen added (flat_map entries_of exchanges)
  pub opened : unnumbered new.pass.seen ≡ unnumbered old.pass.seen

abbrev pub EntersItsCalls : Type 0
EntersItsCalls = (old new : AskerState) (exchanges : List Exchange) → Leads IsSharedExchange old exchanges new → LeavesAsker old new exchanges
