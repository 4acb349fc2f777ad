-- Listeners in memory.
use Rattle.std.specs.Prelude.{◌≡◌, ◌+◌, ◌-◌, ◌^◌, ◌↔◌, ◌∷◌, ◌++◌, ℕ, List, [], Bool, min, Contains, Result, MatchResult}
use Rattle.link_doors.specs.declared.accepted.Accepted.{Accepted}
use Rattle.link_doors.specs.declared.accepted.Accepted.TheVariants.{Link, Ended, Failed}

-- a listener that never fails: the links that it will give, those that were handed back, as they were then, in order, whether a
-- link is out, and whether it has ended
pub record ListedLinks (L : Type 0) : Type 0 where
  pub left : List L
  pub handed : List L
  pub is_out : Bool
  pub has_ended : Bool

-- an answer leaves these links: a link is the first that was left, and there was none if the listener ended
abbrev pub LeavesLinks : {L : Type 0} → Accepted L → List L → List L → Type 0
LeavesLinks (Link link) old new = old ≡ link ∷ new
LeavesLinks Ended old new = (old ≡ []) × (new ≡ [])
LeavesLinks Failed old new = ⊥

-- an answer of a listener that never fails
pub record AcceptsNext {L : Type 0} (old : ListedLinks L) (answer : Accepted L) (new : ListedLinks L) : Type 0 where
  pub left : LeavesLinks answer old.left new.left
  pub same_handed : new.handed ≡ old.handed

-- a link is handed back to a listener that never fails
pub record TakesBack {L : Type 0} (old : ListedLinks L) (link : L) (new : ListedLinks L) : Type 0 where
  pub same_left : new.left ≡ old.left
  pub handed : new.handed ≡ old.handed ++ link ∷ []

-- a listener of which some calls fail: what it is without that, the numbers of the calls that fail, counted from 1, and how many
-- calls were made and failed
pub record FailingLinks (L : Type 0) : Type 0 where
  pub inner : ListedLinks L
  pub fails : List ℕ
  pub calls : ℕ
  pub faults : ℕ

-- the count of faults rises by one at an error, and else stays
abbrev pub CountsFault : {T E : Type 0} → ℕ → ℕ → Result T E → Type 0
CountsFault before now result = MatchResult result (λ _. now ≡ before) (λ _. now ≡ min (before + 1) (2 ^ 64 - 1))

-- an answer leaves this listener: a failure is counted as a fault, and changes no link
abbrev pub LeavesCounts : {L : Type 0} → Accepted L → FailingLinks L → FailingLinks L → Type 0
LeavesCounts (Link link) old new = (new.faults ≡ old.faults) × AcceptsNext old.inner (Link link) new.inner
LeavesCounts Ended old new = (new.faults ≡ old.faults) × AcceptsNext old.inner Ended new.inner
LeavesCounts Failed old new = (new.faults ≡ min (old.faults + 1) (2 ^ 64 - 1)) × (new.inner ≡ old.inner)

-- an answer of a listener of which some calls fail
pub record AcceptsOrFails {L : Type 0} (old : FailingLinks L) (answer : Accepted L) (new : FailingLinks L) : Type 0 where
  pub same_fails : new.fails ≡ old.fails
  pub counted : new.calls ≡ min (old.calls + 1) (2 ^ 64 - 1)
  pub listed : (answer ≡ Failed) ↔ Contains old.fails new.calls
  pub left : LeavesCounts answer old new

-- a link is handed back to a listener of which some calls fail; this is no call that fails, and is not counted
pub record TakesBackUncounted {L : Type 0} (old : FailingLinks L) (link : L) (new : FailingLinks L) : Type 0 where
  pub inner : TakesBack old.inner link new.inner
  pub same_fails : new.fails ≡ old.fails
  pub same_calls : new.calls ≡ old.calls
  pub same_faults : new.faults ≡ old.faults
