-- The answers of listeners.
use Rattle.std.specs.Prelude.{◌≡◌, ◌≤◌, ℕ, Bool, true, false}
use Rattle.bt_base.specs.Causes.{Rose}
use Rattle.link_doors.specs.declared.accepted.Accepted.{Accepted}
use Rattle.link_doors.specs.declared.accepted.Accepted.TheVariants.{Link, Ended, Failed}

-- whether the answer has a link
abbrev pub has_link : {L : Type 0} → Accepted L → Bool
has_link (Link link) = true
has_link Ended = false
has_link Failed = false

-- whether the answer says that there are no more links
abbrev pub is_end : {L : Type 0} → Accepted L → Bool
is_end (Link link) = false
is_end Ended = true
is_end Failed = false

-- the count of faults never falls, and it rose if the listener failed
pub record HasAcceptCause {L : Type 0} (before now : ℕ) (answer : Accepted L) : Type 0 where
  pub later : before ≤ now
  pub failed : answer ≡ Failed → Rose before now
