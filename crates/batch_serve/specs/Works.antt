-- What the workers of a crew do, each with its pass.
use Rattle.std.specs.Prelude.{◌≡◌, ◌≤◌, Bool, true, false, length, Some, IsSome}
use Rattle.bt_base.specs.Causes.{Rose}
use Rattle.bt_clock.specs.declared.clock.Clock.{Ghosts as ClockMembers}
use Rattle.child_runs.specs.declared.spawner.Spawner.{Ghosts as SpawnerMembers}
use Rattle.child_runs.specs.declared.stopper.Stopper.{Ghosts as StopperMembers}
use Rattle.counted_lock.specs.Passes.{LockIdentity}
use Rattle.http_link.specs.declared.link.Link.{Ghosts as LinkMembers}
use Rattle.link_doors.specs.declared.listener.Listener.{Ghosts as ListenerMembers}
use Rattle.batch_http.specs.declared.doors.DoorEnd.{DoorEnd}
use Rattle.batch_http.specs.Doors.{DoorState, ServesAll}
use Rattle.shared_desk.specs.Openings.{Opening}
use Rattle.shared_desk.specs.Sharing.{Caller}
use Rattle.shared_desk.specs.Askers.{AskerState, IsSharedExchange}
use Rattle.batch_crew.specs.declared.cut.LaneEnd.{LaneEnd}
use Rattle.batch_crew.specs.declared.cut.LaneEnd.TheVariants.{Ended, JournalFull}
use Rattle.batch_crew.specs.Lanes.{RanFor, IsLane}
use Rattle.batch_crew.specs.Timers.{RunsTimer}
use Rattle.batch_serve.specs.declared.worker.Lane.{Lane}
use Rattle.batch_serve.specs.declared.worker.Timer.{Timer}
use Rattle.batch_serve.specs.declared.worker.Door.{Door}
use Rattle.batch_serve.specs.declared.worker.WorkerKind.{WorkerKind}
use Rattle.batch_serve.specs.declared.worker.WorkerKind.TheVariants as kind

-- what contracts see of what workers have: the ghost members of its traits
pub record Parts (S P N L C : Type 0) : Type 1 where
  pub spawner : SpawnerMembers S
  pub stopper : StopperMembers P
  pub listener : ListenerMembers N L
  pub link : LinkMembers L
  pub clock : ClockMembers C

module _ (desk : LockIdentity Opening) where
  -- a lane or a timer ended with the pass `q`, only for its cause: after a pause said so, or with a full journal
  pub record EndsFor {C : Type 0} (clock_ended : C → Bool) (why : LaneEnd) (q : Caller) (clock : C) : Type 0 where
    pub ended : why ≡ Ended → clock_ended clock ≡ true
    pub full : why ≡ JournalFull → length q.seen ≡ desk.origin.limit

  -- a lane took turns with the pass `p`, which is then `q`
  pub record LaneWorks {S C : Type 0} (spawner : SpawnerMembers S) (clock : ClockMembers C)
      (p : Caller) (old : Lane S C) (q : Caller) (new : Lane S C) : Type 0 where
    pub why : LaneEnd
    pub told : new.end ≡ Some why
    pub cause : EndsFor clock.has_ended why q new.clock
    pub seat : new.seat ≡ old.seat
    pub turns : IsLane desk.origin old.seat (RanFor spawner.ran spawner.faults) clock.gives clock.pauses
        (record { pass = p; clock = old.clock }) old.spawner (record { pass = q; clock = new.clock }) new.spawner why

  -- a timer took turns with the pass `p`, which is then `q`
  pub record TimerWorks {P C : Type 0} (stopper : StopperMembers P) (clock : ClockMembers C)
      (p : Caller) (old : Timer P C) (q : Caller) (new : Timer P C) : Type 0 where
    pub why : LaneEnd
    pub told : new.end ≡ Some why
    pub cause : EndsFor clock.has_ended why q new.clock
    pub turns : RunsTimer desk.origin stopper.stopped stopper.faults clock.gives clock.pauses p old.stopper old.clock q new.stopper new.clock why

  -- the asker of a door with this pass
  abbrev pub asker_with : Caller → AskerState
  asker_with p = record { desk = desk; pass = p }

  -- a door with this pass, clock and listener
  abbrev pub door_with : {N C : Type 0} → Caller → C → N → DoorState AskerState C N
  door_with p clock listener = record { service = record { asker = asker_with p; clock = clock }; listener = listener }

  -- a door served the links of its listener with the pass `p`, which is then `q`, until the listener ended or failed
  pub record DoorWorks {N L C : Type 0} (listener : ListenerMembers N L) (link : LinkMembers L) (clock : ClockMembers C)
      (p : Caller) (old : Door N C L) (q : Caller) (new : Door N C L) : Type 0 where
    pub end : DoorEnd
    pub told : new.end ≡ Some end
    pub before : C
    pub after : C
    pub old_clock : old.clock ≡ Some before
    pub new_clock : new.clock ≡ Some after
    pub none_out : listener.is_out new.listener ≡ false
    pub later : listener.faults old.listener ≤ listener.faults new.listener
    pub ended : end.failed ≡ false → listener.has_ended new.listener ≡ true
    pub failed : end.failed ≡ true → Rose (listener.faults old.listener) (listener.faults new.listener)
    pub serves : ServesAll IsSharedExchange clock.gives listener.accepted listener.taken_back link.left link.taken link.faults
        (door_with p before old.listener) (door_with q after new.listener) end.met_memory

  -- a worker did its work with the pass `p`, which is then `q`
  abbrev pub Works : {S P N L C : Type 0} → Parts S P N L C → Caller → WorkerKind S P N C L → Caller → WorkerKind S P N C L → Type 0
  Works t p (kind.Lane old) q (kind.Lane new) = LaneWorks t.spawner t.clock p old q new
  Works t p (kind.Timer old) q (kind.Timer new) = TimerWorks t.stopper t.clock p old q new
  Works t p (kind.Door old) q (kind.Door new) = DoorWorks t.listener t.link t.clock p old q new
  Works t p old q new = ⊥

-- what a worker needs before it works: a door its clock, and a listener of which no link is out
abbrev pub IsReady : {S P N C L : Type 0} → (N → Bool) → WorkerKind S P N C L → Type 0
IsReady is_out (kind.Lane lane) = Unit {0}
IsReady is_out (kind.Timer timer) = Unit {0}
IsReady is_out (kind.Door door) = IsSome door.clock × (is_out door.listener ≡ false)
