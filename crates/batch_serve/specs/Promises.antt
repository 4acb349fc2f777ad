-- What `serve` promises of its workers, in terms of the journal that it leaves.
use Rattle.std.specs.Prelude.{◌≡◌, Bool, true, false, All, List, Option, Some}
use Rattle.batch_desk.specs.declared.entry.Entry.{Entry}
use Rattle.batch_desk.specs.declared.journal.Journal.{Journal}
use Rattle.batch_http.specs.declared.doors.DoorEnd.{DoorEnd}
use Rattle.batch_crew.specs.declared.cut.LaneEnd.{LaneEnd}
use Rattle.batch_crew.specs.declared.cut.LaneEnd.TheVariants.{Ended}
use Rattle.batch_crew.specs.Journals.{RunsStand, TicksFirst}
use Rattle.batch_crew.specs.Lanes.{RanFor}
use Rattle.batch_serve.specs.declared.status.ServeStatus.{ServeStatus}
use Rattle.batch_serve.specs.declared.status.ServeStatus.TheVariants.{Done}
use Rattle.batch_serve.specs.declared.worker.Door.{Door}
use Rattle.batch_serve.specs.declared.worker.Worker.{Worker}
use Rattle.batch_serve.specs.declared.worker.WorkerKind.{WorkerKind}
use Rattle.batch_serve.specs.declared.worker.WorkerKind.TheVariants as kind
use Rattle.batch_serve.specs.Works.{Parts}
use Rattle.batch_serve.specs.Passes.{AtEach}

-- a lane or a timer ended because a pause of its clock said that the service is to end
pub record EndedByClock {C : Type 0} (clock_ended : C → Bool) (end : Option LaneEnd) (clock : C) : Type 0 where
  pub told : end ≡ Some Ended
  pub said : clock_ended clock ≡ true

-- a door ended because its listener said that it has no more links, and none of its connections ended because memory ran out
pub record EndedByListener {N C L : Type 0} (has_ended : N → Bool) (door : Door N C L) : Type 0 where
  pub end : DoorEnd
  pub told : door.end ≡ Some end
  pub said : has_ended door.listener ≡ true
  pub no_memory : end.met_memory ≡ false

module _ {S P N L C : Type 0} (t : Parts S P N L C) where
  -- a lane: each run that its spawner was given stands in the journal
  abbrev pub KeepsRuns : List Entry → WorkerKind S P N C L → WorkerKind S P N C L → Type 0
  KeepsRuns entries (kind.Lane old) (kind.Lane new) = RunsStand (RanFor t.spawner.ran t.spawner.faults) entries old.spawner new.spawner new.end
  KeepsRuns entries (kind.Timer old) (kind.Timer new) = Unit {0}
  KeepsRuns entries (kind.Door old) (kind.Door new) = Unit {0}
  KeepsRuns entries old new = ⊥

  -- the worker ended because it was to end
  abbrev pub HasEnded : WorkerKind S P N C L → Type 0
  HasEnded (kind.Lane lane) = EndedByClock t.clock.has_ended lane.end lane.clock
  HasEnded (kind.Timer timer) = EndedByClock t.clock.has_ended timer.end timer.clock
  HasEnded (kind.Door door) = EndedByListener t.listener.has_ended door

  -- a timer, as it was before its work: it ticked at the first moment that its clock gave
  abbrev pub HasTicked : List Entry → WorkerKind S P N C L → Type 0
  HasTicked entries (kind.Lane lane) = Unit {0}
  HasTicked entries (kind.Timer timer) = TicksFirst t.clock.gives entries timer.clock
  HasTicked entries (kind.Door door) = Unit {0}

  -- What the workers did, by the journal: each run that a lane's spawner was given was taken, and its ending was told after that, as
  -- `RunsStand` says. If the status is `Done`, each worker ended because it was to end, and each timer ticked at the first moment that its
  -- clock gave.
  pub record KeepsPromises (old new : List (Worker (WorkerKind S P N C L))) (status : ServeStatus) (journal : Journal) : Type 0 where
    pub runs : AtEach (λ a b. KeepsRuns journal.entries a.kind b.kind) old new
    pub ended : status ≡ Done → All (λ w. HasEnded w.kind) new
    pub ticked : status ≡ Done → All (λ w. HasTicked journal.entries w.kind) old
