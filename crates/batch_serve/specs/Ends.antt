-- How the workers of a service ended, and the status that follows.
use Rattle.std.specs.Prelude.{ℕ, Bool, true, false, List, if◌then◌else◌}
use Rattle.std.specs.Option.{option_map_or}
use Rattle.std.specs.List.{list_any}
use Rattle.batch_crew.specs.declared.cut.LaneEnd.{LaneEnd}
use Rattle.batch_crew.specs.declared.cut.LaneEnd.TheVariants as end
use Rattle.batch_http.specs.declared.doors.DoorEnd.{DoorEnd}
use Rattle.batch_serve.specs.declared.status.ServeStatus.{ServeStatus}
use Rattle.batch_serve.specs.declared.status.ServeStatus.TheVariants.{Done, Memory, Usage, ListenFault, SinkFault, KeeperFault, JournalFull}
use Rattle.batch_serve.specs.declared.worker.Worker.{Worker}
use Rattle.batch_serve.specs.declared.worker.WorkerKind.{WorkerKind}
use Rattle.batch_serve.specs.declared.worker.WorkerKind.TheVariants as kind

abbrev pub exit_code : ServeStatus → ℕ
exit_code Done = 0
exit_code Memory = 1
exit_code Usage = 2
exit_code ListenFault = 3
exit_code SinkFault = 4
exit_code KeeperFault = 5
exit_code JournalFull = 9

-- whether a lane or a timer ended because memory ran out
abbrev pub is_memory : LaneEnd → Bool
is_memory end.Ended = false
is_memory end.JournalFull = false
is_memory end.Memory = true

-- whether it found the journal full
abbrev pub is_full : LaneEnd → Bool
is_full end.Ended = false
is_full end.JournalFull = true
is_full end.Memory = false

module _ {S P N C L : Type 0} where
  -- whether this is a door whose listener failed
  abbrev pub kind_failed : WorkerKind S P N C L → Bool
  kind_failed (kind.Lane lane) = false
  kind_failed (kind.Timer timer) = false
  kind_failed (kind.Door door) = option_map_or (λ (e : DoorEnd). e.failed) door.end false

  -- whether this, or a connection of it, ran out of memory
  abbrev pub kind_memory : WorkerKind S P N C L → Bool
  kind_memory (kind.Lane lane) = option_map_or is_memory lane.end false
  kind_memory (kind.Timer timer) = option_map_or is_memory timer.end false
  kind_memory (kind.Door door) = option_map_or (λ (e : DoorEnd). e.met_memory) door.end false

  -- whether this is a lane or a timer that found the journal full
  abbrev pub kind_full : WorkerKind S P N C L → Bool
  kind_full (kind.Lane lane) = option_map_or is_full lane.end false
  kind_full (kind.Timer timer) = option_map_or is_full timer.end false
  kind_full (kind.Door door) = false

  abbrev pub has_failed : Worker (WorkerKind S P N C L) → Bool
  has_failed worker = kind_failed worker.kind

  abbrev pub met_memory : Worker (WorkerKind S P N C L) → Bool
  met_memory worker = kind_memory worker.kind

  abbrev pub met_full_journal : Worker (WorkerKind S P N C L) → Bool
  met_full_journal worker = kind_full worker.kind

  -- the status that the ends of all workers give
  abbrev pub status_of : List (Worker (WorkerKind S P N C L)) → ServeStatus
  status_of workers = if list_any has_failed workers then ListenFault else (if list_any met_memory workers then Memory
      else (if list_any met_full_journal workers then JournalFull else Done))
