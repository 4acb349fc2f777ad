-- The workers of a service: which they are, and in which order.
use Rattle.std.specs.Prelude.{ℕ, max, List, ◌∷◌, ◌++◌, map, replicate}
use Rattle.std.specs.List.{range_with_len, repeat}
use Rattle.batch_serve.specs.declared.worker.Worker.{Worker}
use Rattle.batch_serve.specs.declared.worker.WorkerKind.{WorkerKind}
use Rattle.batch_serve.specs.declared.worker.WorkerKind.TheVariants as kind

-- what a worker is for: the runs of one seat, counted from 1, ticks, or connections
pub data Role : Type 0 where
  LaneOf : ℕ → Role
  TimerRole : Role
  DoorRole : Role

-- the role of a worker
abbrev pub role_of : {S P N C L : Type 0} → WorkerKind S P N C L → Role
role_of (kind.Lane lane) = LaneOf lane.seat
role_of (kind.Timer timer) = TimerRole
role_of (kind.Door door) = DoorRole

-- the roles of workers, in their order
abbrev pub roles_of : {S P N C L : Type 0} → List (Worker (WorkerKind S P N C L)) → List Role
roles_of {S} {P} {N} {C} {L} workers = map (λ (w : Worker (WorkerKind S P N C L)). role_of w.kind) workers

-- one lane for each seat
abbrev pub lanes_to : ℕ → List Role
lanes_to seats = map LaneOf (range_with_len 1 seats)

-- how many lanes each seat has: one for each of the 8 tasks that a node may run at once, and one more
abbrev pub lanes_per_seat : ℕ
lanes_per_seat = 9

-- the workers of a service with these numbers of seats and doors, in the order in which they begin: lanes, in rounds with one for each
-- seat, the timer, and the doors, one at least
abbrev pub crew_of : ℕ → ℕ → List Role
crew_of seats doors = repeat lanes_per_seat (lanes_to seats) ++ TimerRole ∷ replicate (max 1 doors) DoorRole
