-- What stoppers were asked.
use Rattle.std.specs.Prelude.{◌≡◌, ◌+◌, ◌-◌, ◌^◌, ◌↔◌, ◌∷◌, ℕ, List, [], Bool, true, false, min, Contains, Option}
use Rattle.byte_streams.specs.Content.{Gains}

-- the number of a run whose child program was to stop, and whether it was asked to
pub record Stop : Type 0 where
  pub number : ℕ
  pub done : Bool

-- a stop of a stopper that never fails: the number is kept, or no number if there was no memory
pub record StopsSurely (old : Option (List ℕ)) (stop : Stop) (new : Option (List ℕ)) : Type 0 where
  pub done : stop.done ≡ true
  pub kept : Gains old new (stop.number ∷ [])

-- a stopper of which some calls fail: the numbers of the runs that it stopped, in order, None once there was no memory for them,
-- the numbers of the calls that fail, counted from 1, and how many calls were made and failed
pub record FailingStops : Type 0 where
  pub numbers : Option (List ℕ)
  pub fails : List ℕ
  pub calls : ℕ
  pub faults : ℕ

-- a stop that was done keeps the number, and one that failed is counted as a fault
abbrev pub LeavesStops : Bool → FailingStops → ℕ → FailingStops → Type 0
LeavesStops true old number new = (new.faults ≡ old.faults) × Gains old.numbers new.numbers (number ∷ [])
LeavesStops false old number new = (new.faults ≡ min (old.faults + 1) (2 ^ 64 - 1)) × (new.numbers ≡ old.numbers)

-- a stop of a stopper of which some calls fail
pub record StopsOrFails (old : FailingStops) (stop : Stop) (new : FailingStops) : Type 0 where
  pub same_fails : new.fails ≡ old.fails
  pub counted : new.calls ≡ min (old.calls + 1) (2 ^ 64 - 1)
  pub listed : (stop.done ≡ false) ↔ Contains old.fails new.calls
  pub left : LeavesStops stop.done old stop.number new
