-- The lowest queued run at a seat, found by going once over runs.
use Rattle.std.specs.Prelude.{◌≡◌, ℕ, List, ◌∷◌, filter, Option, Some, None, if◌then◌else◌}
use Rattle.kept_table.specs.Slots.{rows}
use Rattle.batch_model.specs.Finding.{best}
use Rattle.batch_model.specs.Variants.{State, RunRow}
use Rattle.run_index.specs.Seats.{is_queued_at, is_lower}

-- the later run if it is lower than the earlier one
abbrev pub lower_of : (earlier later : Option RunRow) → Option RunRow
lower_of None later = later
lower_of (Some run) None = Some run
lower_of (Some run) (Some later) = if is_lower later run then Some later else Some run

-- the lower of a run and the lowest of these that is queued at the seat
abbrev pub lowest_run_from : State → ℕ → Option RunRow → List RunRow → Option RunRow
lowest_run_from s seat so_far runs = lower_of so_far (best is_lower (filter (is_queued_at s seat) runs))

-- the later run is the lower of the earlier one and this one, if this one is queued at the seat
abbrev pub CountsRun : State → (seat : ℕ) → (earlier later : Option RunRow) → RunRow → Type 0
CountsRun s seat earlier later run = (rest : List RunRow) → lowest_run_from s seat later rest ≡ lowest_run_from s seat earlier (run ∷ rest)

-- the same for the run in a slot
abbrev pub CountsSlot : State → (seat : ℕ) → (earlier later : Option RunRow) → Option RunRow → Type 0
CountsSlot s seat earlier later slot =
    (rest : List (Option RunRow)) → lowest_run_from s seat later (rows rest) ≡ lowest_run_from s seat earlier (rows (slot ∷ rest))
