-- Taken runs that are asked to stop, by their places.
use Rattle.std.specs.Prelude.{◌≡◌, ℕ, Bool, List, ◌∷◌, ◌++◌, map, Option, Some, None, if◌then◌else◌}
use Rattle.first_tree.specs.Ranks.{no_rank}
use Rattle.kept_table.specs.Slots.{rows}
use Rattle.batch_model.specs.Variants.{RunRow}
use Rattle.run_index.specs.Seats.{is_asked, asked_of}

-- 0 for a run that is asked to stop or a task that is over, and else no rank
abbrev pub rank_if : Bool → ℕ
rank_if over = if over then 0 else no_rank

-- 0 for a taken run that is asked to stop, and no rank for another one
abbrev pub asked_rank : RunRow → ℕ
asked_rank run = rank_if (is_asked run)

abbrev pub asked_rank_at : Option RunRow → ℕ
asked_rank_at None = no_rank
asked_rank_at (Some run) = asked_rank run

-- each rank is that of the run at its place
abbrev pub AreAsked : List (Option RunRow) → List ℕ → Type 0
AreAsked slots ranks = ranks ≡ map asked_rank_at slots

-- the later numbers are the earlier ones and that of this run, if it is asked to stop
abbrev pub ListsRun : (earlier later : List ℕ) → RunRow → Type 0
ListsRun earlier later run = (rest : List RunRow) → later ++ asked_of rest ≡ earlier ++ asked_of (run ∷ rest)

-- the same for the run in a slot
abbrev pub ListsSlot : (earlier later : List ℕ) → Option RunRow → Type 0
ListsSlot earlier later slot = (rest : List (Option RunRow)) → later ++ asked_of (rows rest) ≡ earlier ++ asked_of (rows (slot ∷ rest))
