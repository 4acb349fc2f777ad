-- Queued runs by their numbers.
use Rattle.std.specs.Prelude.{◌≡◌, ℕ, ◌-◌, nat_lt, min, List, map, Option, Some, None, if◌then◌else◌}
use Rattle.std.specs.List.{filter, reduce}
use Rattle.first_tree.specs.Ranks.{no_rank}
use Rattle.batch_model.specs.Finding.{Each}
use Rattle.batch_model.specs.Runs.{is_queued}
use Rattle.batch_model.specs.Variants.{State, RunRow}

-- the numbers of the queued runs
abbrev pub queued_numbers : List RunRow → List ℕ
queued_numbers runs = map (λ run. run.number) (filter (λ run. is_queued run.state) runs)

-- the least of them, if there are any
abbrev pub lowest_queued : List RunRow → Option ℕ
lowest_queued runs = reduce min (queued_numbers runs)

-- the numbers of all runs are below that of the next one
abbrev pub AreNumbered : State → Type 0
AreNumbered s = Each (λ run. nat_lt run.number s.next_run) s.runs

-- the last rank that a bound reaches
abbrev pub last_rank : ℕ
last_rank = no_rank - 1

-- the number of a queued run, at most the last rank, and no rank of another one
abbrev pub queued_rank : RunRow → ℕ
queued_rank run = if is_queued run.state then min run.number last_rank else no_rank

abbrev pub queued_rank_at : Option RunRow → ℕ
queued_rank_at None = no_rank
queued_rank_at (Some run) = queued_rank run

-- each rank is that of the run at its place
abbrev pub AreQueued : List (Option RunRow) → List ℕ → Type 0
AreQueued slots ranks = ranks ≡ map queued_rank_at slots
