-- The lowest queued run at a seat, and the runs that are asked to stop.
use Rattle.std.specs.Prelude.{ℕ, Bool, false, ◌&&◌, List, map, filter, nat_eq, nat_lt, Option}
use Rattle.std.specs.Option.{option_map_or}
use Rattle.batch_model.specs.Finding.{best}
use Rattle.batch_model.specs.Rows.{node_of}
use Rattle.batch_model.specs.Runs.{is_queued, is_taken}
use Rattle.batch_model.specs.Variants.{State, NodeRow, RunRow}

-- the node with this number sits on the seat
abbrev pub sits_on : State → ℕ → ℕ → Bool
sits_on s seat number = option_map_or (λ (node : NodeRow). nat_eq node.seat seat) (node_of s number) false

-- the run is queued, and its node sits on the seat
abbrev pub is_queued_at : State → ℕ → RunRow → Bool
is_queued_at s seat run = is_queued run.state && sits_on s seat run.node

-- the first run has the lower number
abbrev pub is_lower : RunRow → RunRow → Bool
is_lower run other = nat_lt run.number other.number

-- the queued run at the seat that has the lowest number
abbrev pub lowest_at : State → ℕ → Option RunRow
lowest_at s seat = best is_lower (filter (is_queued_at s seat) s.runs)

-- a taken run that is asked to stop
abbrev pub is_asked : RunRow → Bool
is_asked run = is_taken run.state && run.asked

-- the numbers of these among the runs
abbrev pub asked_of : List RunRow → List ℕ
asked_of runs = map (λ (run : RunRow). run.number) (filter is_asked runs)

-- the numbers of the runs that are asked to stop, in order of adding
abbrev pub asked_runs : State → List ℕ
asked_runs s = asked_of s.runs
