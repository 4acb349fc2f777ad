-- Runs by their numbers.
use Rattle.std.specs.Prelude.{ℕ, Bool, false}
use Rattle.std.specs.Option.{option_map_or}
use Rattle.batch_model.specs.Rows.{run_of}
use Rattle.batch_model.specs.Runs.{is_start}
use Rattle.batch_model.specs.Variants.{State, RunRow}

-- a start run has the number
abbrev pub is_start_number : State → ℕ → Bool
is_start_number s number = option_map_or (λ (run : RunRow). is_start run.kind) (run_of s number) false
