-- Endings of start runs.
use Rattle.std.specs.Prelude.{◌≡◌, ℕ, ◌^◌, ◌<◌, nat_lt, Some}
use Rattle.batch_model.specs.Events.{ended_run}
use Rattle.batch_model.specs.Finding.{Each}
use Rattle.batch_model.specs.Rows.{is_run, run_of, node_of, change_runs}
use Rattle.batch_model.specs.WellFormed.{KeysAreDistinct}
use Rattle.batch_model.specs.Variants.{State, NodeRow, Ending, RunRow}
use Rattle.machine_plans.specs.Plans.{with_moment}

-- the tables at the moment, in which the run has ended
abbrev pub with_end : ℕ → Ending → RunRow → State → State
with_end now ending run s = change_runs (is_run run.number) (ended_run now ending) (with_moment now s)

-- the run is there, in tables to which a run may be added
pub record IsThere (s : State) (run : RunRow) : Type 0 where
  pub keys : KeysAreDistinct s
  pub below : Each (λ (other : RunRow). nat_lt other.number s.next_run) s.runs
  pub found : run_of s run.number ≡ Some run

-- the run is there, and so is the node, whose failures are far below the end of their type
pub record IsOnNode (s : State) (run : RunRow) (node : NodeRow) : Type 0 where
  pub there : IsThere s run
  pub seated : node_of s node.number ≡ Some node
  pub few : node.tries < 2 ^ 63
