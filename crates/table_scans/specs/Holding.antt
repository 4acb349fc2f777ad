-- Tasks and runs that hold slots of a node.
use Rattle.std.specs.Prelude.{ℕ, Bool, ◌&&◌, nat_eq, nat_lt, List}
use Rattle.std.specs.List.{list_any}
use Rattle.batch_model.specs.Runs.{is_present}
use Rattle.batch_model.specs.Tasks.{is_placed}
use Rattle.batch_model.specs.Variants.{TaskRow, RunRow}

-- the run is on the node, has slots, and is of the task's present attempt
abbrev pub has_slots : ℕ → TaskRow → RunRow → Bool
has_slots node task run = nat_eq run.node node && (nat_lt 0 run.slots && is_present task run)

-- the task is placed, and a run of its present attempt has slots of the node
abbrev pub is_holder : List RunRow → ℕ → TaskRow → Bool
is_holder runs node task = is_placed task.stage && list_any (has_slots node task) runs
