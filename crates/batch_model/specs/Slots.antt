-- Held slots of nodes.
-- Source: Azure Batch REST reference, requiredSlots and taskSlotsPerNode; the form is this project's own.
use Rattle.std.specs.Prelude.{ℕ, ◌+◌, Bool, ◌&&◌, nat_eq, nat_le, filter, sum_by}
use Rattle.std.specs.List.{list_any}
use Rattle.batch_model.specs.Runs.{is_present}
use Rattle.batch_model.specs.Tasks.{is_placed}
use Rattle.batch_model.specs.Variants.{State, PoolRow, NodeRow, TaskRow, RunRow}

-- the task is placed, and the run is of its present attempt
abbrev pub owns : RunRow → TaskRow → Bool
owns run task = is_placed task.stage && is_present task run

-- the run holds its slots on the node
abbrev pub holds_on : State → ℕ → RunRow → Bool
holds_on s node run = nat_eq run.node node && list_any (owns run) s.tasks

-- the slots held on the node: those of the runs on it that are of the present attempt of a placed task
abbrev pub held_slots : State → ℕ → ℕ
held_slots s node = sum_by (λ (run : RunRow). run.slots) (filter (holds_on s node) s.runs)

-- the needed slots of the node are free
abbrev pub has_free : State → PoolRow → ℕ → NodeRow → Bool
has_free s pool need node = nat_le (held_slots s node.number + need) pool.slots
