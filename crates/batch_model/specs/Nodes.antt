-- Nodes: their stages and their pools.
-- Source: Azure Batch REST reference, ComputeNodeState; the stages behind it are this project's own.
use Rattle.std.specs.Prelude.{ℕ, Bool, true, false, not, ◌&&◌, List}
use Rattle.bt_base.specs.Ids.{same}
use Rattle.batch_model.specs.Variants.{NodeRow, NodeStage, Starting, Usable, Leaving}

abbrev pub is_starting : NodeStage → Bool
is_starting Starting = true
is_starting _ = false

abbrev pub is_usable : NodeStage → Bool
is_usable Usable = true
is_usable _ = false

abbrev pub is_leaving : NodeStage → Bool
is_leaving (Leaving option) = true
is_leaving _ = false

-- a node of the pool
abbrev pub is_in_pool : List ℕ → NodeRow → Bool
is_in_pool pool node = same node.pool pool

-- a node of the pool that is not leaving
abbrev pub stays : List ℕ → NodeRow → Bool
stays pool node = is_in_pool pool node && not (is_leaving node.stage)
