-- The node that leaves before the others, found by going once over the nodes.
use Rattle.std.specs.Prelude.{ℕ, Bool, true, List, filter, Option, Some, None, if◌then◌else◌}
use Rattle.batch_model.specs.Dues.{leaves_before}
use Rattle.batch_model.specs.Finding.{best}
use Rattle.batch_model.specs.Nodes.{stays}
use Rattle.batch_model.specs.Variants.{State, NodeRow}

-- the node leaves before the one so far, if there is one
abbrev pub is_ahead : State → Option NodeRow → NodeRow → Bool
is_ahead s None node = true
is_ahead s (Some other) node = leaves_before s node other

-- the later node if it leaves before the earlier one
abbrev pub ahead : State → (earlier later : Option NodeRow) → Option NodeRow
ahead s None later = later
ahead s (Some node) None = Some node
ahead s (Some node) (Some later) = if leaves_before s later node then Some later else Some node

-- the node so far, or that of these nodes of the pool which leaves before the others
abbrev pub first_from : State → List ℕ → Option NodeRow → List NodeRow → Option NodeRow
first_from s pool so_far nodes = ahead s so_far (best (leaves_before s) (filter (stays pool) nodes))
