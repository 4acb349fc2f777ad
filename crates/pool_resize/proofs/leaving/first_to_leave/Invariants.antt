use Rattle.std.proofs.Common.{◌≡◌}
use Rattle.std.specs.Option.{option_copied}
use Rattle.batch_model.specs.Dues.{leaves_before}
use Rattle.batch_model.specs.Finding.{best}
use Rattle.batch_model.specs.Pools.{staying}
use Rattle.pool_resize.specs.LeavingFirst.{first_from}
use Rattle.pool_resize.proofs.leaving.first_to_leave.Given as goal

-- the first of the one so far and of the nodes that are left is the first of all
abbrev pub invariant-loop-node : goal.invariant-loop-node
invariant-loop-node l = first_from l.indexed.state l.pool (option_copied l.first) l.node-iterator ≡ best (leaves_before l.indexed.state) (staying l.indexed.state l.pool)
