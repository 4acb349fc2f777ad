use Rattle.std.proofs.Common.{◌≡◌, ◌++◌}
use Rattle.row_changes.specs.Puts.{changes_where, scale_drop}
use Rattle.pool_resize.specs.Changes.{is_scale_of}
use Rattle.pool_resize.proofs.events.drop_scales.Given as goal

-- what there is and what is left give what all rows give
abbrev pub invariant-loop-scale : goal.invariant-loop-scale
invariant-loop-scale l = l.changes.items ++ changes_where scale_drop (is_scale_of l.pool) l.scale-iterator ≡ l.fn.changes.items ++ changes_where scale_drop (is_scale_of l.pool) l.tables.state.scales
