use Rattle.std.proofs.Common.{◌≡◌, ◌+◌, length}
use Rattle.store_keeper.proofs.tables.are_as_many.Given as goal

-- one row was taken for each place so far
abbrev pub invariant-loop-place : goal.invariant-loop-place
invariant-loop-place g l = length l.left + l._place ≡ length l.fn.rows
