use Rattle.std.proofs.Common.{◌≡◌, ◌≤◌, length}
use Rattle.std.specs.Vec.Iter.{into_iter_items}
use Rattle.bt_rows.specs.Changes.{apply_changes}
use Rattle.bt_rows.proofs.tables.Tables.apply.Given as goal

-- what is left to be made gives what all of them give
abbrev pub invariant-loop-change : goal.invariant-loop-change
invariant-loop-change l = record {
  left : apply_changes (into_iter_items l.change-iterator) l.self.state ≡ apply_changes l.fn.changes l.fn.self.state;
  room : length (into_iter_items l.change-iterator) ≤ l.self.room;
}
