use Rattle.std.proofs.Common.{◌≡◌, length}
use Rattle.std.specs.Vec.Iter.{into_iter_items, into_iter_len}
use Rattle.kept_table.proofs.Closing.{IsMoving}
use Rattle.kept_table.proofs.table.with_rows_of.Given as goal

abbrev pub invariant-loop-slot : goal.invariant-loop-slot
invariant-loop-slot g l = record {
  next : (goal.iterator-loop-slot g).can_next l.slot-iterator;
  ends : (goal.iterator-loop-slot g).is_finite l.slot-iterator;
  long : length (into_iter_items l.slot-iterator) ≡ into_iter_len l.slot-iterator;
  moving : IsMoving g.R.Keyed.row_text l.fn.slots.items l.fn.table.room l.table.slots (into_iter_items l.slot-iterator) l.table.room;
}
