use Rattle.std.proofs.Common.{◌≡◌}
use Rattle.std.specs.List.{find}
use Rattle.kept_table.specs.Slots.{holds, has_text, slot_at}
use Rattle.kept_table.proofs.table.Table.place_among.Given as goal

-- a search of the places that are left finds what a search of all finds
abbrev pub invariant-loop-place : goal.invariant-loop-place
invariant-loop-place g l = record {
  next : (goal.iterator-loop-place g).can_next l.place-iterator;
  ends : (goal.iterator-loop-place g).is_finite l.place-iterator;
  left : find (λ at. holds (has_text g.R.Keyed.row_text l.text) (slot_at l.self.slots at)) l.place-iterator
      ≡ find (λ at. holds (has_text g.R.Keyed.row_text l.text) (slot_at l.self.slots at)) l.fn.places;
}
