use Rattle.std.proofs.Common.{◌≡◌, ◌∷◌, List, length, Option, Some, None, sym, ap, subst, ◌∙◌, arith}
use Rattle.std.specs.Vec.Iter.{into_iter_items}
use Rattle.kept_table.proofs.ByText.{of_row}
use Rattle.kept_table.proofs.Closing.{IsMoving, moving_new, moving_past}
use Rattle.kept_table.proofs.table.with_rows_of.Goals as goal

pub push-requires-clause-new : goal.push-requires-clause-new
push-requires-clause-new g c =
    let key = g.R.Keyed.row_text in
    let done = c.loop-slot.table.slots in
    let row = c.in-Some-slot.row in
    let rest = into_iter_items c.next.new.self in
    let is : into_iter_items c.loop-slot.slot-iterator ≡ Some row ∷ rest =
    c.in-Some.ensures.steps.0 ∙ ap (λ (s : Option g.row.R.Denot). s ∷ rest) c.in-Some-slot.is in
    let moving =
    subst (λ (xs : List (Option g.row.R.Denot)). IsMoving key c.args.slots.items c.args.table.room done xs c.loop-slot.table.room) is
    c.loop-slot.invariant.moving in
    sym (of_row g.met.R.Keyed.texts_decide row done) ∙ (moving_new key c.args.slots.items done rest c.args.table.room c.loop-slot.table.room row moving).0

pub loop-slot-preserved : goal.loop-slot-preserved
loop-slot-preserved g c =
    let key = g.R.Keyed.row_text in
    let done = c.loop-slot.table.slots in
    let rest = into_iter_items c.next.new.self in
    let is : into_iter_items c.loop-slot.slot-iterator ≡ None ∷ rest =
    c.in-Some.ensures.steps.0 ∙ ap (λ (s : Option g.row.R.Denot). s ∷ rest) c.in-None-slot.is in
    let moving =
    subst (λ (xs : List (Option g.row.R.Denot)). IsMoving key c.args.slots.items c.args.table.room done xs c.loop-slot.table.room) is
    c.loop-slot.invariant.moving in
    record {
      next = tt;
      ends = tt;
      long = omega (arith, c.loop-slot.invariant.long, c.in-Some.ensures.steps.1, ap length c.in-Some.ensures.steps.0);
      moving = moving_past key c.args.slots.items done rest c.args.table.room c.loop-slot.table.room moving;
    }
