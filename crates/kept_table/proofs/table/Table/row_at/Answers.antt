use Rattle.std.proofs.Common.{◌<◌, ◌≤◌, length, sym, ◌∙◌}
use Rattle.std.proofs.lemmas.Bool.{ltb-true, ltb-false}
use Rattle.kept_table.proofs.PlacesOf.{slot_at_get, slot_at_past}
use Rattle.kept_table.proofs.table.Table.row_at.Goals as goal

pub returns-in-None : goal.returns-in-None
returns-in-None g c =
    let xs = c.self.inside.slots.items in
    let past : length c.deref.result.now ≤ c.args.place = ltb-false c.args.place (length c.deref.result.now) (sym c.in-None.ensures.lookup.0) in
    let past' : length xs ≤ c.args.place = rw c.deref.ensures.value at past in
    rw (← c.self.view_is) (sym (slot_at_past xs c.args.place past'))

pub returns-in-Some : goal.returns-in-Some
returns-in-Some g c =
    let xs = c.self.inside.slots.items in
    let low : c.args.place < length c.deref.result.now = ltb-true c.args.place (length c.deref.result.now) (sym c.in-Some.ensures.lookup.0) in
    let low' : c.args.place < length xs = rw c.deref.ensures.value at low in
    rw (← c.self.view_is) (c.as_ref.ensures.value ∙ (rw c.deref.ensures.value at c.in-Some.ensures.lookup.1)
    ∙ sym (slot_at_get xs c.args.place c.in-Some.slot.now low'))
