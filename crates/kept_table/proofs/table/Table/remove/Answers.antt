use Rattle.std.proofs.Common.{◌≡◌, ◌-◌, length, set, Some, None, ap, ◌∙◌, arith}
use Rattle.kept_table.specs.Slots.{TableView, place_of, has_text, rows}
use Rattle.kept_table.proofs.ByText.{of_key}
use Rattle.kept_table.proofs.Closing.{count_remove}
use Rattle.kept_table.proofs.PlacesOf.{place_of_within}
use Rattle.kept_table.proofs.KeptAfter.{kept_remove}
use Rattle.kept_table.proofs.table.Table.remove.Goals as goal

pub index_mut-requires : goal.index_mut-requires
index_mut-requires g c =
    let t = c.self.inside in
    let test = g.R.Keyed.has_key c.args.key.now in
    let some : place_of test t.slots.items ≡ Some c.args.place = ap (λ (v : TableView g.row.R.Denot). place_of test v.slots) c.self.view_is ∙ c.requires in
    omega (arith, place_of_within test t.slots.items c.args.place some, t.slots.ok)

pub overflow_sub-self : goal.overflow_sub-self
overflow_sub-self g c =
    let t = c.self.inside in
    let test = g.R.Keyed.has_key c.args.key.now in
    let some : place_of test t.slots.items ≡ Some c.args.place = ap (λ (v : TableView g.row.R.Denot). place_of test v.slots) c.self.view_is ∙ c.requires in
    omega (arith, c.self.invariant.2, count_remove test t.slots.items c.args.place some)

pub invariant_of-self : goal.invariant_of-self
invariant_of-self g c =
    let key = g.R.Keyed.row_text in
    let t = c.self.inside in
    let room = c.self.invariant.1 in
    let test = g.R.Keyed.has_key c.args.key.now in
    let some : place_of test t.slots.items ≡ Some c.args.place = ap (λ (v : TableView g.row.R.Denot). place_of test v.slots) c.self.view_is ∙ c.requires in
    let text = g.R.Keyed.key_text c.args.key.now in
    let by_text : place_of (has_text key text) t.slots.items ≡ Some c.args.place =
    of_key g.met.R.Keyed.texts_decide c.args.key.now t.slots.items ∙ some in
    let fewer : t.row_count - 1 ≡ length (rows (set t.slots.items c.args.place None)) =
    omega (arith, c.self.invariant.2, count_remove test t.slots.items c.args.place some) in (
      kept_remove key t.slots.items c.args.place text t.index.hashes by_text c.self.invariant.0,
      record { slots = room.slots; hashes = room.hashes },
      fewer,
    )
