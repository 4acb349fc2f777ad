use Rattle.std.proofs.Common.{◌≡◌, Some, ap, sym, ◌∙◌, arith}
use Rattle.kept_table.specs.Slots.{TableView, place_of, has_text}
use Rattle.kept_table.proofs.ByText.{of_row}
use Rattle.kept_table.proofs.Closing.{count_replace}
use Rattle.kept_table.proofs.PlacesOf.{place_of_within}
use Rattle.kept_table.proofs.KeptAfter.{kept_replace}
use Rattle.kept_table.proofs.table.Table.replace.Goals as goal

pub index_mut-requires : goal.index_mut-requires
index_mut-requires g c =
    let t = c.self.inside in
    let test = λ (old : g.row.R.Denot). g.R.Keyed.same_key old c.args.row in
    let some : place_of test t.slots.items ≡ Some c.args.place = ap (λ (v : TableView g.row.R.Denot). place_of test v.slots) c.self.view_is ∙ c.requires in
    omega (arith, place_of_within test t.slots.items c.args.place some, t.slots.ok)

pub invariant_of-self : goal.invariant_of-self
invariant_of-self g c =
    let key = g.R.Keyed.row_text in
    let t = c.self.inside in
    let room = c.self.invariant.1 in
    let test = λ (old : g.row.R.Denot). g.R.Keyed.same_key old c.args.row in
    let some : place_of test t.slots.items ≡ Some c.args.place = ap (λ (v : TableView g.row.R.Denot). place_of test v.slots) c.self.view_is ∙ c.requires in
    let by_text : place_of (has_text key (key c.args.row)) t.slots.items ≡ Some c.args.place =
    of_row g.met.R.Keyed.texts_decide c.args.row t.slots.items ∙ some in (
      kept_replace key t.slots.items c.args.place c.args.row t.index.hashes by_text c.self.invariant.0,
      record { slots = room.slots; hashes = room.hashes },
      c.self.invariant.2 ∙ sym (count_replace test t.slots.items c.args.place c.args.row some),
    )
