use Rattle.std.proofs.Common.{◌≡◌, ℕ, ◌+◌, ◌<◌, List, [], ◌∷◌, ◌++◌, length, Option, None, sym, ap, subst, ◌∙◌, arith}
use Rattle.hash_index.specs.Hashes.{text_hash}
use Rattle.kept_table.specs.Slots.{TableView, place_of, has_text, rows, IsKept}
use Rattle.kept_table.proofs.ByText.{of_row}
use Rattle.kept_table.proofs.Closing.{rows_within, count_push}
use Rattle.kept_table.proofs.KeptAfter.{kept_push}
use Rattle.kept_table.proofs.table.Table.push.Goals as goal

pub overflow_add-self : goal.overflow_add-self
overflow_add-self g c =
    let t = c.self.inside in
    omega (arith, c.self.invariant.2, rows_within t.slots.items, t.slots.ok, t.slots.small)

pub invariant_of-self : goal.invariant_of-self
invariant_of-self g c =
    let key = g.R.Keyed.row_text in
    let row = c.args.row in
    let t = c.self.inside in
    let room = c.self.invariant.1 in
    let same_room : t.room ≡ c.args.self.now.room = ap (λ (v : TableView g.row.R.Denot). v.room) c.self.view_is in
    let free : 0 < t.room = omega (arith, c.requires.room) in
    let none : place_of (has_text key (key row)) t.slots.items ≡ None =
    of_row g.met.R.Keyed.texts_decide row t.slots.items
    ∙ (ap (λ (v : TableView g.row.R.Denot). place_of (λ old. g.R.Keyed.same_key old row) v.slots) c.self.view_is ∙ c.requires.new) in
    let hash : c.text_hash.result ≡ text_hash (key row) =
    c.text_hash.ensures ∙ ap text_hash (c.as_slice.ensures.bytes ∙ c.row_text-key.ensures) in
    let kept = kept_push key t.slots.items row t.index.hashes c.text_hash.result none hash c.self.invariant.0 in (
      subst (λ (hashes : List ℕ). IsKept key c.push_reserved.new.self.items hashes) (sym c.add.ensures.hashes)
          (subst (λ (xs : List (Option g.row.R.Denot)). IsKept key xs (t.index.hashes ++ c.text_hash.result ∷ []))
          (sym {A = List (Option g.row.R.Denot)} c.push_reserved.ensures.items) kept),
      record {
        slots = omega (arith, room.slots, c.push_reserved.ensures.len, c.push_reserved.ensures.capacity);
        hashes = omega (arith, room.hashes, c.add.ensures.room);
      },
      subst (λ (xs : List (Option g.row.R.Denot)). t.row_count + 1 ≡ length (rows xs)) (sym {A = List (Option g.row.R.Denot)} c.push_reserved.ensures.items)
          (ap (λ (n : ℕ). n + 1) c.self.invariant.2 ∙ sym (count_push t.slots.items row)),
    )
