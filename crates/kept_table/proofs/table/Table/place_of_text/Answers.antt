use Rattle.std.proofs.Common.{◌≡◌, ℕ, List, Option, ap, subst, ◌∙◌}
use Rattle.std.specs.List.{find}
use Rattle.hash_index.specs.Hashes.{text_hash, places_with}
use Rattle.kept_table.specs.Slots.{TableView, holds, has_text, slot_at, place_of}
use Rattle.kept_table.proofs.Found.{found_by_hash}
use Rattle.kept_table.proofs.table.Table.place_of_text.Goals as goal

pub returns : goal.returns
returns g c =
    let key = g.R.Keyed.row_text in
    let text = c.args.text.now in
    let t = c.self.inside in
    let places : c.places-places.result ≡ places_with (text_hash text) t.index.hashes =
    c.places-places.ensures ∙ ap (λ (hash : ℕ). places_with hash t.index.hashes) (c.text_hash.ensures ∙ ap text_hash c.as_slice.ensures.bytes) in
    let same : t.slots.items ≡ c.args.self.now.slots = ap (λ (v : TableView g.row.R.Denot). v.slots) c.self.view_is in
    c.place_among.ensures
    ∙ (ap (find (λ at. holds (has_text key text) (slot_at c.args.self.now.slots at))) places
    ∙ subst
    (λ (xs : List (Option g.row.R.Denot)).
    find (λ at. holds (has_text key text) (slot_at xs at)) (places_with (text_hash text) t.index.hashes) ≡ place_of (has_text key text) xs) same
    (found_by_hash key text t.slots.items t.index.hashes c.self.invariant.0))
