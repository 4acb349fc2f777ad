use Rattle.std.proofs.Common.{◌≡◌, ℕ, List, ◌%◌, ◌<◌, length, slice_index, sym, ap, ◌∙◌, arith}
use Rattle.hash_index.specs.Hashes.{HashesView, places_below, places_with}
use Rattle.hash_index.proofs.Newest.{with_first, on_first}
use Rattle.hash_index.proofs.index.HashIndex.places.Goals as goal

pub places_from-requires : goal.places_from-requires
places_from-requires c =
    let i = c.self.inside in
    let count : c.len.result ≡ length i.heads.items = omega (arith, c.len.ensures, i.heads.ok) in
    let number : c.first_number-number.result ≡ slice_index i.heads.items (c.args.hash % length i.heads.items) =
    c.first_number-number.ensures ∙ ap (λ (heads : List ℕ). slice_index heads (c.args.hash % length heads)) c.deref.ensures.value in
    let some : 0 < length i.hashes.items → 0 < length i.heads.items = λ l. c.self.invariant.1.heads (omega (arith, i.hashes.ok)) in
    rw (count, c.deref-2.ensures.value, c.deref-3.ensures.value, number)
    (on_first i.hashes.items i.nexts.items i.heads.items c.args.hash c.self.invariant.0 some)

pub returns : goal.returns
returns c =
    let i = c.self.inside in
    let number : c.first_number-number.result ≡ slice_index i.heads.items (c.args.hash % length i.heads.items) =
    c.first_number-number.ensures ∙ ap (λ (heads : List ℕ). slice_index heads (c.args.hash % length heads)) c.deref.ensures.value in
    let some : 0 < length i.hashes.items → 0 < length i.heads.items = λ l. c.self.invariant.1.heads (omega (arith, i.hashes.ok)) in
    c.places_from.ensures
    ∙ ap (λ (hashes : List ℕ). places_below c.first_number-number.result c.args.hash hashes) c.deref-2.ensures.value
    ∙ ap (λ (n : ℕ). places_below n c.args.hash i.hashes.items) number
    ∙ sym (with_first i.hashes.items i.nexts.items i.heads.items c.args.hash c.self.invariant.0 some)
    ∙ ap (λ (view : HashesView). places_with c.args.hash view.hashes) c.self.view_is
