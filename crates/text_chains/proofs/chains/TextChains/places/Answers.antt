use Rattle.std.proofs.Common.{ℕ, List, sym, ap, subst, ◌∙◌}
use Rattle.hash_index.specs.Hashes.{places_with}
use Rattle.text_chains.specs.declared.links.Link.{Link}
use Rattle.text_chains.specs.Chains.{ChainsView, places_of, placed, AreNumbers}
use Rattle.text_chains.proofs.PlacesOf.{places_found, numbers_found}
use Rattle.text_chains.proofs.chains.TextChains.places.Goals as goal

pub places_from-requires-clause-numbers : goal.places_from-requires-clause-numbers
places_from-requires-clause-numbers c =
    let t = c.self.inside in
    subst (λ (links : List Link). AreNumbers links c.places-numbers.result) (sym c.as_slice.ensures.value)
    (subst (AreNumbers t.links.items) (sym c.places-numbers.ensures)
    (numbers_found t.index.hashes t.links.items t.texts.items c.args.text.now c.self.invariant.0 c.text_hash.result))

pub returns : goal.returns
returns c =
    let t = c.self.inside in
    let text = c.args.text.now in
    c.places_from.ensures
    ∙ ap (λ (links : List Link). placed links c.as_slice-2.result.now text c.places-numbers.result) c.as_slice.ensures.value
    ∙ ap (λ (bytes : List ℕ). placed t.links.items bytes text c.places-numbers.result) c.as_slice-2.ensures.value
    ∙ ap (placed t.links.items t.texts.items text)
    (c.places-numbers.ensures ∙ ap (λ (hash : ℕ). places_with hash t.index.hashes) c.text_hash.ensures)
    ∙ places_found t.index.hashes t.links.items t.texts.items text c.self.invariant.0 t.room
    ∙ ap (λ (view : ChainsView). places_of view text) c.self.view_is
