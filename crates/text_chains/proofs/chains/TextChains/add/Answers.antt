use Rattle.std.proofs.Common.{◌≡◌, ℕ, ◌+◌, ◌-◌, ◌∷◌, ◌++◌, [], cond, List, length, ap, sym, subst, ◌∙◌, arith}
use Rattle.std.specs.Str.{bytes_eq}
use Rattle.hash_index.specs.Hashes.{text_hash}
use Rattle.text_chains.specs.declared.links.Link.{Link}
use Rattle.text_chains.specs.Chains.{ChainsView, places_of, AreHashed}
use Rattle.text_chains.proofs.PlacesOf.{places_kept, places_add, hashed_push}
use Rattle.text_chains.proofs.chains.TextChains.add.Goals as goal

pub invariant_of-self : goal.invariant_of-self
invariant_of-self c =
    let t = c.self.inside in
    let text = c.args.text.now in
    let link : Link = record { place = c.args.place; text_end = c.len-text_end.result } in
    let long : c.len-text_end.result ≡ length t.texts.items + length text = omega (arith, c.len-text_end.ensures, c.in-Ok.ensures.len, t.texts.ok) in
    let hashes = c.add.ensures.hashes ∙ ap (λ (hash : ℕ). t.index.hashes ++ hash ∷ []) c.text_hash.ensures in
    let room = c.self.invariant.1 in (
      subst (λ (hashes : List ℕ). AreHashed hashes c.push_reserved.new.self.items c.extend_from_slice.new.self.items) (sym hashes)
          (subst (λ (links : List Link). AreHashed (t.index.hashes ++ text_hash text ∷ []) links c.extend_from_slice.new.self.items)
          (sym c.push_reserved.ensures.items)
          (subst (λ (bytes : List ℕ). AreHashed (t.index.hashes ++ text_hash text ∷ []) (t.links.items ++ link ∷ []) bytes) (sym c.in-Ok.ensures.items)
          (hashed_push t.index.hashes t.links.items t.texts.items link text c.self.invariant.0 long))),
      record {
        hashes = omega (arith, room.hashes, c.add.ensures.room);
        links = omega (arith, room.links, c.push_reserved.ensures.len, c.push_reserved.ensures.capacity, c.requires.room);
        texts = omega (arith, room.texts, c.in-Ok.ensures.len, c.in-Ok.ensures.capacity, c.requires.short, c.requires.room);
      },
    )

pub returns-clause-places : goal.returns-clause-places
returns-clause-places c = λ other.
    let t = c.self.inside in
    let text = c.args.text.now in
    let link : Link = record { place = c.args.place; text_end = c.len-text_end.result } in
    let long : c.len-text_end.result ≡ length t.texts.items + length text = omega (arith, c.len-text_end.ensures, c.in-Ok.ensures.len, t.texts.ok) in
    places_kept (t.links.items ++ link ∷ []) c.push_reserved.new.self.items (t.texts.items ++ text) c.extend_from_slice.new.self.items t.room (t.room - 1)
    c.push_reserved.ensures.items c.in-Ok.ensures.items other
    ∙ places_add t.index.hashes t.links.items t.texts.items link text c.self.invariant.0 long t.room t.room other
    ∙ ap (λ (view : ChainsView). cond (bytes_eq text other) (c.args.place ∷ places_of view other) (places_of view other)) c.self.view_is
