use Rattle.std.proofs.Common.{refl, ap, ◌∙◌}
use Rattle.text_chains.specs.Chains.{ChainsView, places_of}
use Rattle.text_chains.proofs.PlacesOf.{places_kept}
use Rattle.text_chains.proofs.chains.TextChains.reserve.Goals as goal

pub returns-in_default-clause-places : goal.returns-in_default-clause-places
returns-in_default-clause-places c = λ text.
    let t = c.self.inside in
    places_kept t.links.items t.links.items t.texts.items t.texts.items t.room 0 refl refl text
    ∙ ap (λ (view : ChainsView). places_of view text) c.self.view_is

pub returns-in_err-reserve-clause-places : goal.returns-in_err-reserve-clause-places
returns-in_err-reserve-clause-places c = λ text.
    let t = c.self.inside in
    places_kept t.links.items t.links.items t.texts.items t.texts.items t.room 0 refl refl text
    ∙ ap (λ (view : ChainsView). places_of view text) c.self.view_is

pub returns-in_err-reserve-2-clause-places : goal.returns-in_err-reserve-2-clause-places
returns-in_err-reserve-2-clause-places c = λ text.
    let t = c.self.inside in
    places_kept t.links.items c.reserve-2.new.self.items t.texts.items t.texts.items t.room 0 c.reserve-2.ensures.items refl text
    ∙ ap (λ (view : ChainsView). places_of view text) c.self.view_is

pub returns-in_err-reserve-3-clause-places : goal.returns-in_err-reserve-3-clause-places
returns-in_err-reserve-3-clause-places c = λ text.
    let t = c.self.inside in
    places_kept t.links.items c.reserve-2.new.self.items t.texts.items c.reserve-3.new.self.items t.room 0 c.reserve-2.ensures.items
    c.reserve-3.ensures.items text
    ∙ ap (λ (view : ChainsView). places_of view text) c.self.view_is

pub returns-clause-places : goal.returns-clause-places
returns-clause-places c = λ text.
    let t = c.self.inside in
    places_kept t.links.items c.reserve-2.new.self.items t.texts.items c.reserve-3.new.self.items t.room c.args.additional c.reserve-2.ensures.items
    c.reserve-3.ensures.items text
    ∙ ap (λ (view : ChainsView). places_of view text) c.self.view_is
