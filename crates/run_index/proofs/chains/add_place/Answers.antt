use Rattle.std.proofs.Common.{refl}
use Rattle.text_chains.specs.Chains.{places_of}
use Rattle.run_index.proofs.TextPlaces.{place_added, not_has}
use Rattle.run_index.proofs.chains.add_place.Goals as goal

pub returns-then-not-has-clause-places : goal.returns-then-not-has-clause-places
returns-then-not-has-clause-places c =
    let old = c.args.chains.now in
    let text = c.args.text.now in
    let places = places_of old text in
    place_added old c.add.new.self text c.args.place
    (not_has c.has.result places places c.args.place c.if-not-has.true c.has.ensures refl)
    (λ other. c.add.ensures.places other)
