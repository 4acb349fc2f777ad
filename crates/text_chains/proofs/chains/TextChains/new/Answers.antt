use Rattle.std.proofs.Common.{◌∙◌, []}
use Rattle.text_chains.proofs.PlacesOf.{places_kept, places_none}
use Rattle.text_chains.proofs.chains.TextChains.new.Goals as goal

pub returns : goal.returns
returns c = λ text.
    places_kept [] c.new-2.result.items [] c.new-3.result.items 0 0 c.new-2.ensures.items c.new-3.ensures.items text ∙ places_none 0 text
