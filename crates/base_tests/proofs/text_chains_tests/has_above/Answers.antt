use Rattle.std.proofs.Common.{nat_lt, slice_index, rules}
use Rattle.std.proofs.lemmas.Iterator.Consumers.{YieldsList-from_first}
use Rattle.std.proofs.lemmas.Iterator.Search.{any_from_yields_List}
use Rattle.text_chains.specs.Chains.{places_of}
use Rattle.base_tests.proofs.text_chains_tests.has_above.Goals as goal

pub returns : goal.returns
returns c =
    any_from_yields_List (λ place. nat_lt c.args.low (slice_index c.args.values.now place)) _ _ c.any.result c.any.ensures.ran
    (YieldsList-from_first (λ place. place) (λ places. places) (places_of c.args.chains.now c.args.text.now) c.places.ensures)
    (λ x b q called. search rules)
