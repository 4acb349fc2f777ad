use Rattle.formula_laws.proofs.Quotes.{string_is_its_bytes}
use Rattle.formula_laws.proofs.strings.strings_are_their_bytes.Goals as goal

pub returns : goal.returns
returns = λ _ text before after token valid e is. string_is_its_bytes text before after token valid e is
