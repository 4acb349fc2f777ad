use Rattle.row_keys.proofs.KeptNumbers.{number_none}
use Rattle.row_keys.proofs.key_numbers.KeyNumbers.new.Goals as goal

pub returns : goal.returns
returns c = λ text. number_none c.new.result.entries c.new.ensures.empty text
