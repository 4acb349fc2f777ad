use Rattle.std.proofs.Common.{ℕ, List, sym, ap, ◌∙◌}
use Rattle.row_keys.specs.Numbers.{number_at}
use Rattle.row_keys.proofs.KeptNumbers.{number_is}
use Rattle.row_keys.proofs.key_numbers.KeyNumbers.number.Goals as goal

pub returns : goal.returns
returns c =
    c.number_in.ensures ∙ sym (number_is c.self.inside.numbers.entries c.args.text.now)
    ∙ ap (λ (view : List (List ℕ × ℕ)). number_at view c.args.text.now) c.self.view_is
