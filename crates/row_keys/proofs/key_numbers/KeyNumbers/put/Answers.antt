use Rattle.std.proofs.Common.{ℕ, List, Some, cond, ap, ◌∙◌}
use Rattle.std.specs.Str.{bytes_eq}
use Rattle.row_keys.specs.Numbers.{number_at, numbers_of}
use Rattle.row_keys.proofs.KeptNumbers.{number_put}
use Rattle.row_keys.proofs.key_numbers.KeyNumbers.put.Goals as goal

pub returns : goal.returns
returns c = λ other.
    let numbers = c.self.inside.numbers in
    number_put numbers c.put_in.new.numbers c.into_vec.result.items c.args.number c.in_ok-put_in.ensures other
    ∙ ap (λ (text : List ℕ). cond (bytes_eq text other) (Some c.args.number) (number_at (numbers_of numbers.entries) other)) c.into_vec.ensures
    ∙ ap (λ (view : List (List ℕ × ℕ)). cond (bytes_eq c.args.text other) (Some c.args.number) (number_at view other)) c.self.view_is
