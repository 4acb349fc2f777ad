use Rattle.kept_table.proofs.NumberBytes.{IsLeft}
use Rattle.kept_table.proofs.key_text.KeyText.push_number.Given as goal

abbrev pub invariant-loop : goal.invariant-loop
invariant-loop l = IsLeft l.fn.self l.self l.number l.rest l.counter
