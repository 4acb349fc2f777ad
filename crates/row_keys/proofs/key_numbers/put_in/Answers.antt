use Rattle.std.proofs.Common.{Some}
use Rattle.kept_table.proofs.Updates.{updates_bytes}
use Rattle.row_keys.proofs.key_numbers.put_in.Goals as goal

pub returns : goal.returns
returns c = λ other. updates_bytes c.args.text.items c.args.numbers.now c.insert.new.self (Some c.args.number) c.in_ok-insert.ensures.updates other
