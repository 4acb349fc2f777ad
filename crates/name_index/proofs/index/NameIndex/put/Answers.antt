use Rattle.std.proofs.Common.{rules, ◌≡◌}
use Rattle.name_index.proofs.Lookups.{put_number}
use Rattle.name_index.proofs.index.NameIndex.put.Goals as goal

pub returns-clause-put : goal.returns-clause-put
returns-clause-put c =
    let same : c.in_ok-name.name.items ≡ c.args.name.now = search rules in
    put_number c.args.self.now.numbers c.insert.new.self c.in_ok-name.name c.args.name.now c.args.number c.in_ok-insert.ensures.updates same
