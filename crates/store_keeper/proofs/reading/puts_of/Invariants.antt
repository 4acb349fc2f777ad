use Rattle.std.proofs.Common.{◌≡◌, [], drop}
use Rattle.store_keeper.proofs.Puts.{all_puts}
use Rattle.store_keeper.proofs.reading.puts_of.Given as goal

-- the puts so far and those of the entries that are left are the puts of all
abbrev pub invariant-loop-entry : goal.invariant-loop-entry
invariant-loop-entry g l =
    all_puts g.T.StoredRow.key_of g.T.StoredRow.keyed g.T.TableRow.in_data g.T.StoredRow.put l.puts.items (drop l.entry-index l.entries)
    ≡ all_puts g.T.StoredRow.key_of g.T.StoredRow.keyed g.T.TableRow.in_data g.T.StoredRow.put [] l.entries
