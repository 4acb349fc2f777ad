use Rattle.std.proofs.Common.{◌≡◌, ◌++◌, ◌<◌, ◌≤◌, ℕ, get_or, take}
use mathlib.Core.List.{IsPrefix}
use Rattle.counted_lock.specs.Passes.{PassState, numbers_of, lent}
use Rattle.counted_lock.specs.Closing.{IsGatherer}
use Rattle.counted_lock.proofs.closing.lend_all.Given as goal

abbrev pub invariant-loop-pass : goal.invariant-loop-pass
invariant-loop-pass g l = record {
  same : l.all.table_id ≡ l.initial.all.table_id;
  gatherer : IsGatherer l.all.me;
  parts : l.all.me.0.parts ≡ l.initial.all.me.0.parts ++ numbers_of (take l.pass-index l.initial.pass-items);
  heard : (k : ℕ) (d : PassState g.row.E.Denot g.row.O.Denot) → k < l.pass-index → IsPrefix (get_or l.initial.pass-items k d).seen l.all.me.0.seen;
  lent_so_far : (k : ℕ) (d : PassState g.row.E.Denot g.row.O.Denot) → k < l.pass-index → get_or l.pass-items k d ≡ lent (get_or l.initial.pass-items k d);
  rest : (k : ℕ) (d : PassState g.row.E.Denot g.row.O.Denot) → l.pass-index ≤ k → get_or l.pass-items k d ≡ get_or l.initial.pass-items k d;
}
