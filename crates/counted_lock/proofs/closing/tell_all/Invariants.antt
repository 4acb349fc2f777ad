use Rattle.std.proofs.Common.{◌≡◌, ◌<◌, ◌≤◌, ℕ, get_or}
use Rattle.counted_lock.specs.Views.{places_of, unnumbered}
use Rattle.counted_lock.specs.Passes.{PassState}
use Rattle.counted_lock.proofs.closing.tell_all.Given as goal

abbrev pub invariant-loop-pass : goal.invariant-loop-pass
invariant-loop-pass g l = record {
  same : l.all.table_id ≡ l.initial.all.table_id;
  me : l.all.me ≡ l.initial.all.me;
  told : (k : ℕ) (d : PassState g.row.E.Denot g.row.O.Denot) → k < l.pass-index → places_of (get_or l.initial.pass-items k d).number l.initial.all.me.0.seen
      ≡ places_of (get_or l.initial.pass-items k d).number (get_or l.initial.pass-items k d).seen;
  opened : (k : ℕ) (d : PassState g.row.E.Denot g.row.O.Denot) → k < l.pass-index → unnumbered l.initial.all.me.0.seen
      ≡ unnumbered (get_or l.initial.pass-items k d).seen;
  rest : (k : ℕ) (d : PassState g.row.E.Denot g.row.O.Denot) → l.pass-index ≤ k → get_or l.pass-items k d ≡ get_or l.initial.pass-items k d;
}
