use Rattle.std.proofs.Common.{◌≡◌, ◌<◌, ◌≤◌, ℕ, [], get_or}
use Rattle.counted_lock.specs.Passes.{IsPassOf}
use Rattle.counted_lock.specs.Views.{places_of, unnumbered}
use Rattle.batch_serve.specs.Passes.{IsGiven}
use Rattle.batch_serve.proofs.Numbers.{AreBelow, Rise}
use Rattle.batch_serve.proofs.passes.give_passes.Given as goal

abbrev pub invariant-loop-worker : goal.invariant-loop-worker
invariant-loop-worker g l = record {
  next : IsPassOf l.desk l.next;
  fresh : places_of l.next.number l.next.seen ≡ [];
  opened : unnumbered l.next.seen ≡ [];
  given_so_far : (k : ℕ) (d : _) → k < l.worker-index → IsGiven l.desk (get_or l.initial.workers k d) (get_or l.workers k d);
  below : AreBelow (λ w. w.pass.number) l.workers l.worker-index l.next.number;
  rise : Rise (λ w. w.pass.number) l.workers l.worker-index;
  rest : (k : ℕ) (d : _) → l.worker-index ≤ k → get_or l.workers k d ≡ get_or l.initial.workers k d;
}
