use Rattle.std.proofs.Common.{◌≡◌, ◌+◌, ◌<◌, ◌≤◌, ◌++◌, ℕ, length, map, take, get_or, vec_len, vec_capacity}
use Rattle.batch_serve.specs.Passes.{IsSameKind}
use Rattle.batch_serve.proofs.passes.take_passes.Given as goal

abbrev pub invariant-loop-worker : goal.invariant-loop-worker
invariant-loop-worker g l = record {
  taken : l.passes.items ≡ l.initial.passes.items ++ map (λ w. w.pass) (take l.worker-index l.initial.workers);
  room : vec_len l.passes + length l.initial.workers ≤ vec_capacity l.passes + l.worker-index;
  same_so_far : (k : ℕ) (d : _) → k < l.worker-index → IsSameKind (get_or l.initial.workers k d) (get_or l.workers k d);
  rest : (k : ℕ) (d : _) → l.worker-index ≤ k → get_or l.workers k d ≡ get_or l.initial.workers k d;
}
