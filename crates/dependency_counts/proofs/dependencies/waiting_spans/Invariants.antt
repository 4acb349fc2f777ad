use Rattle.std.proofs.Common.{◌≡◌, ℕ, ◌*◌, ◌≤◌, ◌^◌, take, not, sum_by, count_by}
use Rattle.batch_model.specs.Readiness.{is_number_satisfied, numbers_of}
use Rattle.dependency_counts.specs.Counts.{state_of}
use Rattle.dependency_counts.proofs.dependencies.waiting_spans.Given as goal

-- what the ranges so far wait for
abbrev pub invariant-loop-span : goal.invariant-loop-span
invariant-loop-span l = record {
  so_far : l.waiting
      ≡ sum_by (λ (span : ℕ × ℕ). count_by (λ number. not (is_number_satisfied (state_of l.lives) l.job number)) (numbers_of span)) (take l.span-index l.spans);
  bound : l.waiting ≤ l.span-index * 2 ^ 32;
}
