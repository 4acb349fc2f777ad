use Rattle.std.proofs.Common.{◌≡◌, ℕ, ◌+◌, ◌<◌, not, count_by, sum_by, length, take, get_or, arith}
use Rattle.std.proofs.lemmas.List.Sums.{sum_by_more}
use Rattle.batch_model.specs.Readiness.{is_number_satisfied, numbers_of}
use Rattle.dependency_counts.specs.Counts.{state_of}
use Rattle.dependency_counts.proofs.dependencies.waiting_spans.Goals as goal

pub loop-span-preserved : goal.loop-span-preserved
loop-span-preserved c =
    let f = λ (span : ℕ × ℕ). count_by (λ number. not (is_number_satisfied (state_of c.args.lives.now) c.args.job.now number)) (numbers_of span) in
    let xs = c.args.spans.now in
    let i = c.loop-span.span-index in
    let inside : i < length xs = (let a = c.loop-span-test.true in omega arith) in
    let more : sum_by f (take (i + 1) xs) ≡ sum_by f (take i xs) + f (get_or xs i (0, 0)) = sum_by_more f xs i (0, 0) inside in
    let count : c.waiting_numbers-waiting.result ≡ f (get_or xs i (0, 0)) = c.waiting_numbers-waiting.ensures.count in
    let before : c.loop-span.waiting ≡ sum_by f (take i xs) = c.loop-span.invariant.so_far in
    record {
      so_far = cc (more, count, before);
      bound = let a = c.loop-span.invariant.bound in let b = c.waiting_numbers-waiting.ensures.bound in omega arith;
    }
