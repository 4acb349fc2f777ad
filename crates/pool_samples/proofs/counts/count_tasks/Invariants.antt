use Rattle.std.proofs.Common.{◌≡◌}
use Rattle.pool_samples.specs.Counts.{plus}
use Rattle.pool_samples.proofs.CountedTasks.{counts_in}
use Rattle.pool_samples.proofs.counts.count_tasks.Given as goal

-- the counts so far and those of the tasks that are left are those of all
abbrev pub invariant-loop-task : goal.invariant-loop-task
invariant-loop-task l = plus l.counts (counts_in l.indexed.state l.pool l.task-iterator) ≡ counts_in l.indexed.state l.pool l.indexed.state.tasks
