use Rattle.std.proofs.Common.{◌≡◌, ◌+◌, ◌<◌, ◌^◌, List, [], sym, subst, rules}
use Rattle.batch_model.specs.Variants.{TaskRow}
use Rattle.pool_samples.specs.declared.counts.TaskCounts.{TaskCounts}
use Rattle.pool_samples.specs.Counts.{plus}
use Rattle.pool_samples.proofs.CountedTasks.{all_counted, counts_in, few_so_far}
use Rattle.pool_samples.proofs.counts.count_tasks.Goals as goal

pub plus-counts-requires-clause-active : goal.plus-counts-requires-clause-active
plus-counts-requires-clause-active c =
    let s = c.args.indexed.now.state in
    let pool = c.args.pool.now in
    let counts = c.loop-task.counts in
    subst (λ (part : TaskCounts). counts.active + part.active < 2 ^ 32) (sym c.task_counts.ensures)
    (few_so_far s pool counts c.in-Some.task.now c.next.new.self c.requires
    (subst (λ (tasks : List TaskRow). plus counts (counts_in s pool tasks) ≡ counts_in s pool s.tasks) c.in-Some.ensures.steps c.loop-task.invariant)).active

pub returns : goal.returns
returns c =
    let s = c.args.indexed.now.state in
    let pool = c.args.pool.now in
    let all : plus c.loop-task.counts (counts_in s pool []) ≡ counts_in s pool s.tasks = search rules in
    all_counted s pool c.loop-task.counts all
