use Rattle.std.proofs.Common.{◌≡◌, Some, subst, sym}
use Rattle.batch_model.specs.Rows.{job_of}
use Rattle.batch_model.specs.Variants.{State}
use Rattle.job_machine.proofs.FoundJobs.{own_id}
use Rattle.job_machine.proofs.settle.settle.Goals as goal

pub settle_by-requires-clause-there : goal.settle_by-requires-clause-there
settle_by-requires-clause-there c =
    own_id c.args.task.now.job c.in-Some.job.now c.args.indexed.now.state c.requires.keys
    (subst (λ (s : State). job_of s c.args.task.now.job ≡ Some c.in-Some.job.now) c.tables.ensures (sym c.in-Some.ensures))
