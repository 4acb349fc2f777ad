use Rattle.std.proofs.Common.{sym}
use Rattle.batch_model.specs.Settling.{is_over}
use Rattle.job_machine.proofs.FewFailures.{few_failures}
use Rattle.job_machine.proofs.settle.settle_first.Goals as goal

pub settle-requires : goal.settle-requires
settle-requires c =
    let s = c.args.indexed.now.state in
    record {
      keys = c.requires.keys;
      apart = c.requires.apart;
      found = sym c.in-Some.ensures;
      few = few_failures s (is_over s) c.in-Some.task.now c.requires.rows c.requires.fitting c.requires.counts (sym c.in-Some.ensures);
    }
