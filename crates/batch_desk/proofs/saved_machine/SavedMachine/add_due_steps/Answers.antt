use Rattle.std.proofs.Common.{arith, rules, subst}
use Rattle.batch_desk.specs.Turns.{MakesDue}
use Rattle.batch_desk.proofs.DueRuns.{dues_more, turn_falls}
use Rattle.batch_desk.proofs.saved_machine.SavedMachine.add_due_steps.Goals as goal

pub loop-alloc-smaller : goal.loop-alloc-smaller
loop-alloc-smaller g c =
    let made = rw c.in-Ok-Some.field-0-is at c.in-Ok-Some.ensures.ok in
    rw c.due_step.ensures.seats (turn_falls c.loop-alloc.self.seats c.loop-alloc.self.state c.due_step.new.self.state c.in-Ok-Some.due made)

pub loop-alloc-preserved : goal.loop-alloc-preserved
loop-alloc-preserved g c =
    let made = rw c.in-Ok-Some.field-0-is at c.in-Ok-Some.ensures.ok in
    record {
      so = dues_more c.args.self.now.seats c.loop-alloc.dues.items c.push_reserved.new.self.items c.args.self.now.state c.loop-alloc.self.state
          c.due_step.new.self.state c.in-Ok-Some.due c.loop-alloc.invariant.so
          (subst (λ n. MakesDue n c.loop-alloc.self.state c.due_step.new.self.state c.in-Ok-Some.due) c.loop-alloc.invariant.seats made) (search rules);
      seats = search rules;
      later = omega (arith, c.due_step.ensures.cause.later);
    }
