use Rattle.machine_plans.specs.Plans.{with_moment}
use Rattle.task_requests.proofs.AnsweredTasks.{answered_at}
use Rattle.task_requests.proofs.collection.collect.Goals as goal

pub loop-spec-preserved : goal.loop-spec-preserved
loop-spec-preserved c = λ now.
    answered_at (with_moment now c.args.tables.now.state) c.args.job.now c.args.specs.now c.loop-spec.spec-index
    c.loop-spec.collected.elements.items c.loop-spec.collected.tasks.items c.spec-item.result
    c.add_element.new.collected.elements.items c.add_element.new.collected.tasks.items
    c.loop-spec-test.true c.spec-item.is c.in_ok-add_element.ensures.elements c.in_ok-add_element.ensures.tasks
    (c.loop-spec.invariant now)
