use Rattle.std.proofs.Common.{ℕ, drop}
use Rattle.machine_plans.specs.Plans.{with_moment}
use Rattle.task_requests.specs.Collections.{IsAnsweredTo}
use Rattle.task_requests.proofs.collection.collect.Given as goal

-- what is answered and what is left make the whole
abbrev pub invariant-loop-spec : goal.invariant-loop-spec
invariant-loop-spec l = (now : ℕ) → IsAnsweredTo (with_moment now l.tables.state) l.job l.specs (drop l.spec-index l.specs) l.collected.elements.items l.collected.tasks.items
