-- Plans of due steps, from the line and the changes that they are made of.
use Rattle.std.proofs.Common.{◌≡◌, List, Option, Some, Result, Ok, Err, ◌∙◌, ap}
use Rattle.std.specs.Prelude.{IfOk}
use Rattle.bt_base.specs.declared.memory.NoMemory.{NoMemory}
use Rattle.bt_rows.specs.declared.due.Due.{Due}
use Rattle.bt_rows.specs.declared.plan.Plan.{Plan}
use Rattle.bt_rows.specs.declared.reply.Reply.TheVariants.{Step}
use Rattle.bt_rows.specs.declared.tables.Change.{Change}
use Rattle.bt_rows.specs.Changes.{apply_changes}
use Rattle.batch_model.specs.Steps.{DueStep}
use Rattle.batch_model.specs.Variants.{State}
use Rattle.machine_plans.specs.Plans.{IsPlanOf, IsStepOf, answer_of_step}

-- a plan with the line of a step, whose changes lead to the tables of the step
pub of_step : (result : Result Plan NoMemory) (told : Due) (changes : List Change) (s : State) (step : DueStep) → IfOk result (λ plan. plan.reply ≡ Step told) → IfOk result (λ plan. plan.changes ≡ changes) → told ≡ step.due → apply_changes changes s ≡ step.state → IfOk result (IsPlanOf (answer_of_step step) s)
of_step (Ok plan) told changes s step replied made due state = record {
  reply = replied ∙ ap Step due;
  state = ap (λ each. apply_changes each s) made ∙ state;
  quiet = λ refusal told_so k. cc;
}
of_step (Err error) told changes s step replied made due state = tt

-- a plan if a rule applies
pub of_rule : (rule : Option DueStep) (step : DueStep) (s : State) (plan : Plan) → rule ≡ Some step → IsPlanOf (answer_of_step step) s plan → IsStepOf rule s plan
of_rule rule step s plan applies planned = record { step = step; applies = applies; planned = planned }
