-- What a plan stands for: a reply, and changes whose application is the step.
use Rattle.std.specs.Prelude.{◌≡◌, ℕ, nat_eq, List, [], ◌∷◌, Option, Some, None, Result, Ok, Err, if◌then◌else◌}
use Rattle.bt_base.specs.declared.fail.Fail.{Fail}
use Rattle.bt_base.specs.declared.fail.Fail.TheVariants.{Why, Memory}
use Rattle.bt_rows.specs.Changes.{apply_changes}
use Rattle.bt_rows.specs.State.{State}
use Rattle.bt_rows.specs.declared.plan.Plan.{Plan}
use Rattle.bt_rows.specs.declared.refusal.Refusal.{Refusal}
use Rattle.bt_rows.specs.declared.reply.Reply.{Reply}
use Rattle.bt_rows.specs.declared.reply.Reply.TheVariants.{Refused, Step}
use Rattle.bt_rows.specs.declared.tables.Change.{Change}
use Rattle.bt_rows.specs.declared.tables.Change.TheVariants.{Now}
use Rattle.batch_model.specs.Events.{refuse}
use Rattle.batch_model.specs.Steps.{Answered, DueStep}

-- the tables at a moment
abbrev pub with_moment : ℕ → State → State
with_moment now s = record s { moment = now }

-- the plan has the reply of the answer, and its changes lead to the tables of the answer; a refusal that leaves the tables
-- makes no change
pub record IsPlanOf (answered : Answered) (s : State) (plan : Plan) : Type 0 where
  pub reply : plan.reply ≡ answered.reply
  pub state : apply_changes plan.changes s ≡ answered.state
  pub quiet : (refusal : Refusal) → answered.reply ≡ Refused refusal → answered.state ≡ s → plan.changes ≡ []

-- the reply is a refusal
abbrev pub IsRefused : Reply → Type 0
IsRefused (Refused refusal) = Unit {0}
IsRefused _ = ⊥

-- what a machine answers to an event at a moment: a plan of the answer, or the refusal that the answer is, which changes the
-- last moment alone
abbrev pub IsAnswer : ℕ → Answered → State → Result Plan (Fail Refusal) → Type 0
IsAnswer now answered s (Ok plan) = IsPlanOf answered s plan × (IsRefused plan.reply → ⊥)
IsAnswer now answered s (Err Memory) = Unit {0}
IsAnswer now answered s (Err (Why refusal)) = answered ≡ refuse refusal (with_moment now s)

-- the change of the last moment, if it is another
abbrev pub moved_to : ℕ → State → List Change
moved_to now s = if nat_eq s.moment now then [] else Now now ∷ []

-- a due step as an answer: its reply tells the step
abbrev pub answer_of_step : DueStep → Answered
answer_of_step step = record { reply = Step step.due; state = step.state }

-- the rule applies, and the plan is that of its step
pub record IsStepOf (rule : Option DueStep) (s : State) (plan : Plan) : Type 0 where
  pub step : DueStep
  pub applies : rule ≡ Some step
  pub planned : IsPlanOf (answer_of_step step) s plan

-- a plan exactly if the rule applies
abbrev pub IsRule : Option DueStep → State → Option Plan → Type 0
IsRule rule s None = rule ≡ None
IsRule rule s (Some plan) = IsStepOf rule s plan
