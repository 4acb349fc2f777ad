-- Answers of events: a refusal, or a status with the tables after the event.
-- Source: Azure Batch REST reference, status codes and error codes; the form is this project's own.
use Rattle.std.specs.Prelude.{ℕ, List, Option, Some, None}
use Rattle.std.specs.Option.{option_map_or}
use Rattle.bt_rows.specs.declared.refusal.Refusal.{Refusal}
use Rattle.bt_rows.specs.declared.reply.Reply.TheVariants.{Status, Refused}
use Rattle.batch_model.specs.Finding.{first_of}
use Rattle.batch_model.specs.Steps.{Answered}
use Rattle.batch_model.specs.Variants.{State}

-- a refusal leaves the tables
abbrev pub refuse : Refusal → State → Answered
refuse refusal s = record { reply = Refused refusal; state = s }

-- a status and the tables after the event
abbrev pub accept : ℕ → State → Answered
accept status after = record { reply = Status status; state = after }

-- the first refusal that there is, and else a status and the tables after the event
abbrev pub answer : State → List (Option Refusal) → ℕ → State → Answered
answer s refusals status after = option_map_or (λ refusal. refuse refusal s) (first_of refusals) (accept status after)

-- the answer for a row, or the refusal if there is none
abbrev pub for_row : {R : Type 0} → State → Refusal → (R → Answered) → Option R → Answered
for_row s refusal answer_for None = refuse refusal s
for_row s refusal answer_for (Some row) = answer_for row
