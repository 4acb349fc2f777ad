-- What a step gives: its reply or its line, and the tables after it.
-- Source: this project's own.
use Rattle.std.specs.Prelude.{Bool, Option, Some}
use Rattle.bt_rows.specs.declared.refusal.Refusal.{Refusal}
use Rattle.bt_rows.specs.declared.reply.Reply.{Reply}
use Rattle.bt_rows.specs.declared.due.Due.{Due}
use Rattle.batch_model.specs.Finding.{only_if}
use Rattle.batch_model.specs.Variants.{State}

-- an event's reply, and the tables after it
pub record Answered : Type 0 where
  pub reply : Reply
  pub state : State

-- a due step's line, and the tables after it
pub record DueStep : Type 0 where
  pub due : Due
  pub state : State

-- a refusal under a condition
abbrev pub refuse_if : Bool → Refusal → Option Refusal
refuse_if test refusal = only_if test (Some refusal)
