-- What one due step does.
use Rattle.std.specs.Prelude.{◌≡◌, ℕ, Option, Some, None}
use Rattle.bt_rows.specs.declared.due.Due.{Due}
use Rattle.bt_rows.specs.declared.reply.Reply.{Reply}
use Rattle.bt_rows.specs.declared.reply.Reply.TheVariants.{Step}
use Rattle.batch_model.specs.Dues.{due_step}
use Rattle.batch_model.specs.Sound.{IsSound}
use Rattle.batch_model.specs.Variants.{State}

-- the reply is a due step's
abbrev pub IsStep : Reply → Type 0
IsStep (Step due) = Unit {0}
IsStep _ = ⊥

-- no rule applies, and nothing has changed
pub record IsAtRest (seats : ℕ) (old new : State) : Type 0 where
  pub rest : due_step seats old ≡ None
  pub same : new ≡ old

-- the due step was made, and this is what it shows
pub record MakesDue (seats : ℕ) (old new : State) (told : Due) : Type 0 where
  pub sound : IsSound seats old
  pub applies : due_step seats old ≡ Some (record { due = told; state = new })

-- what the due step shows, if one was made
abbrev pub IsDueTurn : ℕ → State → State → Option Due → Type 0
IsDueTurn seats old new None = IsAtRest seats old new
IsDueTurn seats old new (Some told) = MakesDue seats old new told
