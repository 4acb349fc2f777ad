-- What an asker was asked and answered.
use Rattle.std.specs.Prelude.{◌≡◌, ℕ, List, [], ◌∷◌, Result}
use Rattle.bt_base.specs.declared.memory.NoMemory.{NoMemory}
use Rattle.bt_rows.specs.declared.event.EventKind.{EventKind}
use Rattle.bt_rows.specs.declared.reply.Reply.{Reply}
use Rattle.table_reads.specs.declared.request.Read.{Read}
use Rattle.batch_desk.specs.declared.answer.Answer.{Answer}

-- a call at a moment, or a read, each with what it was answered; without a reply there was no memory for one
pub data Exchange : Type 0 where
  Called : ℕ → EventKind → Answer → Exchange
  Looked : Read → Result Reply NoMemory → Exchange

-- the exchanges, one after the other, lead from one state of an asker to a later one
abbrev pub Leads : {A : Type 0} → (A → Exchange → A → Type 0) → A → List Exchange → A → Type 0
Leads exchanged old [] new = new ≡ old
Leads exchanged old (x ∷ xs) new = (middle : _) × exchanged old x middle × Leads exchanged middle xs new
