-- The exchanges of a desk.
use Rattle.std.specs.Prelude.{◌≡◌, ◌≤◌, ℕ, List, [], ◌∷◌, ◌++◌, length, Option, Result, IfOk}
use Rattle.std.specs.List.{flat_map}
use Rattle.bt_base.specs.declared.memory.NoMemory.{NoMemory}
use Rattle.bt_rows.specs.declared.event.EventKind.{EventKind}
use Rattle.bt_rows.specs.declared.reply.Reply.{Reply}
use Rattle.batch_model.specs.Variants.{State}
use Rattle.table_reads.specs.declared.request.Read.{Read}
use Rattle.table_reads.specs.Reads.{read_reply}
use Rattle.batch_desk.specs.declared.answer.Answer.{Answer}
use Rattle.batch_desk.specs.declared.answer.Answer.TheVariants.{Done, KeeperFault, JournalFull, Memory}
use Rattle.batch_desk.specs.declared.entry.Entry.{Entry}
use Rattle.batch_desk.specs.Kept.{Desk}
use Rattle.batch_desk.specs.History.{done_entry, fault_entry}
use Rattle.batch_desk.specs.Answers.{AnswersCall, HasSameOpening, IsInOrder}
use Rattle.batch_desk.specs.Exchanges.{Exchange, Called, Looked, Leads}

module _ {K : Type 0} (told : K → Option State) (faults : K → ℕ) where
  -- a call was answered so
  pub record IsCall (old new : Desk K) (moment : ℕ) (event : EventKind) (answer : Answer) : Type 0 where
    pub answers : AnswersCall faults old new moment event answer
    pub same : HasSameOpening old new
    pub in_order : IsInOrder told faults new
    pub later : faults old.keeper ≤ faults new.keeper

  -- a read showed this, and changed nothing
  pub record IsLook (old new : Desk K) (read : Read) (reply : Result Reply NoMemory) : Type 0 where
    pub same : new ≡ old
    pub shown : IfOk reply (λ shows. shows ≡ read_reply old.state read)

  abbrev pub IsExchange : Desk K → Exchange → Desk K → Type 0
  IsExchange old (Called moment event answer) new = IsCall old new moment event answer
  IsExchange old (Looked read reply) new = IsLook old new read reply

-- the entries of a call that was answered so
abbrev pub call_entries : ℕ → EventKind → Answer → List Entry
call_entries moment event (Done reply dues stop) = done_entry moment event reply (length dues) stop ∷ []
call_entries moment event KeeperFault = fault_entry moment event ∷ []
call_entries moment event JournalFull = []
call_entries moment event Memory = []

-- the entries of an exchange; a read has none
abbrev pub entries_of : Exchange → List Entry
entries_of (Called moment event answer) = call_entries moment event answer
entries_of (Looked read reply) = []

-- what exchanges leave of a desk that is in order
pub record LeavesDesk {K : Type 0} (told : K → Option State) (faults : K → ℕ) (old new : Desk K) (exchanges : List Exchange) : Type 0 where
  pub entries : new.entries ≡ old.entries ++ flat_map entries_of exchanges
  pub same : HasSameOpening old new
  pub in_order : IsInOrder told faults new
  pub later : faults old.keeper ≤ faults new.keeper

abbrev pub EntersItsCalls : {K : Type 0} → (K → Option State) → (K → ℕ) → Type 0
EntersItsCalls told faults =
    (old new : Desk _) (exchanges : List Exchange)
    → IsInOrder told faults old → Leads (IsExchange told faults) old exchanges new → LeavesDesk told faults old new exchanges
