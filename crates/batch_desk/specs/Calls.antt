-- What a call does to a keeper, to the machine beside it, and to the entries of a journal.
use Rattle.std.specs.Prelude.{◌≡◌, ◌≤◌, ◌<◌, ℕ, List, [], ◌∷◌, ◌++◌, length}
use Rattle.bt_base.specs.Causes.{Rose}
use Rattle.bt_rows.specs.declared.due.Due.{Due}
use Rattle.bt_rows.specs.declared.event.EventKind.{EventKind}
use Rattle.bt_rows.specs.declared.reply.Reply.{Reply}
use Rattle.batch_model.specs.Events.{event_step}
use Rattle.batch_model.specs.Variants.{State}
use Rattle.batch_keeper.specs.declared.error.KeepError.{KeepError}
use Rattle.batch_keeper.specs.declared.error.KeepError.TheVariants.{Failed, Memory as NoMemory}
use Rattle.batch_desk.specs.declared.entry.Entry.{Entry}
use Rattle.batch_desk.specs.declared.entry.Stop.{Stop}
use Rattle.batch_desk.specs.declared.entry.Stop.TheVariants.{KeeperFault as FaultStop}
use Rattle.batch_desk.specs.declared.answer.Answer.{Answer}
use Rattle.batch_desk.specs.declared.answer.Answer.TheVariants.{Done, KeeperFault, JournalFull, Memory}
use Rattle.batch_desk.specs.Kept.{SavedMachine}
use Rattle.batch_desk.specs.History.{due_state, due_list, StopsSo, fault_entry, done_entry}

-- due steps were made after an event with this reply, and the call was entered
pub record Finishes {K : Type 0} (faults : K → ℕ) (old new : SavedMachine K) (before now : List Entry) (moment : ℕ) (event : EventKind) (reply : Reply)
    (dues : List Due) (stop : Stop) : Type 0 where
  pub state : new.state ≡ due_state old.seats (length dues) old.state
  pub list : dues ≡ due_list old.seats (length dues) old.state
  pub stops : StopsSo old.seats stop new.state
  pub fault : stop ≡ FaultStop → Rose (faults old.keeper) (faults new.keeper)
  pub entries : now ≡ before ++ done_entry moment event reply (length dues) stop ∷ []

-- the event was made, and then due steps, and the call was entered
pub record Makes {K : Type 0} (faults : K → ℕ) (old new : SavedMachine K) (before now : List Entry) (moment : ℕ) (event : EventKind) (reply : Reply)
    (dues : List Due) (stop : Stop) : Type 0 where
  pub made : State
  pub step : event_step moment event old.state ≡ record { reply = reply; state = made }
  pub state : new.state ≡ due_state old.seats (length dues) made
  pub list : dues ≡ due_list old.seats (length dues) made
  pub stops : StopsSo old.seats stop new.state
  pub fault : stop ≡ FaultStop → Rose (faults old.keeper) (faults new.keeper)
  pub entries : now ≡ before ++ done_entry moment event reply (length dues) stop ∷ []

-- an error's answer, and its entry: a keeper fault has one
abbrev pub IsFailed : KeepError → Answer → ℕ → EventKind → List Entry → List Entry → Type 0
IsFailed NoMemory answer moment event before now = (answer ≡ Memory) × (now ≡ before)
IsFailed Failed answer moment event before now = (answer ≡ KeeperFault) × (now ≡ before ++ fault_entry moment event ∷ [])

-- a keeper fault left the call undone, and it was entered
pub record LeavesUndone {K : Type 0} (faults : K → ℕ) (old new : SavedMachine K) (before now : List Entry) (moment : ℕ) (event : EventKind) : Type 0 where
  pub state : new.state ≡ old.state
  pub entries : now ≡ before ++ fault_entry moment event ∷ []
  pub rose : Rose (faults old.keeper) (faults new.keeper)

-- the call left all but the keeper
pub record LeavesAll {K : Type 0} (old new : SavedMachine K) (before now : List Entry) : Type 0 where
  pub state : new.state ≡ old.state
  pub entries : now ≡ before

-- by the answer
abbrev pub IsCalled : {K : Type 0} → (K → ℕ) → SavedMachine K → SavedMachine K → List Entry → List Entry → ℕ → EventKind → Answer → Type 0
IsCalled faults old new before now moment event JournalFull = ⊥
IsCalled faults old new before now moment event Memory = LeavesAll old new before now
IsCalled faults old new before now moment event KeeperFault = LeavesUndone faults old new before now moment event
IsCalled faults old new before now moment event (Done reply dues stop) = Makes faults old new before now moment event reply dues stop

-- a full journal, and nothing changed
pub record IsFull {K : Type 0} (limit : ℕ) (old new : SavedMachine K) (before now : List Entry) : Type 0 where
  pub full : limit ≤ length before
  pub saved : new ≡ old
  pub entries : now ≡ before

-- by the answer, in a journal with a limit
abbrev pub IsCalledWithin : {K : Type 0} → (K → ℕ) → ℕ → SavedMachine K → SavedMachine K → List Entry → List Entry → ℕ → EventKind → Answer → Type 0
IsCalledWithin faults limit old new before now moment event JournalFull = IsFull limit old new before now
IsCalledWithin faults limit old new before now moment event Memory = (length before < limit) × IsCalled faults old new before now moment event Memory
IsCalledWithin faults limit old new before now moment event KeeperFault = (length before < limit) × IsCalled faults old new before now moment event KeeperFault
IsCalledWithin faults limit old new before now moment event (Done reply dues stop) = (length before < limit)
    × IsCalled faults old new before now moment event (Done reply dues stop)
