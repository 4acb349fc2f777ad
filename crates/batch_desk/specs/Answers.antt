-- What a call of a desk answers and leaves.
use Rattle.std.specs.Prelude.{◌≡◌, ◌≤◌, ◌<◌, ◌^◌, ℕ, [], ◌∷◌, ◌++◌, length, Option}
use Rattle.bt_base.specs.Causes.{Rose}
use Rattle.bt_rows.specs.declared.event.EventKind.{EventKind}
use Rattle.batch_model.specs.Sound.{IsSound}
use Rattle.batch_model.specs.Variants.{State}
use Rattle.batch_keeper.specs.declared.error.KeepError.{KeepError}
use Rattle.batch_keeper.specs.declared.error.KeepError.TheVariants.{Failed}
use Rattle.batch_desk.specs.declared.entry.Entry.{Entry}
use Rattle.batch_desk.specs.declared.entry.Mark.{Mark}
use Rattle.batch_desk.specs.declared.entry.Mark.TheVariants.{Done as Made, KeeperFault as NotKept}
use Rattle.batch_desk.specs.declared.entry.Stop.TheVariants.{KeeperFault as FaultStop}
use Rattle.batch_desk.specs.declared.answer.Answer.{Answer}
use Rattle.batch_desk.specs.declared.answer.Answer.TheVariants.{Done, KeeperFault, JournalFull, Memory}
use Rattle.batch_desk.specs.Kept.{Desk, Tells}
use Rattle.batch_desk.specs.Laws.{KeepsLaws}
use Rattle.batch_desk.specs.History.{IsLegal, after_all, after_call, fault_count, reply_to, dues_of, fault_entry, done_entry}

-- what a call that stands in the journal was answered, from the tables before it
abbrev pub entry_answer : ℕ → State → Entry → Answer
entry_answer seats s e = by_mark e.mark
  where
    by_mark : Mark → Answer
    by_mark NotKept = KeeperFault
    by_mark (Made refusal) = Done (reply_to s e) (dues_of seats s e) e.stop

-- the call has an entry, the last, which was answered so
pub record Enters {K : Type 0} (old new : Desk K) (e : Entry) (answer : Answer) : Type 0 where
  pub room : length old.entries < old.limit
  pub entries : new.entries ≡ old.entries ++ e ∷ []
  pub shown : answer ≡ entry_answer old.seats old.state e
  pub made : new.state ≡ after_call old.seats old.state e

-- the call has none, and neither tables nor journal changed
pub record Stays {K : Type 0} (old new : Desk K) : Type 0 where
  pub state : new.state ≡ old.state
  pub entries : new.entries ≡ old.entries

-- What a call was answered, and its causes. A full journal goes before all others, and is answered exactly then.
abbrev pub AnswersCall : {K : Type 0} → (K → ℕ) → Desk K → Desk K → ℕ → EventKind → Answer → Type 0
AnswersCall faults old new moment event JournalFull = (old.limit ≤ length old.entries) × (new ≡ old)
AnswersCall faults old new moment event Memory = (length old.entries < old.limit) × Stays old new
AnswersCall faults old new moment event KeeperFault = Enters old new (fault_entry moment event) KeeperFault × Rose (faults old.keeper) (faults new.keeper)
AnswersCall faults old new moment event (Done reply dues stop) =
    Enters old new (done_entry moment event reply (length dues) stop) (Done reply dues stop)
    × (stop ≡ FaultStop → Rose (faults old.keeper) (faults new.keeper))

-- what every desk is: its journal is a legal history from sound tables, which keeps the laws, its tables are those after it, and
-- its keeper tells them
pub record IsInOrder {K : Type 0} (told : K → Option State) (faults : K → ℕ) (d : Desk K) : Type 0 where
  pub begun : IsSound d.seats d.opened
  pub legal : IsLegal d.seats d.opened d.entries
  -- those of slots, placed tasks, runs, retries and jobs at each moment, and that each run number is given once and each run ends once
  pub laws : KeepsLaws d.seats d.opened d.entries
  pub state : d.state ≡ after_all d.seats d.opened d.entries
  pub kept : Tells (told d.keeper) d.state
  -- each keeper fault in the journal was counted
  pub counted : fault_count d.entries ≤ faults d.keeper
  pub within : length d.entries ≤ d.limit
  pub limit : d.limit < 2 ^ 32

-- the desk of before, but for its keeper, tables and journal
pub record HasSameOpening {K : Type 0} (old new : Desk K) : Type 0 where
  pub opened : new.opened ≡ old.opened
  pub seats : new.seats ≡ old.seats
  pub limit : new.limit ≡ old.limit

-- A desk was not opened: the keeper tells what it told before, and its count of faults did not fall, and rose if the error is
-- a keeper fault.
pub record FailsToOpen (told_before told_now : Option State) (faults_before faults_now : ℕ) (error : KeepError) : Type 0 where
  pub same : told_now ≡ told_before
  pub later : faults_before ≤ faults_now
  pub failed : error ≡ Failed → Rose faults_before faults_now

-- a desk that has just been opened
pub record Begins {K : Type 0} (d : Desk K) (seats limit : ℕ) : Type 0 where
  pub state : d.state ≡ d.opened
  pub entries : d.entries ≡ []
  pub seats_are : d.seats ≡ seats
  pub limit_is : d.limit ≡ limit
