-- What calls and reads of a shared desk do, by what their pass has seen before and after.
use Rattle.std.specs.Prelude.{◌≡◌, ℕ, List, [], ◌∷◌, ◌++◌, map, length, Option, Some, Result, IfOk}
use mathlib.Core.List.{IsPrefix}
use Rattle.bt_base.specs.declared.memory.NoMemory.{NoMemory}
use Rattle.bt_rows.specs.declared.event.EventKind.{EventKind}
use Rattle.bt_rows.specs.declared.reply.Reply.{Reply}
use Rattle.bt_rows.specs.declared.reply.QueuedRun.{QueuedRun}
use Rattle.batch_model.specs.Variants.{State}
use Rattle.table_reads.specs.declared.request.Read.{Read}
use Rattle.table_reads.specs.Reads.{read_reply}
use Rattle.run_index.specs.Seats.{asked_runs}
use Rattle.child_words.specs.Queued.{queued_at}
use Rattle.batch_desk.specs.declared.answer.Answer.{Answer}
use Rattle.batch_desk.specs.declared.answer.Answer.TheVariants.{Done, KeeperFault, JournalFull, Memory}
use Rattle.batch_desk.specs.declared.entry.Entry.{Entry}
use Rattle.batch_desk.specs.declared.journal.Journal.{Journal}
use Rattle.batch_desk.specs.History.{IsLegal, after_all, done_entry, fault_entry}
use Rattle.batch_desk.specs.Answers.{entry_answer}
use Rattle.counted_lock.specs.Closing.{IsShared}
use Rattle.counted_lock.specs.declared.views.Stamped.{Stamped}
use Rattle.counted_lock.specs.Passes.{PassState}
use Rattle.counted_lock.specs.Views.{places_of, unnumbered, entry_of, stamped}
use Rattle.shared_desk.specs.Openings.{Opening}

-- a pass: its number, and what it has seen, in which the places of its calls are those of its number
abbrev pub Caller : Type 0
Caller = PassState Entry Opening

-- the calls of a shared history, without numbers
abbrev pub calls_of : List (Stamped Entry) → List Entry
calls_of h = map entry_of h

-- the tables after a shared history
abbrev pub tables_after : Opening → List (Stamped Entry) → State
tables_after o h = after_all o.seats o.opened (calls_of h)

-- each call of the shared history was made from the tables after those before it
abbrev pub IsLegalFrom : Opening → List (Stamped Entry) → Type 0
IsLegalFrom o h = IsLegal o.seats o.opened (calls_of h)

-- the pass is the same, by its number, and what is seen begins with what was seen, and has no other calls of the pass, and none without a
-- number
pub record SeesMore (p q : Caller) : Type 0 where
  pub number : q.number ≡ p.number
  pub begins : IsPrefix p.seen q.seen
  pub places : places_of p.number q.seen ≡ places_of p.number p.seen
  pub opened : unnumbered q.seen ≡ unnumbered p.seen

-- The pass is the same, by its number. What is then seen is a legal history, which begins with what was seen, perhaps goes on with calls of
-- other passes, and ends with the call under the number of the pass. The answer is that of the tables before the call, and the places are
-- the old ones and that of the call. No call without a number was added.
pub record Extends (o : Opening) (p q : Caller) (entry : Entry) (answer : Answer) : Type 0 where
  pub number : q.number ≡ p.number
  pub before : List (Stamped Entry)
  pub begins : IsPrefix p.seen before
  pub seen : q.seen ≡ before ++ stamped (Some p.number) entry ∷ []
  pub legal : IsLegalFrom o q.seen
  pub shown : answer ≡ entry_answer o.seats (tables_after o before) entry
  pub places : places_of p.number q.seen ≡ places_of p.number p.seen ++ length before ∷ []
  pub opened : unnumbered q.seen ≡ unnumbered p.seen

-- a call, by its answer: one that was made, or that a keeper fault left undone, is in the history
abbrev pub Asked : Opening → Caller → Caller → ℕ → EventKind → Answer → Type 0
Asked o p q moment event (Done reply dues stop) = Extends o p q (done_entry moment event reply (length dues) stop) (Done reply dues stop)
Asked o p q moment event KeeperFault = Extends o p q (fault_entry moment event) KeeperFault
Asked o p q moment event JournalFull = SeesMore p q × (length q.seen ≡ o.limit)
Asked o p q moment event Memory = SeesMore p q

-- a turn without a call: what is then seen is a legal history, which begins with what was seen
pub record SeesLegal (o : Opening) (p q : Caller) : Type 0 where
  pub more : SeesMore p q
  pub legal : IsLegalFrom o q.seen

-- a read shows the tables after what is then seen
pub record Looks (o : Opening) (p q : Caller) (read : Read) (reply : Result Reply NoMemory) : Type 0 where
  pub sees : SeesLegal o p q
  pub shown : IfOk reply (λ shows. shows ≡ read_reply (tables_after o q.seen) read)

-- a look at a seat shows its lowest queued run, of the tables after what is then seen
pub record LooksAt (o : Opening) (p q : Caller) (seat : ℕ) (run : Result (Option QueuedRun) NoMemory) : Type 0 where
  pub sees : SeesLegal o p q
  pub shown : IfOk run (λ shows. shows ≡ queued_at (tables_after o q.seen) seat)

-- a look at the runs that are asked to stop, of the tables after what is then seen
pub record LooksAsked (o : Opening) (p q : Caller) (numbers : Result (List ℕ) NoMemory) : Type 0 where
  pub sees : SeesLegal o p q
  pub shown : IfOk numbers (λ shows. shows ≡ asked_runs (tables_after o q.seen))

-- The journal is a shared history without numbers. The history begins with what each of these passes has seen. Under the number of a pass it
-- has no call that this pass has not seen, and without a number none but those that each of them has seen: the calls of the desk's journal at
-- the opening. No two of these passes have the same number, and there are no calls under any other number.
abbrev pub IsSharedJournal : Journal → List Caller → Type 0
IsSharedJournal journal passes = IsShared (λ (j : Journal). j.entries) journal passes
