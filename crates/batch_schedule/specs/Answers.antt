-- The answers of a calendar, and the calendar after them.
use Rattle.std.specs.Prelude.{◌≡◌, ℕ, max, Bool, true, false, List, [], Some, None}
use Rattle.bt_rows.specs.declared.event.EventKind.{EventKind}
use Rattle.batch_desk.specs.declared.answer.Answer.{Answer}
use Rattle.batch_desk.specs.declared.answer.Answer.TheVariants as answers
use Rattle.batch_desk.specs.Exchanges.{Exchange, Called, Leads}
use Rattle.schedule_rows.specs.Interactions.{Interaction, IsWhole, IsBegun}
use Rattle.schedule_rows.specs.Fires.{fires_of, AllAnswered, StopsWithoutMemory}
use Rattle.schedule_rows.specs.OwnEvents.{own_refusal, after_own, own_status}
use Rattle.schedule_rows.specs.Rows.{Schedule}
use Rattle.schedule_rows.specs.Turns.{turns}
use Rattle.schedule_rows.specs.declared.answer.CalAnswer.{CalAnswer}
use Rattle.schedule_rows.specs.declared.answer.CalReply.{CalReply}
use Rattle.schedule_rows.specs.declared.answer.CalReply.TheVariants.{Status, Refused, Asked, Memory}
use Rattle.schedule_rows.specs.declared.event.CalEvent.{CalEvent}
use Rattle.schedule_rows.specs.declared.event.CalEvent.TheVariants.{Add, Delete, Disable, Enable, Inner}
use Rattle.schedule_rows.specs.declared.fire.Fire.{Fire}
use Rattle.batch_schedule.specs.Kept.{Calendar}

-- the greatest moment that was given so far, including this one
abbrev pub now_with : {A : Type 0} → Calendar A → ℕ → ℕ
now_with old moment = max old.now moment

-- the exchanges are all of the interaction, or a prefix of it
abbrev pub RunsThrough : Bool → Interaction → List Exchange → List Schedule → Type 0
RunsThrough true interaction exchanges rows = IsWhole interaction exchanges rows × AllAnswered exchanges
RunsThrough false interaction exchanges rows = IsBegun interaction exchanges rows

-- The turns of these schedules after an event: the exchanges are those of the definition of turns at this moment, or a prefix of them if
-- memory ran out. The fires are the calls among them.
pub record TurnsFollow {A : Type 0} (exchanged : A → Exchange → A → Type 0) (now : ℕ) (rows : List Schedule) (asker : A) (new : Calendar A)
    (fired : List Fire) (whole : Bool) : Type 0 where
  pub moment : new.now ≡ now
  pub exchanges : List Exchange
  pub leads : Leads exchanged asker exchanges new.asker
  pub fires : fired ≡ fires_of exchanges
  pub stops : StopsWithoutMemory exchanges
  pub through : RunsThrough whole (turns now [] rows) exchanges new.rows

-- memory ran out at the event, and nothing changed
pub record LeavesAll {A : Type 0} (old new : Calendar A) (fires : List Fire) (whole : Bool) : Type 0 where
  pub same : new ≡ old
  pub none : fires ≡ []
  pub stopped : whole ≡ false

-- memory ran out in the asker at the event, and no turn was run
pub record StopsAtEvent {A : Type 0} (now : ℕ) (old : Calendar A) (asker : A) (new : Calendar A) (fires : List Fire) (whole : Bool) : Type 0 where
  pub moment : new.now ≡ now
  pub asker_is : new.asker ≡ asker
  pub rows : new.rows ≡ old.rows
  pub none : fires ≡ []
  pub stopped : whole ≡ false

-- after the asker's answer to an event the turns are run, unless the answer is that memory ran out
abbrev pub FollowsAnswer : {A : Type 0} → (A → Exchange → A → Type 0) → ℕ → Calendar A → A → Answer → Calendar A → List Fire → Bool → Type 0
FollowsAnswer exchanged now old asker answers.Memory new fires whole = StopsAtEvent now old asker new fires whole
FollowsAnswer exchanged now old asker answers.KeeperFault new fires whole = TurnsFollow exchanged now old.rows asker new fires whole
FollowsAnswer exchanged now old asker answers.JournalFull new fires whole = TurnsFollow exchanged now old.rows asker new fires whole
FollowsAnswer exchanged now old asker (answers.Done reply dues stop) new fires whole = TurnsFollow exchanged now old.rows asker new fires whole

-- the event is for the asker, and was made at this moment
pub record AsksAsker {A : Type 0} (exchanged : A → Exchange → A → Type 0) (now : ℕ) (old new : Calendar A) (event : CalEvent) (answer : Answer)
    (fires : List Fire) (whole : Bool) : Type 0 where
  pub inner : EventKind
  pub is_inner : event ≡ Inner inner
  pub asker : A
  pub made : exchanged old.asker (Called now inner answer) asker
  pub follows : FollowsAnswer exchanged now old asker answer new fires whole

-- the event is one on the schedules
abbrev pub IsOwn : CalEvent → Type 0
IsOwn (Add row) = Unit {0}
IsOwn (Delete id) = Unit {0}
IsOwn (Disable id) = Unit {0}
IsOwn (Enable id) = Unit {0}
IsOwn (Inner event) = ⊥

-- The answer to a call, and the calendar after it, by the reply to its event. An event on the schedules makes no call of the asker, and is
-- refused exactly for the reason of `own_refusal`.
abbrev pub AnswersEvent : {A : Type 0} → (A → Exchange → A → Type 0) → Calendar A → Calendar A → ℕ → CalEvent → CalReply → List Fire → Bool → Type 0
AnswersEvent exchanged old new now event Memory fires whole = LeavesAll old new fires whole
AnswersEvent exchanged old new now event (Refused refusal) fires whole =
    (own_refusal old.rows event ≡ Some refusal) × TurnsFollow exchanged now old.rows old.asker new fires whole
AnswersEvent exchanged old new now event (Status status) fires whole =
    IsOwn event × (own_refusal old.rows event ≡ None) × (status ≡ own_status event)
    × TurnsFollow exchanged now (after_own now old.rows event) old.asker new fires whole
AnswersEvent exchanged old new now event (Asked answer) fires whole = AsksAsker exchanged now old new event answer fires whole

-- the answer to a call at a moment
abbrev pub AnswersCal : {A : Type 0} → (A → Exchange → A → Type 0) → Calendar A → Calendar A → ℕ → CalEvent → CalAnswer → Type 0
AnswersCal exchanged old new moment event answer = AnswersEvent exchanged old new (now_with old moment) event answer.first answer.fires answer.whole
