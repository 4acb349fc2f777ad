-- A calendar over the tables of the model: its calls and their answers. Each call of the asker is followed by due steps to rest, and reads are
-- those of the tables.
use Rattle.std.specs.Prelude.{ℕ, zero, suc, max, List, [], ◌∷◌, ◌++◌, Option, Some, None, Ok}
use Rattle.bt_rows.specs.declared.event.EventKind.{EventKind}
use Rattle.bt_rows.specs.declared.due.Due.{Due}
use Rattle.batch_model.specs.Variants.{State, empty_state}
use Rattle.batch_model.specs.Steps.{DueStep}
use Rattle.batch_model.specs.Dues.{due_step}
use Rattle.batch_model.specs.Events.{event_step}
use Rattle.table_reads.specs.Reads.{read_reply}
use Rattle.batch_desk.specs.declared.answer.Answer.{Answer}
use Rattle.batch_desk.specs.declared.answer.Answer.TheVariants.{Done}
use Rattle.batch_desk.specs.declared.entry.Stop.TheVariants.{Rest}
use Rattle.schedule_rows.specs.Interactions.{Interaction, Ends, Passes, Asks, Looks}
use Rattle.schedule_rows.specs.Fires.{fire_of}
use Rattle.schedule_rows.specs.OwnEvents.{own_refusal, after_own, own_status}
use Rattle.schedule_rows.specs.Rows.{Schedule}
use Rattle.schedule_rows.specs.Turns.{turns}
use Rattle.schedule_rows.specs.declared.answer.CalReply.{CalReply}
use Rattle.schedule_rows.specs.declared.answer.CalReply.TheVariants.{Status, Refused, Asked}
use Rattle.schedule_rows.specs.declared.event.CalEvent.{CalEvent}
use Rattle.schedule_rows.specs.declared.event.CalEvent.TheVariants.{Inner}
use Rattle.schedule_rows.specs.declared.fire.Fire.{Fire}
use Rattle.schedule_rows.specs.declared.refusal.CalRefusal.{CalRefusal}

-- due steps, and the tables after them
pub record Rested : Type 0 where
  pub dues : List Due
  pub state : State

abbrev pub after_step : DueStep → Rested → Rested
after_step step rested = record { dues = step.due ∷ rested.dues; state = rested.state }

-- due steps to rest, at most this number
abbrev pub rest : ℕ → State → Rested
rest zero s = record { dues = []; state = s }
rest (suc most) s = elim (due_step 8 s) [ None ↦ record { dues = []; state = s } | Some step ↦ after_step step (rest most step.state) ]

-- a call of the asker: its answer, and the tables after it
pub record Made : Type 0 where
  pub answer : Answer
  pub state : State

abbrev pub make : ℕ → EventKind → State → Made
make moment event s =
    let answered = event_step moment event s in
    let rested = rest 40 answered.state in
    record { answer = Done answered.reply rested.dues Rest; state = rested.state }

-- an interaction that was run to its end: the calls that were made, and rows and tables after it
pub record Played : Type 0 where
  pub fires : List Fire
  pub rows : List Schedule
  pub state : State

abbrev pub with_fires : List Fire → Played → Played
with_fires first played = record { fires = first ++ played.fires; rows = played.rows; state = played.state }

abbrev pub play : Interaction → State → Played
play (Ends rows) s = record { fires = []; rows = rows; state = s }
play (Passes rows interaction) s = play interaction s
play (Asks rows moment event interaction) s =
    let made = make moment event s in with_fires (fire_of event made.answer) (play (interaction made.answer) made.state)
play (Looks rows read interaction) s = play (interaction (Ok (read_reply s read))) s

-- a calendar over tables
pub record Table : Type 0 where
  pub rows : List Schedule
  pub now : ℕ
  pub state : State

-- a call of a calendar
pub record Call : Type 0 where
  pub moment : ℕ
  pub event : CalEvent

-- what it shows
pub record Line : Type 0 where
  pub first : CalReply
  pub fires : List Fire

abbrev pub line : CalReply → List Fire → Line
line reply fires = record { first = reply; fires = fires }

abbrev pub at : ℕ → CalEvent → Call
at moment event = record { moment = moment; event = event }

-- the event of a call: its answer, and rows and tables after it
pub record Began : Type 0 where
  pub first : CalReply
  pub rows : List Schedule
  pub state : State

abbrev pub begin_own : ℕ → Table → CalEvent → Option CalRefusal → Began
begin_own now t event (Some refusal) = record { first = Refused refusal; rows = t.rows; state = t.state }
begin_own now t event None = record { first = Status (own_status event); rows = after_own now t.rows event; state = t.state }

abbrev pub begin : ℕ → Table → CalEvent → Began
begin now t (Inner event) = let made = make now event t.state in record { first = Asked made.answer; rows = t.rows; state = made.state }
begin now t event = begin_own now t event (own_refusal t.rows event)

-- the lines of calls, and the calendar after them
pub record Shown : Type 0 where
  pub lines : List Line
  pub table : Table

abbrev pub with_line : Line → Shown → Shown
with_line first shown = record { lines = first ∷ shown.lines; table = shown.table }

abbrev pub run : List Call → Table → Shown
run [] t = record { lines = []; table = t }
run (call ∷ calls) t =
    let now = max t.now call.moment in
    let began = begin now t call.event in
    let played = play (turns now [] began.rows) began.state in
    with_line (line began.first played.fires) (run calls (record { rows = played.rows; now = now; state = played.state }))

abbrev pub empty_table : Table
empty_table = record { rows = []; now = 0; state = empty_state }

abbrev pub lines_of : List Call → List Line
lines_of calls = (run calls empty_table).lines
