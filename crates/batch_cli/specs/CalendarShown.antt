-- What a run of the command `calendar` shows and asks, as a function of its lines and of the history of its calls: as `Shown`, with the calls of
-- schedules. Those depend on the answers before them, and so on the history.
use Rattle.std.specs.List.{list_any}
use Rattle.std.specs.Prelude.{ℕ, zero, suc, ◌+◌, max, Bool, true, false, List, [], ◌∷◌, ◌++◌, codes, Option, Some, None, Result, Ok, Err}
use Rattle.bt_rows.specs.declared.event.EventKind.{EventKind}
use Rattle.bt_rows.specs.declared.refusal.Refusal.{Refusal}
use Rattle.bt_rows.specs.declared.reply.Reply.TheVariants as replies
use Rattle.batch_model.specs.Variants.{State}
use Rattle.batch_desk.specs.declared.entry.Entry.{Entry}
use Rattle.batch_desk.specs.declared.answer.Answer.{Answer}
use Rattle.batch_desk.specs.declared.answer.Answer.TheVariants.{Done, KeeperFault, JournalFull, Memory}
use Rattle.batch_desk.specs.History.{after_call}
use Rattle.batch_desk.specs.Answers.{entry_answer}
use Rattle.table_reads.specs.declared.request.Read.{Read}
use Rattle.table_reads.specs.Reads.{read_reply}
use Rattle.wire_texts.specs.Lines.{numbered}
use Rattle.wire_texts.specs.Refusals.{refusal_text}
use Rattle.wire_texts.specs.Replies.{reply_text}
use Rattle.wire_texts.specs.Tables.{tables_text}
use Rattle.batch_cli.specs.Shown.{answer_text, due_lines, stop_line, fault_text, full_text, look_text}
use Rattle.schedule_lines.specs.Lines.{cal_line_of}
use Rattle.schedule_lines.specs.Refusals as calendar
use Rattle.schedule_lines.specs.declared.line.CalLine.{CalLine}
use Rattle.schedule_lines.specs.declared.line.CalLine.TheVariants.{Skip, Call, Look}
use Rattle.schedule_rows.specs.Interactions.{Interaction, Ends, Passes, Asks, Looks}
use Rattle.schedule_rows.specs.Fires.{fire_of}
use Rattle.schedule_rows.specs.OwnEvents.{own_refusal, after_own, own_status}
use Rattle.schedule_rows.specs.Rows.{Schedule}
use Rattle.schedule_rows.specs.Turns.{turns}
use Rattle.schedule_rows.specs.declared.event.CalEvent.{CalEvent}
use Rattle.schedule_rows.specs.declared.event.CalEvent.TheVariants.{Inner}
use Rattle.schedule_rows.specs.declared.fire.Fire.{Fire}
use Rattle.schedule_rows.specs.declared.fire.FireWord.{FireWord}
use Rattle.schedule_rows.specs.declared.fire.FireWord.TheVariants as words
use Rattle.schedule_rows.specs.declared.refusal.CalRefusal.{CalRefusal}

-- the word of a call of a schedule
unfoldable pub fire_word : FireWord → List ℕ
fire_word words.AddJob = codes "add-job"
fire_word words.AddTasks = codes "add-tasks"
fire_word words.PatchJob = codes "patch-job"

-- `fire`, the job, the word, and this text
unfoldable pub fire_line : Fire → List ℕ → List ℕ
fire_line fire text = codes "fire " ++ (fire.job ++ 32 ∷ (fire_word fire.word ++ 32 ∷ text))

-- the lines that show a call of a schedule in line n, and its answer
abbrev pub fire_text : ℕ → Fire → Answer → List ℕ
fire_text n fire (Done reply dues stop) = numbered n (fire_line fire (reply_text reply)) ++ (due_lines n dues ++ stop_line n stop)
fire_text n fire KeeperFault = numbered n (fire_line fire fault_text)
fire_text n fire JournalFull = numbered n (fire_line fire full_text)
fire_text n fire Memory = []

-- the lines that show these calls
abbrev pub fires_text : ℕ → List Fire → List ℕ
fires_text n [] = []
fires_text n (fire ∷ fires) = fire_text n fire fire.answer ++ fires_text n fires

-- the line that shows an event on the schedules: its status, or its refusal
abbrev pub own_text : ℕ → CalEvent → Option CalRefusal → List ℕ
own_text n event None = numbered n (reply_text (replies.Status (own_status event)))
own_text n event (Some refusal) = numbered n (calendar.refusal_text refusal)

-- What the parts of a run tell, each a list: a call of a line, and a call of a schedule, at a moment and with its answer; a call that has no
-- entry in the history; an event on the schedules, with its refusal if it is refused; a read of these tables; and a line that is not a valid
-- request.
pub record Telling (B : Type 0) : Type 0 where
  pub call : ℕ → EventKind → Answer → List B
  pub fire : ℕ → EventKind → Answer → List B
  pub missing : ℕ → EventKind → List B
  pub own : CalEvent → Option CalRefusal → List B
  pub look : State → Read → List B
  pub unread : Refusal → List B

-- what remains of a run: of the schedules and their moment, the room of the journal, its next entries, and the tables
abbrev pub Remaining : Type 0 → Type 0
Remaining B = List Schedule → ℕ → ℕ → List Entry → State → List B

-- What the turns of schedules tell, and then the rest. Each call has the next entry of the history, or finds the journal full if it takes no
-- more; a read shows the tables and has none. If the history has no entry for a call, the run ends there.
abbrev pub turns_told : {B : Type 0} → ℕ → Telling B → Remaining B → ℕ → Interaction → ℕ → List Entry → State → List B
turns_told seats t rest now (Ends rows) room es s = rest rows now room es s
turns_told seats t rest now (Passes rows interaction) room es s = turns_told seats t rest now interaction room es s
turns_told seats t rest now (Asks rows moment event interaction) zero es s =
    t.fire moment event JournalFull ++ turns_told seats t rest now (interaction JournalFull) zero es s
turns_told seats t rest now (Asks rows moment event interaction) (suc room) [] s = t.missing moment event
turns_told seats t rest now (Asks rows moment event interaction) (suc room) (e ∷ es) s =
    t.fire moment event (entry_answer seats s e) ++ turns_told seats t rest now (interaction (entry_answer seats s e)) room es (after_call seats s e)
turns_told seats t rest now (Looks rows read interaction) room es s = turns_told seats t rest now (interaction (Ok (read_reply s read))) room es s

-- an event on the schedules, which makes no call, and then the turns
abbrev pub own_told : {B : Type 0} → ℕ → Telling B → Remaining B → CalEvent → Option CalRefusal → Remaining B
own_told seats t rest event (Some refusal) rows now room es s =
    t.own event (Some refusal) ++ turns_told seats t rest now (turns now [] rows) room es s
own_told seats t rest event None rows now room es s =
    t.own event None ++ turns_told seats t rest now (turns now [] (after_own now rows event)) room es s

-- a call of a line, and then the turns
abbrev pub asked_told : {B : Type 0} → ℕ → Telling B → Remaining B → EventKind → Remaining B
asked_told seats t rest event rows now zero es s = t.call now event JournalFull ++ turns_told seats t rest now (turns now [] rows) zero es s
asked_told seats t rest event rows now (suc room) [] s = t.missing now event
asked_told seats t rest event rows now (suc room) (e ∷ es) s =
    t.call now event (entry_answer seats s e) ++ turns_told seats t rest now (turns now [] rows) room es (after_call seats s e)

-- an event at this moment, and then the turns
abbrev pub event_told : {B : Type 0} → ℕ → Telling B → Remaining B → CalEvent → Remaining B
event_told seats t rest (Inner event) rows now room es s = asked_told seats t rest event rows now room es s
event_told seats t rest event rows now room es s = own_told seats t rest event (own_refusal rows event) rows now room es s

-- what a line tells, and then the rest; the moment of its calls is the greatest so far
abbrev pub line_told : {B : Type 0} → ℕ → Telling B → Remaining B → Result CalLine Refusal → Remaining B
line_told seats t rest (Ok Skip) rows now room es s = rest rows now room es s
line_told seats t rest (Ok (Call moment event)) rows now room es s = event_told seats t rest event rows (max now moment) room es s
line_told seats t rest (Ok (Look read)) rows now room es s = t.look s read ++ rest rows now room es s
line_told seats t rest (Err refusal) rows now room es s = t.unread refusal ++ rest rows now room es s

-- what the lines from number n on tell, and at the end the tables
abbrev pub lines_told : {B : Type 0} → ℕ → (ℕ → Telling B) → (State → List B) → ℕ → List (List ℕ) → Remaining B
lines_told seats t end n [] rows now room es s = end s
lines_told seats t end n (line ∷ lines) rows now room es s =
    line_told seats (t n) (λ later then left fs u. lines_told seats t end (n + 1) lines later then left fs u) (cal_line_of line) rows now room es s

-- the text of line n
abbrev pub texts_of : ℕ → Telling ℕ
texts_of n = record {
  call = λ moment event answer. answer_text n answer;
  fire = λ moment event answer. fires_text n (fire_of event answer);
  missing = λ moment event. [];
  own = λ event refusal. own_text n event refusal;
  look = λ s read. look_text n s read;
  unread = λ refusal. numbered n (refusal_text refusal);
}

-- the calls of line n; those that find the journal full, and the first one that has no entry, are among them
abbrev pub asks_of : ℕ → Telling (ℕ × EventKind)
asks_of n = record {
  call = λ moment event answer. (moment, event) ∷ [];
  fire = λ moment event answer. (moment, event) ∷ [];
  missing = λ moment event. (moment, event) ∷ [];
  own = λ event refusal. [];
  look = λ s read. [];
  unread = λ refusal. [];
}

-- what a script shows, over a calendar without schedules and these tables, in a journal that takes this many calls: its lines, and the tables
abbrev pub cal_outputs : ℕ → List (List ℕ) → ℕ → List Entry → State → List ℕ
cal_outputs seats script limit history s = lines_told seats texts_of (λ t. tables_text t) 1 script [] 0 limit history s

-- the same of its lines alone
abbrev pub line_outputs : ℕ → List (List ℕ) → ℕ → List Entry → State → List ℕ
line_outputs seats script limit history s = lines_told seats texts_of (λ t. []) 1 script [] 0 limit history s

-- the calls of its lines and of its schedules
abbrev pub cal_questions : ℕ → List (List ℕ) → ℕ → List Entry → State → List (ℕ × EventKind)
cal_questions seats script limit history s = lines_told seats asks_of (λ t. []) 1 script [] 0 limit history s

-- a line that is not a valid request
abbrev pub is_refused_line : Result CalLine Refusal → Bool
is_refused_line (Ok request) = false
is_refused_line (Err refusal) = true

-- some line is not a valid request
abbrev pub has_refused_line : List (List ℕ) → Bool
has_refused_line lines = list_any (λ line. is_refused_line (cal_line_of line)) lines
