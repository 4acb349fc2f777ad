-- What a script writes, as a function of its lines and of the history of its calls.
use Rattle.std.specs.Prelude.{ℕ, zero, suc, ◌+◌, ◌-◌, Bool, true, false, List, [], ◌∷◌, ◌++◌, length, take, flat_map, codes, Result, Ok, Err}
use Rattle.std.specs.List.{list_any}
use Rattle.bt_rows.specs.declared.event.EventKind.{EventKind}
use Rattle.bt_rows.specs.declared.due.Due.{Due}
use Rattle.bt_rows.specs.declared.refusal.Refusal.{Refusal}
use Rattle.batch_model.specs.Variants.{State}
use Rattle.batch_desk.specs.declared.entry.Entry.{Entry}
use Rattle.batch_desk.specs.declared.entry.Stop.{Stop}
use Rattle.batch_desk.specs.declared.entry.Stop.TheVariants.{Rest, KeeperFault as FaultStop, Memory as MemoryStop}
use Rattle.batch_desk.specs.declared.answer.Answer.{Answer}
use Rattle.batch_desk.specs.declared.answer.Answer.TheVariants.{Done, KeeperFault, JournalFull, Memory}
use Rattle.batch_desk.specs.History.{after_call}
use Rattle.batch_desk.specs.Answers.{entry_answer}
use Rattle.wire_lines.specs.declared.line.LineRequest.{LineRequest}
use Rattle.wire_lines.specs.declared.line.LineRequest.TheVariants.{Skip, Call, Look}
use Rattle.wire_lines.specs.Lines.{line_of}
use Rattle.table_reads.specs.declared.request.Read.{Read}
use Rattle.table_reads.specs.Reads.{read_reply}
use Rattle.wire_texts.specs.Lines.{numbered}
use Rattle.wire_texts.specs.Dues.{due_text}
use Rattle.wire_texts.specs.Refusals.{refusal_text}
use Rattle.wire_texts.specs.Replies.{reply_text}
use Rattle.wire_texts.specs.Tables.{tables_text}

-- a keeper fault that stopped the due steps
unfoldable pub stop_text : List ℕ
stop_text = codes "stop fault"

-- a keeper fault that left the call undone
unfoldable pub fault_text : List ℕ
fault_text = codes "fault"

-- a full journal
unfoldable pub full_text : List ℕ
full_text = codes "full"

-- the lines that show due steps after the reply to line n
abbrev pub due_lines : ℕ → List Due → List ℕ
due_lines n dues = flat_map (λ due. numbered n (due_text due)) dues

-- the line that shows why the due steps stopped; only a fault has one
abbrev pub stop_line : ℕ → Stop → List ℕ
stop_line n Rest = []
stop_line n FaultStop = numbered n stop_text
stop_line n MemoryStop = []

-- the lines that show what the line with number n was answered
abbrev pub answer_text : ℕ → Answer → List ℕ
answer_text n (Done reply dues stop) = numbered n (reply_text reply) ++ (due_lines n dues ++ stop_line n stop)
answer_text n KeeperFault = numbered n fault_text
answer_text n JournalFull = numbered n full_text
answer_text n Memory = []

-- the line that shows what the read of line n shows of these tables
abbrev pub look_text : ℕ → State → Read → List ℕ
look_text n s read = numbered n (reply_text (read_reply s read))

-- A call has the next entry of the history, or finds the journal full if it takes no more entries. If the history has no entry
-- for it, the output ends here.
abbrev pub call_shown : ℕ → (ℕ → List Entry → State → List ℕ) → ℕ → ℕ → List Entry → State → List ℕ
call_shown seats rest n zero es s = answer_text n JournalFull ++ rest zero es s
call_shown seats rest n (suc room) [] s = []
call_shown seats rest n (suc room) (e ∷ es) s = answer_text n (entry_answer seats s e) ++ rest room es (after_call seats s e)

-- What a line shows, and then the rest. A read shows the tables after the calls of the lines before it; it has no entry.
abbrev pub line_shown : ℕ → (ℕ → List Entry → State → List ℕ) → ℕ → Result LineRequest Refusal → ℕ → List Entry → State → List ℕ
line_shown seats rest n (Ok Skip) room es s = rest room es s
line_shown seats rest n (Ok (Call moment event)) room es s = call_shown seats rest n room es s
line_shown seats rest n (Ok (Look read)) room es s = look_text n s read ++ rest room es s
line_shown seats rest n (Err refusal) room es s = numbered n (refusal_text refusal) ++ rest room es s

-- The outputs of the lines from number n on, and then the tables text: if the journal takes `room` more entries, these are
-- the next entries, and these are the tables.
abbrev pub outputs : ℕ → ℕ → List (List ℕ) → ℕ → List Entry → State → List ℕ
outputs seats n [] room es s = tables_text s
outputs seats n (line ∷ lines) room es s = line_shown seats (λ r fs t. outputs seats (n + 1) lines r fs t) n (line_of line) room es s

-- the call that a line asks, if it asks one; a read is no call
abbrev pub call_in : Result LineRequest Refusal → List (ℕ × EventKind)
call_in (Ok Skip) = []
call_in (Ok (Call moment event)) = (moment, event) ∷ []
call_in (Ok (Look read)) = []
call_in (Err refusal) = []

-- the calls that the lines ask
abbrev pub calls_of : List (List ℕ) → List (ℕ × EventKind)
calls_of lines = flat_map (λ line. call_in (line_of line)) lines

-- a line that is not a valid request
abbrev pub is_refused : Result LineRequest Refusal → Bool
is_refused (Ok request) = false
is_refused (Err refusal) = true

-- some line is not a valid request
abbrev pub has_refused : List (List ℕ) → Bool
has_refused lines = list_any (λ line. is_refused (line_of line)) lines

-- 1 if due steps stopped because memory ran out
abbrev pub memory_stop : Stop → ℕ
memory_stop Rest = 0
memory_stop FaultStop = 0
memory_stop MemoryStop = 1

-- how many entries stopped for this reason
abbrev pub memory_stops : List Entry → ℕ
memory_stops [] = 0
memory_stops (e ∷ es) = memory_stop e.stop + memory_stops es

-- the entries but the last
abbrev pub but_last : List Entry → List Entry
but_last history = take (length history - 1) history

-- What is written before the last call is made: the outputs of all lines before the line of that call, reads among them. Without
-- a call nothing has to be written.
abbrev pub outputs_before : ℕ → List (List ℕ) → ℕ → List Entry → State → List ℕ
outputs_before seats lines limit [] s = []
outputs_before seats lines limit (e ∷ es) s = outputs seats 1 lines limit (but_last (e ∷ es)) s

-- an answer after which the run ends because memory ran out
abbrev pub ran_out : Answer → Bool
ran_out Memory = true
ran_out KeeperFault = false
ran_out JournalFull = false
ran_out (Done reply dues Rest) = false
ran_out (Done reply dues FaultStop) = false
ran_out (Done reply dues MemoryStop) = true
