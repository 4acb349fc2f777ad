-- A calendar over a desk on its way through a script: as `Going`, with the calls of schedules.
use Rattle.std.specs.Prelude.{◌≡◌, ◌⊎◌, ◌<◌, ◌≤◌, ◌+◌, ◌-◌, ◌^◌, min, ℕ, List, [], ◌++◌, map, take, length, Option, nat_lt, if◌then◌else◌}
use Rattle.std.specs.Str.Lines.{lines}
use Rattle.byte_streams.specs.Content.{Gains}
use Rattle.bt_rows.specs.declared.event.EventKind.{EventKind}
use Rattle.batch_model.specs.Variants.{State}
use Rattle.batch_desk.specs.declared.entry.Entry.{Entry}
use Rattle.batch_desk.specs.Kept.{Desk}
use Rattle.batch_desk.specs.History.{asked_of, fault_count}
use Rattle.batch_desk.specs.Answers.{HasSameOpening, Begins}
use Rattle.wire_texts.specs.Tables.{tables_text}
use Rattle.batch_cli.specs.Advance.{RoseBy, room_of}
use Rattle.batch_cli.specs.CalendarShown.{cal_outputs, line_outputs, cal_questions, has_refused_line, lines_told, texts_of, asks_of}
use Rattle.batch_cli.specs.EndStatus.{script_limit}
use Rattle.batch_cli.specs.Going.{NothingDone}
use Rattle.batch_cli.specs.Shown.{memory_stops}
use Rattle.batch_cli.specs.Written.{GainsBetween}
use Rattle.batch_cli.specs.declared.status.Status.{Status}
use Rattle.batch_cli.specs.declared.status.Status.TheVariants.{Done, Memory, Usage, SourceFault, SinkFault, KeeperFault, UnreadableLines, ScriptTooLong}
use Rattle.batch_cli.specs.declared.status.Status.TheVariants.{FormulaError, JournalFull}
use Rattle.batch_cli.specs.declared.tally.Tally.{Tally}
use Rattle.batch_schedule.specs.Kept.{Calendar}

-- a calendar without schedules over a desk that has just been opened
pub record IsNew {K : Type 0} (calendar : Calendar (Desk K)) : Type 0 where
  pub rows : calendar.rows ≡ []
  pub now : calendar.now ≡ 0
  pub begins : Begins calendar.asker calendar.asker.seats calendar.asker.limit

-- Whatever lines and entries come, what was written and what shows those lines shows the lines done and those, what was asked and what those
-- ask is all that they ask, and the calls that were asked are entered while the journal takes more. They are counted as far as the count goes.
pub record CalGoing {K : Type 0} (faults : K → ℕ) (start now : Calendar (Desk K)) (script rest : List (List ℕ)) (n : ℕ)
    (before taken : Option (List ℕ)) (calls : ℕ) : Type 0 where
  pub done : List (List ℕ)
  pub split : script ≡ done ++ rest
  pub front : List ℕ
  pub asked : List (ℕ × EventKind)
  pub gained : Gains before taken front
  pub shows : (end : State → List ℕ) (left : List (List ℕ)) (more : List Entry) →
      lines_told start.asker.seats texts_of end 1 (done ++ left) [] 0 start.asker.limit (now.asker.entries ++ more) start.asker.state
      ≡ front ++ lines_told start.asker.seats texts_of end n left now.rows now.now (room_of now.asker) more now.asker.state
  pub asks : (end : State → List (ℕ × EventKind)) (left : List (List ℕ)) (more : List Entry) →
      lines_told start.asker.seats asks_of end 1 (done ++ left) [] 0 start.asker.limit (now.asker.entries ++ more) start.asker.state
      ≡ asked ++ lines_told start.asker.seats asks_of end n left now.rows now.now (room_of now.asker) more now.asker.state
  pub entered : map asked_of now.asker.entries ≡ take start.asker.limit asked
  pub room : room_of now.asker ≡ start.asker.limit - length asked
  pub count : calls ≡ min (length asked) (2 ^ 64 - 1)
  pub rose : RoseBy (fault_count now.asker.entries) (faults start.asker.keeper) (faults now.asker.keeper)
  pub settled : memory_stops now.asker.entries ≡ 0
  pub same : HasSameOpening start.asker now.asker

-- how many calls the lines and their schedules ask, as far as the count goes, and whether one of the lines is not a valid request
pub record CountsCalls {K : Type 0} (start now : Desk K) (script : List (List ℕ)) (t : Tally) : Type 0 where
  pub calls : t.calls ≡ min (length (cal_questions start.seats script start.limit now.entries start.state)) (2 ^ 64 - 1)
  pub refused : t.refused ≡ has_refused_line script

-- all lines were done, and all that shows them was written, without the tables
pub record LinesDone {K : Type 0} (faults : K → ℕ) (start now : Desk K) (script : List (List ℕ)) (before taken : Option (List ℕ)) (t : Tally) : Type 0 where
  pub front : List ℕ
  pub gained : Gains before taken front
  pub shows : cal_outputs start.seats script start.limit now.entries start.state ≡ front ++ tables_text now.state
  pub lines_show : line_outputs start.seats script start.limit now.entries start.state ≡ front
  pub calls : map asked_of now.entries ≡ take start.limit (cal_questions start.seats script start.limit now.entries start.state)
  pub counts : CountsCalls start now script t
  pub rose : RoseBy (fault_count now.entries) (faults start.keeper) (faults now.keeper)
  pub settled : memory_stops now.entries ≡ 0
  pub same : HasSameOpening start now

-- all calls that the journal takes were made, and all that shows them was written
pub record CalWhole {K : Type 0} (faults : K → ℕ) (start now : Desk K) (script : List (List ℕ)) (before taken : Option (List ℕ)) : Type 0 where
  pub written : Gains before taken (cal_outputs start.seats script start.limit now.entries start.state)
  pub calls : map asked_of now.entries ≡ take start.limit (cal_questions start.seats script start.limit now.entries start.state)
  pub rose : RoseBy (fault_count now.entries) (faults start.keeper) (faults now.keeper)
  pub settled : memory_stops now.entries ≡ 0
  pub same : HasSameOpening start now

-- Some lines were done, and what they show was written before any call of the line after them; the calls that were made are those of these
-- lines, and the first of that line. What was written is a prefix of what shows the script.
pub record CalPart {K : Type 0} (faults : K → ℕ) (start now : Desk K) (script : List (List ℕ)) (before taken : Option (List ℕ)) : Type 0 where
  pub lines_done : ℕ
  pub written : GainsBetween before taken
      (line_outputs start.seats (take lines_done script) start.limit now.entries start.state)
      (cal_outputs start.seats script start.limit now.entries start.state)
  pub calls : map asked_of now.entries
      ≡ take (length now.entries) (cal_questions start.seats (take (lines_done + 1) script) start.limit now.entries start.state)
  pub rose : RoseBy (fault_count now.entries) (faults start.keeper) (faults now.keeper)
  pub same : HasSameOpening start now

-- the same until the sink failed, and no due steps stopped because memory ran out
pub record CalCutOff {K : Type 0} (faults : K → ℕ) (start now : Desk K) (script : List ℕ) (before taken : Option (List ℕ)) : Type 0 where
  pub few : length script ≤ script_limit
  pub part : CalPart faults start now (lines script) before taken
  pub settled : memory_stops now.entries ≡ 0

-- The status of a script that was done to its end: a call or its due steps met a keeper fault, or a call of a line or of a schedule found the
-- journal full, or a line is not a valid request.
abbrev pub cal_ending_of : ℕ → List (List ℕ) → List (ℕ × EventKind) → List Entry → Status
cal_ending_of limit script questions history =
    if nat_lt 0 (fault_count history) then KeeperFault
    else (if nat_lt limit (length questions) then JournalFull
    else (if has_refused_line script then UnreadableLines else Done))

-- the script was done to its end, with this status
pub record CalEndsWith {K : Type 0} (faults : K → ℕ) (start now : Desk K) (script : List ℕ) (before taken : Option (List ℕ)) (status : Status) : Type 0 where
  pub few : length script ≤ script_limit
  pub whole : CalWhole faults start now (lines script) before taken
  pub ending : status
      ≡ cal_ending_of start.limit (lines script) (cal_questions start.seats (lines script) start.limit now.entries start.state) now.entries

-- what a status says of an opened desk, of the bytes of the source, and of what the sink told before and after
abbrev pub CalDeskRan : {K : Type 0} → (K → ℕ) → Desk K → Desk K → List ℕ → Option (List ℕ) → Option (List ℕ) → Status → Type 0
CalDeskRan faults start now script before taken Usage = ⊥
CalDeskRan faults start now script before taken SourceFault = NothingDone start now before taken
CalDeskRan faults start now script before taken ScriptTooLong = (script_limit < length script) × NothingDone start now before taken
CalDeskRan faults start now script before taken Memory =
    NothingDone start now before taken ⊎ ((length script ≤ script_limit) × CalPart faults start now (lines script) before taken)
CalDeskRan faults start now script before taken SinkFault = CalCutOff faults start now script before taken
CalDeskRan faults start now script before taken KeeperFault = CalEndsWith faults start now script before taken KeeperFault
CalDeskRan faults start now script before taken JournalFull = CalEndsWith faults start now script before taken JournalFull
CalDeskRan faults start now script before taken UnreadableLines = CalEndsWith faults start now script before taken UnreadableLines
CalDeskRan faults start now script before taken (FormulaError position) = ⊥
CalDeskRan faults start now script before taken Done = CalEndsWith faults start now script before taken Done
