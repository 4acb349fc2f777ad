-- How a calendar over a desk goes on by one line: as `Advance`, with the calls of schedules.
use Rattle.std.specs.List.{list_any}
use Rattle.std.specs.Prelude.{◌≡◌, ◌≤◌, ◌-◌, ◌+◌, ◌||◌, ℕ, Bool, true, false, List, [], ◌++◌, length, map, take, Option, Result, Ok}
use Rattle.byte_streams.specs.Content.{Gains, GainsFront}
use Rattle.bt_rows.specs.declared.event.EventKind.{EventKind}
use Rattle.bt_rows.specs.declared.refusal.Refusal.{Refusal}
use Rattle.bt_rows.specs.declared.reply.Reply.TheVariants as replies
use Rattle.batch_model.specs.Variants.{State}
use Rattle.batch_desk.specs.declared.entry.Entry.{Entry}
use Rattle.batch_desk.specs.Kept.{Desk}
use Rattle.batch_desk.specs.History.{asked_of, fault_count}
use Rattle.batch_desk.specs.Answers.{HasSameOpening, IsInOrder}
use Rattle.wire_texts.specs.Lines.{numbered}
use Rattle.wire_texts.specs.Replies.{reply_text}
use Rattle.batch_cli.specs.Advance.{room_of, RoseBy}
use Rattle.batch_cli.specs.Shown.{answer_text, memory_stops, ran_out}
use Rattle.batch_cli.specs.CalendarShown.{Remaining, line_told, texts_of, asks_of, fires_text, is_refused_line}
use Rattle.batch_cli.specs.declared.tally.Tally.{Tally}
use Rattle.batch_schedule.specs.Kept.{Calendar}
use Rattle.schedule_lines.specs.Refusals as calendar
use Rattle.schedule_lines.specs.declared.line.CalLine.{CalLine}
use Rattle.schedule_lines.specs.declared.line.CalLine.TheVariants.{Call}
use Rattle.schedule_rows.specs.declared.answer.CalAnswer.{CalAnswer}
use Rattle.schedule_rows.specs.declared.answer.CalReply.{CalReply}
use Rattle.schedule_rows.specs.declared.answer.CalReply.TheVariants.{Status, Refused, Asked, Memory}
use Rattle.schedule_rows.specs.declared.event.CalEvent.{CalEvent}

-- a desk after calls of a calendar: in order, with the same opening
pub record KeepsDesk {K : Type 0} (told : K → Option State) (faults : K → ℕ) (old new : Desk K) : Type 0 where
  pub same : HasSameOpening old new
  pub in_order : IsInOrder told faults new
  pub later : faults old.keeper ≤ faults new.keeper

-- the lines that show the reply to the event of line n
abbrev pub first_text : ℕ → CalReply → List ℕ
first_text n (Status status) = numbered n (reply_text (replies.Status status))
first_text n (Refused refusal) = numbered n (calendar.refusal_text refusal)
first_text n (Asked answer) = answer_text n answer
first_text n Memory = []

-- the lines that show an answer
abbrev pub cal_text : ℕ → CalAnswer → List ℕ
cal_text n answer = first_text n answer.first ++ fires_text n answer.fires

-- due steps after the event stopped because memory ran out
abbrev pub first_ran_out : CalReply → Bool
first_ran_out (Status status) = false
first_ran_out (Refused refusal) = false
first_ran_out (Asked answer) = ran_out answer
first_ran_out Memory = false

-- due steps stopped because memory ran out
abbrev pub is_cut : CalAnswer → Bool
is_cut answer = first_ran_out answer.first || list_any (λ fire. ran_out fire.answer) answer.fires

-- 1 if the event is for the desk
abbrev pub first_count : CalReply → ℕ
first_count (Status status) = 0
first_count (Refused refusal) = 0
first_count (Asked answer) = 1
first_count Memory = 0

-- the calls of the desk that an answer has
abbrev pub call_count : CalAnswer → ℕ
call_count answer = length answer.fires + first_count answer.first

-- the run goes on after this answer, which this text shows, with this many calls of the desk
pub record ShowsAnswer (n : ℕ) (answer : CalAnswer) (text : List ℕ) (calls : ℕ) : Type 0 where
  pub whole : answer.whole ≡ true
  pub going : is_cut answer ≡ false
  pub shows : text ≡ cal_text n answer
  pub counts : calls ≡ call_count answer

-- the calendar has gone on by a line, which shows this text, whatever comes after it
pub record CalAdvances {K : Type 0} (faults : K → ℕ) (old new : Calendar (Desk K)) (n : ℕ) (line : Result CalLine Refusal) (text : List ℕ) : Type 0 where
  pub added : List Entry
  pub asked : List (ℕ × EventKind)
  pub entries : new.asker.entries ≡ old.asker.entries ++ added
  pub shows : (rest : Remaining ℕ) (more : List Entry) →
      line_told old.asker.seats (texts_of n) rest line old.rows old.now (room_of old.asker) (added ++ more) old.asker.state
      ≡ text ++ rest new.rows new.now (room_of new.asker) more new.asker.state
  pub asks : (rest : Remaining (ℕ × EventKind)) (more : List Entry) →
      line_told old.asker.seats (asks_of n) rest line old.rows old.now (room_of old.asker) (added ++ more) old.asker.state
      ≡ asked ++ rest new.rows new.now (room_of new.asker) more new.asker.state
  -- what was asked is entered while the journal takes more
  pub entered : map asked_of added ≡ take (room_of old.asker) asked
  pub room : room_of new.asker ≡ room_of old.asker - length asked
  pub rose : RoseBy (fault_count added) (faults old.asker.keeper) (faults new.asker.keeper)

-- a call was made, which this text shows, with this many calls of the desk; no due steps stopped because memory ran out
pub record CalShows {K : Type 0} (faults : K → ℕ) (old new : Calendar (Desk K)) (n moment : ℕ) (event : CalEvent) (text : List ℕ) (calls : ℕ) : Type 0 where
  pub step : CalAdvances faults old new n (Ok (Call moment event)) text
  pub settled : memory_stops step.added ≡ 0
  pub count : calls ≡ length step.asked

-- the line was done, and its text written
pub record CalDid {K : Type 0} (faults : K → ℕ) (old new : Calendar (Desk K)) (n : ℕ) (line : Result CalLine Refusal) (before now : Option (List ℕ))
    (t : Tally) : Type 0 where
  pub text : List ℕ
  pub step : CalAdvances faults old new n line text
  pub written : Gains before now text
  pub settled : memory_stops step.added ≡ 0
  pub calls : t.calls ≡ length step.asked
  pub refused : t.refused ≡ is_refused_line line

-- The run ends at the line: some of its calls were made, and a prefix of what shows them was written.
pub record CalHalts {K : Type 0} (faults : K → ℕ) (old new : Calendar (Desk K)) (n : ℕ) (line : Result CalLine Refusal)
    (before now : Option (List ℕ)) : Type 0 where
  pub added : List Entry
  pub asked : List (ℕ × EventKind)
  pub text : List ℕ
  pub entries : new.asker.entries ≡ old.asker.entries ++ added
  pub shows : (rest : Remaining ℕ) → (tail : List ℕ)
      × (line_told old.asker.seats (texts_of n) rest line old.rows old.now (room_of old.asker) added old.asker.state ≡ text ++ tail)
  pub asks : (rest : Remaining (ℕ × EventKind)) → (tail : List (ℕ × EventKind))
      × (line_told old.asker.seats (asks_of n) rest line old.rows old.now (room_of old.asker) added old.asker.state ≡ asked ++ tail)
  pub entered : map asked_of added ≡ take (room_of old.asker) asked
  pub rose : RoseBy (fault_count added) (faults old.asker.keeper) (faults new.asker.keeper)
  pub written : GainsFront before now text

-- the run ends at a call, of which nothing is written
abbrev pub HaltsCalCall : {K : Type 0} → (K → ℕ) → Calendar (Desk K) → Calendar (Desk K) → ℕ → ℕ → CalEvent → Type 0
HaltsCalCall faults old new n moment event = (taken : Option (List ℕ)) → CalHalts faults old new n (Ok (Call moment event)) taken taken
