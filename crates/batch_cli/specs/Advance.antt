-- How a desk goes on by one line.
use Rattle.std.specs.Prelude.{◌≡◌, ◌≤◌, ◌^◌, ◌+◌, ◌-◌, min, ◌⊎◌, ℕ, List, [], ◌++◌, length, map, Option, Result, Ok, take}
use Rattle.byte_streams.specs.Content.{Gains, GainsFront}
use Rattle.bt_rows.specs.declared.event.EventKind.{EventKind}
use Rattle.bt_rows.specs.declared.refusal.Refusal.{Refusal}
use Rattle.batch_model.specs.Variants.{State}
use Rattle.wire_lines.specs.declared.line.LineRequest.{LineRequest}
use Rattle.wire_lines.specs.declared.line.LineRequest.TheVariants.{Call}
use Rattle.batch_desk.specs.declared.entry.Entry.{Entry}
use Rattle.batch_desk.specs.Kept.{Desk}
use Rattle.batch_desk.specs.History.{asked_of, fault_count}
use Rattle.batch_cli.specs.Shown.{line_shown, call_in, is_refused, memory_stops}
use Rattle.batch_cli.specs.declared.tally.Tally.{Tally}

-- how many more entries the journal takes
abbrev pub room_of : {K : Type 0} → Desk K → ℕ
room_of d = d.limit - length d.entries

-- the count rose by this much, or stands at the end of its type
abbrev pub RoseBy : ℕ → ℕ → ℕ → Type 0
RoseBy by before now = min (before + by) (2 ^ 64 - 1) ≤ now

-- the desk has gone on by a line, which shows this text, whatever comes after it
pub record Advances {K : Type 0} (faults : K → ℕ) (old new : Desk K) (n : ℕ) (request : Result LineRequest Refusal) (text : List ℕ) : Type 0 where
  pub added : List Entry
  pub entries : new.entries ≡ old.entries ++ added
  pub shows : (rest : ℕ → List Entry → State → List ℕ) (more : List Entry) →
      line_shown old.seats rest n request (room_of old) (added ++ more) old.state ≡ text ++ rest (room_of new) more new.state
  pub calls : map asked_of added ≡ take (room_of old) (call_in request)
  pub rose : RoseBy (fault_count added) (faults old.keeper) (faults new.keeper)

-- the desk made a call, which this text shows, and whose due steps did not stop because memory ran out
pub record ShowsCall {K : Type 0} (faults : K → ℕ) (old new : Desk K) (n moment : ℕ) (event : EventKind) (text : List ℕ) : Type 0 where
  pub step : Advances faults old new n (Ok (Call moment event)) text
  pub settled : memory_stops step.added ≡ 0

-- the line was done, and its text written
pub record Did {K : Type 0} (faults : K → ℕ) (old new : Desk K) (n : ℕ) (request : Result LineRequest Refusal) (before now : Option (List ℕ)) : Type 0 where
  pub text : List ℕ
  pub step : Advances faults old new n request text
  pub written : Gains before now text
  pub settled : memory_stops step.added ≡ 0

-- the line's call was made, and a prefix of its text written
pub record CutShort {K : Type 0} (faults : K → ℕ) (old new : Desk K) (n : ℕ) (request : Result LineRequest Refusal)
    (before now : Option (List ℕ)) : Type 0 where
  pub text : List ℕ
  pub step : Advances faults old new n request text
  pub written : GainsFront before now text

-- the line was not done
pub record NotDone {K : Type 0} (old new : Desk K) (before now : Option (List ℕ)) : Type 0 where
  pub state : new.state ≡ old.state
  pub entries : new.entries ≡ old.entries
  pub written : Gains before now []

-- the run ends at the line
abbrev pub Halts : {K : Type 0} → (K → ℕ) → Desk K → Desk K → ℕ → Result LineRequest Refusal → Option (List ℕ) → Option (List ℕ) → Type 0
Halts faults old new n request before now = NotDone old new before now ⊎ CutShort faults old new n request before now

-- the run ends at a call, of which nothing is written
abbrev pub HaltsCall : {K : Type 0} → (K → ℕ) → Desk K → Desk K → ℕ → ℕ → EventKind → Type 0
HaltsCall faults old new n moment event = (taken : Option (List ℕ)) → Halts faults old new n (Ok (Call moment event)) taken taken

-- how many calls a line asks, and whether it is not a valid request
pub record Counts (request : Result LineRequest Refusal) (t : Tally) : Type 0 where
  pub calls : t.calls ≡ length (call_in request)
  pub refused : t.refused ≡ is_refused request
