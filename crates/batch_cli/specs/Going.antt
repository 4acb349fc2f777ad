-- A desk on its way through a script.
use Rattle.std.specs.Prelude.{◌≡◌, ◌⊎◌, ◌<◌, ◌≤◌, ℕ, List, [], ◌++◌, map, take, length, Option}
use Rattle.std.specs.Str.Lines.{lines}
use Rattle.byte_streams.specs.Content.{Gains}
use Rattle.batch_desk.specs.declared.entry.Entry.{Entry}
use Rattle.batch_desk.specs.Kept.{Desk}
use Rattle.batch_desk.specs.History.{asked_of, fault_count}
use Rattle.batch_desk.specs.Answers.{HasSameOpening}
use Rattle.batch_cli.specs.Shown.{outputs, calls_of, has_refused, memory_stops, but_last, outputs_before}
use Rattle.batch_cli.specs.Written.{BeginsWith, GainsBetween}
use Rattle.batch_cli.specs.Advance.{RoseBy, room_of}
use Rattle.batch_cli.specs.EndStatus.{script_limit, ending_of}
use Rattle.batch_cli.specs.declared.status.Status.{Status}
use Rattle.batch_cli.specs.declared.status.Status.TheVariants.{Done, Memory, Usage, SourceFault, SinkFault, KeeperFault, UnreadableLines, ScriptTooLong}
use Rattle.batch_cli.specs.declared.status.Status.TheVariants.{FormulaError, JournalFull}
use Rattle.batch_cli.specs.declared.tally.Tally.{Tally}

-- Whatever entries come, what was written and what shows the rest of the lines shows all of them; all before the line
-- of the last call is written; and the calls made and those of the rest are all calls that the journal takes.
pub record Going {K : Type 0} (faults : K → ℕ) (start now : Desk K) (script rest : List (List ℕ)) (n : ℕ) (before taken : Option (List ℕ)) : Type 0 where
  pub front : List ℕ
  pub gained : Gains before taken front
  pub shows : (more : List Entry) →
      outputs start.seats 1 script start.limit (now.entries ++ more) start.state ≡ front ++ outputs start.seats n rest (room_of now) more now.state
  pub behind : BeginsWith front (outputs_before start.seats script start.limit now.entries start.state)
  pub calls : take start.limit (calls_of script) ≡ map asked_of now.entries ++ take (room_of now) (calls_of rest)
  pub rose : RoseBy (fault_count now.entries) (faults start.keeper) (faults now.keeper)
  pub settled : memory_stops now.entries ≡ 0
  pub same : HasSameOpening start now

-- all calls that the journal takes were made, and all that shows them was written
pub record Whole {K : Type 0} (faults : K → ℕ) (start now : Desk K) (script : List (List ℕ)) (before taken : Option (List ℕ)) : Type 0 where
  pub written : Gains before taken (outputs start.seats 1 script start.limit now.entries start.state)
  pub calls : map asked_of now.entries ≡ take start.limit (calls_of script)
  pub rose : RoseBy (fault_count now.entries) (faults start.keeper) (faults now.keeper)
  pub settled : memory_stops now.entries ≡ 0
  pub same : HasSameOpening start now

-- The first calls were made, and a prefix of what shows them was written: all before the line of the last call at least. No due
-- steps but those of the last call stopped because memory ran out.
pub record Part {K : Type 0} (faults : K → ℕ) (start now : Desk K) (script : List (List ℕ)) (before taken : Option (List ℕ)) : Type 0 where
  pub written : GainsBetween before taken
      (outputs_before start.seats script start.limit now.entries start.state)
      (outputs start.seats 1 script start.limit now.entries start.state)
  pub settled : memory_stops (but_last now.entries) ≡ 0
  pub calls : map asked_of now.entries ≡ take (length now.entries) (calls_of script)
  pub rose : RoseBy (fault_count now.entries) (faults start.keeper) (faults now.keeper)
  pub same : HasSameOpening start now

-- how many calls the lines ask, and whether one of them is not a valid request
pub record CountsAll (script : List (List ℕ)) (t : Tally) : Type 0 where
  pub calls : t.calls ≡ length (calls_of script)
  pub refused : t.refused ≡ has_refused script

-- nothing was called, and nothing written
pub record NothingDone {K : Type 0} (start now : Desk K) (before taken : Option (List ℕ)) : Type 0 where
  pub same : now ≡ start
  pub written : Gains before taken []

-- the script was done to its end, with this status
pub record EndsWith {K : Type 0} (faults : K → ℕ) (start now : Desk K) (script : List ℕ) (before taken : Option (List ℕ)) (status : Status) : Type 0 where
  pub few : length script ≤ script_limit
  pub whole : Whole faults start now (lines script) before taken
  pub ending : status ≡ ending_of start.limit (lines script) now.entries

-- the first calls were made until the sink failed, and no due steps stopped because memory ran out
pub record CutOff {K : Type 0} (faults : K → ℕ) (start now : Desk K) (script : List ℕ) (before taken : Option (List ℕ)) : Type 0 where
  pub few : length script ≤ script_limit
  pub part : Part faults start now (lines script) before taken
  pub settled : memory_stops now.entries ≡ 0

-- what a status says of an opened desk, of the bytes of the source, and of what the sink told before and after
abbrev pub DeskRan : {K : Type 0} → (K → ℕ) → Desk K → Desk K → List ℕ → Option (List ℕ) → Option (List ℕ) → Status → Type 0
DeskRan faults start now script before taken Usage = ⊥
DeskRan faults start now script before taken SourceFault = NothingDone start now before taken
DeskRan faults start now script before taken ScriptTooLong = (script_limit < length script) × NothingDone start now before taken
DeskRan faults start now script before taken Memory =
    NothingDone start now before taken ⊎ ((length script ≤ script_limit) × Part faults start now (lines script) before taken)
DeskRan faults start now script before taken SinkFault = CutOff faults start now script before taken
DeskRan faults start now script before taken KeeperFault = EndsWith faults start now script before taken KeeperFault
DeskRan faults start now script before taken JournalFull = EndsWith faults start now script before taken JournalFull
DeskRan faults start now script before taken UnreadableLines = EndsWith faults start now script before taken UnreadableLines
DeskRan faults start now script before taken (FormulaError position) = ⊥
DeskRan faults start now script before taken Done = EndsWith faults start now script before taken Done
