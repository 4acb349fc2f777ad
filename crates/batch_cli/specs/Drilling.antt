-- A desk on its way through a drill.
use Rattle.std.specs.Prelude.{◌≡◌, ◌⊎◌, ℕ, suc, ◌+◌, ◌-◌, ◌*◌, List, [], ◌∷◌, ◌++◌, Option, Some, length}
use Rattle.byte_streams.specs.Content.{Gains, GainsFront}
use Rattle.bt_rows.specs.declared.event.EventKind.{EventKind}
use Rattle.batch_desk.specs.declared.entry.Entry.{Entry}
use Rattle.batch_desk.specs.Kept.{Desk}
use Rattle.batch_desk.specs.History.{asked_of, faults_of, fault_count}
use Rattle.batch_desk.specs.Answers.{HasSameOpening, Stays}
use Rattle.batch_cli.specs.Shown.{memory_stop, memory_stops, but_last}
use Rattle.batch_cli.specs.Advance.{RoseBy}
use Rattle.batch_cli.specs.EndStatus.{drill_ending}
use Rattle.batch_cli.specs.Drill.{asks, Drills, BeginsDrill, IsDrilled, summary_text}
use Rattle.batch_cli.specs.declared.drill.stage.Stage.{Stage}
use Rattle.batch_cli.specs.declared.drill.stage.Stage.TheVariants.{AddingPool, AddingJob, AddingTask, Turning, Ending}
use Rattle.batch_cli.specs.declared.status.Status.{Status}
use Rattle.batch_cli.specs.declared.status.Status.TheVariants.{Done, Memory, Usage, SourceFault, SinkFault, KeeperFault, UnreadableLines, ScriptTooLong}
use Rattle.batch_cli.specs.declared.status.Status.TheVariants.{FormulaError, JournalFull}

-- the most calls of the turns of a drill of this number of tasks
abbrev pub turn_calls : ℕ → ℕ
turn_calls count = 2 * (4 * count + 16)

-- the most calls that are left from the task with this number on
abbrev pub calls_from : ℕ → ℕ → ℕ
calls_from number count = suc (count - number) + turn_calls count

-- the most calls that are left at a stage
abbrev pub calls_left : Stage → ℕ
calls_left (AddingPool count) = calls_from 1 count + 2
calls_left (AddingJob count) = calls_from 1 count + 1
calls_left (AddingTask number count x) = calls_from number count
calls_left (Turning left x) = 2 * left
calls_left (Ending run left x) = 2 * left + 1

-- the desk made this call, which has the last entry
pub record MadeCall {K : Type 0} (faults : K → ℕ) (old new : Desk K) (call : ℕ × EventKind) : Type 0 where
  pub entry : Entry
  pub entries : new.entries ≡ old.entries ++ entry ∷ []
  pub asked : asked_of entry ≡ call
  pub rose : RoseBy (faults_of entry) (faults old.keeper) (faults new.keeper)

-- and its due steps did not stop because memory ran out
pub record SettledCall {K : Type 0} (faults : K → ℕ) (old new : Desk K) (call : ℕ × EventKind) : Type 0 where
  pub made : MadeCall faults old new call
  pub settled : memory_stop made.entry.stop ≡ 0

-- the desk was left as it was, or made the call
abbrev pub StopsAt : {K : Type 0} → (K → ℕ) → Desk K → Desk K → ℕ × EventKind → Type 0
StopsAt faults old new call = Stays old new ⊎ MadeCall faults old new call

-- the desk made the call that is asked at a stage, after which the drill stands at the next one
pub record Steps {K : Type 0} (faults : K → ℕ) (old new : Desk K) (stage next : Stage) : Type 0 where
  pub call : ℕ × EventKind
  pub asked : asks stage old.state ≡ Some (call, next)
  pub made : SettledCall faults old new call

-- the desk was left as it was, or made the call that is asked at a stage
pub data StopsStep {K : Type 0} (faults : K → ℕ) (old new : Desk K) (stage : Stage) : Type 0 where
  before_call : Stays old new → StopsStep faults old new stage
  in_call : (call : ℕ × EventKind) (next : Stage) → asks stage old.state ≡ Some (call, next) → MadeCall faults old new call →
      StopsStep faults old new stage

-- The first calls of a drill were made, up to this stage, and no due steps stopped because memory ran out. At most those that are left
-- at the stage are still to come.
pub record DrillGoing {K : Type 0} (faults : K → ℕ) (start now : Desk K) (count : ℕ) (stage : Stage) : Type 0 where
  pub drills : Drills (AddingPool count) start.seats start.state now.entries stage
  pub calls : length now.entries + calls_left stage ≡ calls_left (AddingPool count)
  pub rose : RoseBy (fault_count now.entries) (faults start.keeper) (faults now.keeper)
  pub settled : memory_stops now.entries ≡ 0
  pub same : HasSameOpening start now

-- all calls of a drill were made, and no due steps stopped because memory ran out
pub record DrillWhole {K : Type 0} (faults : K → ℕ) (start now : Desk K) (count : ℕ) : Type 0 where
  pub drilled : IsDrilled count start.seats start.state now.entries
  pub rose : RoseBy (fault_count now.entries) (faults start.keeper) (faults now.keeper)
  pub settled : memory_stops now.entries ≡ 0
  pub same : HasSameOpening start now

-- the first calls of a drill were made, and no due steps but those of the last call stopped because memory ran out
pub record DrillPart {K : Type 0} (faults : K → ℕ) (start now : Desk K) (count : ℕ) : Type 0 where
  pub begun : BeginsDrill count start.seats start.state now.entries
  pub rose : RoseBy (fault_count now.entries) (faults start.keeper) (faults now.keeper)
  pub settled : memory_stops (but_last now.entries) ≡ 0
  pub same : HasSameOpening start now

-- all calls were made, and the summary of the tables after them written
pub record DrillEnds {K : Type 0} (faults : K → ℕ) (start now : Desk K) (count : ℕ) (before taken : Option (List ℕ)) : Type 0 where
  pub whole : DrillWhole faults start now count
  pub written : Gains before taken (summary_text count now.state)

-- all calls were made, and a prefix of the summary written
pub record DrillCut {K : Type 0} (faults : K → ℕ) (start now : Desk K) (count : ℕ) (before taken : Option (List ℕ)) : Type 0 where
  pub whole : DrillWhole faults start now count
  pub written : GainsFront before taken (summary_text count now.state)

-- the first calls were made, and nothing written
pub record DrillBroken {K : Type 0} (faults : K → ℕ) (start now : Desk K) (count : ℕ) (before taken : Option (List ℕ)) : Type 0 where
  pub part : DrillPart faults start now count
  pub written : Gains before taken []

-- what a status says of an opened desk, and of what the sink told before and after
abbrev pub DeskDrilled : {K : Type 0} → (K → ℕ) → Desk K → Desk K → ℕ → Option (List ℕ) → Option (List ℕ) → Status → Type 0
DeskDrilled faults start now count before taken Done = DrillEnds faults start now count before taken × (Done ≡ drill_ending now.entries)
DeskDrilled faults start now count before taken KeeperFault = DrillEnds faults start now count before taken × (KeeperFault ≡ drill_ending now.entries)
DeskDrilled faults start now count before taken SinkFault = DrillCut faults start now count before taken
DeskDrilled faults start now count before taken Memory = DrillBroken faults start now count before taken ⊎ DrillCut faults start now count before taken
DeskDrilled faults start now count before taken Usage = ⊥
DeskDrilled faults start now count before taken SourceFault = ⊥
DeskDrilled faults start now count before taken ScriptTooLong = ⊥
DeskDrilled faults start now count before taken UnreadableLines = ⊥
DeskDrilled faults start now count before taken JournalFull = ⊥
DeskDrilled faults start now count before taken (FormulaError position) = ⊥
