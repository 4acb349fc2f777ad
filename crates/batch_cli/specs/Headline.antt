-- What the run of a command was, and what it left.
use Rattle.std.specs.Prelude.{◌≡◌, ◌⊎◌, ◌≤◌, ◌<◌, ℕ, List, [], length, map, take, Option, Some, None, IfSome}
use Rattle.std.specs.Str.Lines.{lines}
use Rattle.byte_streams.specs.Content.{Gains, GainsFront, HoldsOfInput}
use Rattle.batch_model.specs.Variants.{State}
use Rattle.batch_model.specs.WellFormed.{IsWellFormed}
use Rattle.batch_keeper.specs.declared.error.KeepError.TheVariants.{Failed, Memory as NoMemory}
use Rattle.batch_desk.specs.declared.entry.Entry.{Entry}
use Rattle.batch_desk.specs.Kept.{Tells}
use Rattle.batch_desk.specs.Laws.{KeepsLaws}
use Rattle.batch_desk.specs.History.{IsLegal, after_all, asked_of, fault_count}
use Rattle.wire_texts.specs.Tables.{tables_text}
use Rattle.batch_cli.specs.Shown.{outputs, calls_of, memory_stops, but_last, outputs_before}
pub use Rattle.batch_cli.specs.Observed.{Observed, BeginsFrom, IsOnlyOpened, IsUnopened}
use Rattle.batch_cli.specs.CalendarRuns.{CalendarRan}
use Rattle.batch_cli.specs.Written.{GainsBetween}
use Rattle.batch_cli.specs.Advance.{RoseBy}
use Rattle.batch_cli.specs.EndStatus.{script_limit, ending_of, drill_ending}
use Rattle.batch_cli.specs.Drill.{IsDrilled, BeginsDrill, summary_text}
use Rattle.batch_cli.specs.declared.drill.limits.TheConstants.{DRILL_SEATS}
use Rattle.cli_words.specs.declared.command.ReplayOptions.{ReplayOptions as Options}
use Rattle.cli_words.specs.declared.command.FormulaOptions.{FormulaOptions}
use Rattle.cli_words.specs.declared.command.Command.{Command}
use Rattle.cli_words.specs.declared.command.Command.TheVariants.{Replay, Calendar, Formula, Export, Drill, Serve}
use Rattle.cli_words.specs.declared.command.Invocation.{Invocation}
use Rattle.cli_formula.specs.declared.end.End.{End}
use Rattle.cli_formula.specs.declared.end.End.TheVariants as ends
use Rattle.cli_formula.specs.Showing.{FormulaRan}
use Rattle.batch_cli.specs.declared.status.Status.{Status}
use Rattle.batch_cli.specs.declared.status.Status.TheVariants.{Done, Memory, Usage, SourceFault, SinkFault, KeeperFault, UnreadableLines, ScriptTooLong}
use Rattle.batch_cli.specs.declared.status.Status.TheVariants.{FormulaError, JournalFull}

-- The script was done to its end: its calls, up to the journal's limit, are one legal history from the opened tables,
-- what was written shows them, and the keeper tells the tables after them.
pub record IsDone (options : Options) (script : List ℕ) (seen : Observed) (status : Status) : Type 0 where
  pub few : length script ≤ script_limit
  pub opened : State
  pub begins : BeginsFrom options.seats seen.loaded opened
  pub history : List Entry
  pub legal : IsLegal options.seats opened history
  -- At each moment of the history no node holds more slots than its pool has. A task is placed only when it is ready, in free slots
  -- of its node, and its run is taken only for its present attempt and after its job's preparation on the node, if that is waited
  -- for. A run number is given once, and an ending of a run counts once. The failures of a task rise only by one, while they are
  -- below the limit in force, and a start or preparation task is run again only within its retries. A job is completed only where
  -- it has no placed task and no unended run, and has none while it is completed. A release run of a job is made on a node at most
  -- once, after its preparation was completed there.
  pub laws : KeepsLaws options.seats opened history
  pub calls : map asked_of history ≡ take options.limit (calls_of (lines script))
  -- no due steps stopped because memory ran out
  pub settled : memory_stops history ≡ 0
  pub written : Gains seen.taken_before seen.taken_now (outputs options.seats 1 (lines script) options.limit history opened)
  pub kept : Tells seen.kept (after_all options.seats opened history)
  -- each keeper fault of the history had a rise of the keeper's count for itself
  pub counted : RoseBy (fault_count history) seen.faults_before seen.faults_now
  pub ending : status ≡ ending_of options.limit (lines script) history

-- The script was begun: the first of its calls are one legal history from the opened tables, and the keeper tells the tables
-- after them. What was written is a prefix of what shows them, and has all before the line of the last call that has an
-- entry: no such call was made before the lines before it were written.
pub record IsBegun (options : Options) (script : List ℕ) (seen : Observed) : Type 0 where
  pub opened : State
  pub begins : BeginsFrom options.seats seen.loaded opened
  pub history : List Entry
  pub legal : IsLegal options.seats opened history
  -- the same laws as of a script that was done
  pub laws : KeepsLaws options.seats opened history
  pub within : length history ≤ options.limit
  pub calls : map asked_of history ≡ take (length history) (calls_of (lines script))
  -- no due steps but those of the last call stopped because memory ran out
  pub settled : memory_stops (but_last history) ≡ 0
  pub written : GainsBetween seen.taken_before seen.taken_now
      (outputs_before options.seats (lines script) options.limit history opened)
      (outputs options.seats 1 (lines script) options.limit history opened)
  pub kept : Tells seen.kept (after_all options.seats opened history)
  -- each keeper fault of the history had a rise of the keeper's count for itself
  pub counted : RoseBy (fault_count history) seen.faults_before seen.faults_now

-- the script was begun until the sink failed, and no due steps stopped because memory ran out
pub record IsCutOff (options : Options) (script : List ℕ) (seen : Observed) : Type 0 where
  pub few : length script ≤ script_limit
  pub begun : IsBegun options script seen
  pub settled : memory_stops begun.history ≡ 0

-- what a status says of a command with these options, of the bytes of the source, and of sink and keeper
abbrev pub RanWith : Options → List ℕ → Observed → Status → Type 0
RanWith options script seen Usage = ⊥
RanWith options script seen KeeperFault = IsUnopened seen Failed ⊎ IsDone options script seen KeeperFault
RanWith options script seen SourceFault = IsOnlyOpened options seen
RanWith options script seen ScriptTooLong = (script_limit < length script) × IsOnlyOpened options seen
RanWith options script seen SinkFault = IsCutOff options script seen
RanWith options script seen Memory = IsUnopened seen NoMemory ⊎ (IsOnlyOpened options seen ⊎ ((length script ≤ script_limit) × IsBegun options script seen))
RanWith options script seen JournalFull = IsDone options script seen JournalFull
RanWith options script seen UnreadableLines = IsDone options script seen UnreadableLines
RanWith options script seen (FormulaError position) = ⊥
RanWith options script seen Done = IsDone options script seen Done

-- how the command `formula` ended, by the status
abbrev pub end_of : Status → Option End
end_of Done = Some ends.Done
end_of Memory = Some ends.Memory
end_of Usage = None
end_of SourceFault = Some ends.SourceFault
end_of SinkFault = Some ends.SinkFault
end_of KeeperFault = None
end_of UnreadableLines = None
end_of ScriptTooLong = Some ends.TooLong
end_of (FormulaError position) = Some (ends.Fault position)
end_of JournalFull = None

-- what a status says of the command `formula`, whose formula are the bytes of the source
abbrev pub RanFormula : FormulaOptions → List ℕ → Option (List ℕ) → Option (List ℕ) → Option End → Type 0
RanFormula options formula before taken None = ⊥
RanFormula options formula before taken (Some end) = FormulaRan options.now options.dedicated formula before taken end

-- the tables text of the loaded tables, which are well formed, was written whole, and the keeper tells the same tables as before
pub record IsExported (seen : Observed) : Type 0 where
  pub tables : State
  pub well_formed : IsWellFormed tables
  pub loaded : IfSome seen.loaded (λ s. tables ≡ s)
  pub kept : seen.kept ≡ seen.loaded
  pub written : Gains seen.taken_before seen.taken_now (tables_text tables)

-- a prefix of it was written, and the keeper tells the same tables as before
pub record IsExportCut (seen : Observed) : Type 0 where
  pub tables : State
  pub well_formed : IsWellFormed tables
  pub loaded : IfSome seen.loaded (λ s. tables ≡ s)
  pub kept : seen.kept ≡ seen.loaded
  pub written : GainsFront seen.taken_before seen.taken_now (tables_text tables)

-- what a status says of the command `export`, which reads no source and opens no tables
abbrev pub RanExport : Observed → Status → Type 0
RanExport seen Done = IsExported seen
RanExport seen Memory = IsUnopened seen NoMemory ⊎ IsExportCut seen
RanExport seen SinkFault = IsExportCut seen
RanExport seen KeeperFault = IsUnopened seen Failed
RanExport seen Usage = ⊥
RanExport seen SourceFault = ⊥
RanExport seen UnreadableLines = ⊥
RanExport seen ScriptTooLong = ⊥
RanExport seen (FormulaError position) = ⊥
RanExport seen JournalFull = ⊥

-- A drill of this number of tasks was made: its calls are one legal history from the opened tables, and the keeper tells the tables
-- after them.
pub record IsMade (count : ℕ) (seen : Observed) : Type 0 where
  pub opened : State
  pub begins : BeginsFrom DRILL_SEATS seen.loaded opened
  pub history : List Entry
  pub drilled : IsDrilled count DRILL_SEATS opened history
  pub legal : IsLegal DRILL_SEATS opened history
  -- the same laws as of a script that was done
  pub laws : KeepsLaws DRILL_SEATS opened history
  -- no due steps stopped because memory ran out
  pub settled : memory_stops history ≡ 0
  pub kept : Tells seen.kept (after_all DRILL_SEATS opened history)
  -- each keeper fault of the history had a rise of the keeper's count for itself
  pub counted : RoseBy (fault_count history) seen.faults_before seen.faults_now

-- the drill was made, and the summary of the tables after it written
pub record IsMadeWhole (count : ℕ) (seen : Observed) (status : Status) : Type 0 where
  pub made : IsMade count seen
  pub written : Gains seen.taken_before seen.taken_now (summary_text count (after_all DRILL_SEATS made.opened made.history))
  pub ending : status ≡ drill_ending made.history

-- the drill was made, and a prefix of the summary written
pub record IsMadeCut (count : ℕ) (seen : Observed) : Type 0 where
  pub made : IsMade count seen
  pub written : GainsFront seen.taken_before seen.taken_now (summary_text count (after_all DRILL_SEATS made.opened made.history))

-- the first calls of the drill were made as above, and nothing was written
pub record IsMadePart (count : ℕ) (seen : Observed) : Type 0 where
  pub opened : State
  pub begins : BeginsFrom DRILL_SEATS seen.loaded opened
  pub history : List Entry
  pub begun : BeginsDrill count DRILL_SEATS opened history
  pub legal : IsLegal DRILL_SEATS opened history
  pub laws : KeepsLaws DRILL_SEATS opened history
  -- no due steps but those of the last call stopped because memory ran out
  pub settled : memory_stops (but_last history) ≡ 0
  pub written : Gains seen.taken_before seen.taken_now []
  pub kept : Tells seen.kept (after_all DRILL_SEATS opened history)
  pub counted : RoseBy (fault_count history) seen.faults_before seen.faults_now

-- what a status says of the command `drill`, which reads no source; its journal is never full
abbrev pub RanDrill : ℕ → Observed → Status → Type 0
RanDrill count seen Done = IsMadeWhole count seen Done
RanDrill count seen Memory = IsUnopened seen NoMemory ⊎ (IsMadePart count seen ⊎ IsMadeCut count seen)
RanDrill count seen SinkFault = IsMadeCut count seen
RanDrill count seen KeeperFault = IsUnopened seen Failed ⊎ IsMadeWhole count seen KeeperFault
RanDrill count seen Usage = ⊥
RanDrill count seen SourceFault = ⊥
RanDrill count seen UnreadableLines = ⊥
RanDrill count seen ScriptTooLong = ⊥
RanDrill count seen (FormulaError position) = ⊥
RanDrill count seen JournalFull = ⊥

-- no command was done: nothing was written, and the status says so, or that memory ran out
abbrev pub RanNothing : Observed → Status → Type 0
RanNothing seen status = ((status ≡ Usage) ⊎ (status ≡ Memory)) × Gains seen.taken_before seen.taken_now []

-- What a status says of a command, of what the source tells, and of sink and keeper. Of a command that reads a source it says that there is a
-- script or formula of which all of this holds: what the source told, if it told its bytes, and else some bytes. `serve` is not done.
abbrev pub RanCommand : Command → Option (List ℕ) → Observed → Status → Type 0
RanCommand (Replay options) left seen status = HoldsOfInput left (λ script. RanWith options script seen status)
RanCommand (Calendar options) left seen status = HoldsOfInput left (λ script. CalendarRan options script seen status)
RanCommand (Formula options) left seen status =
    HoldsOfInput left (λ formula. RanFormula options formula seen.taken_before seen.taken_now (end_of status))
RanCommand Export left seen status = RanExport seen status
RanCommand (Drill count) left seen status = RanDrill count seen status
RanCommand (Serve options) left seen status = RanNothing seen status

-- the same of what words ask; if they are not a command, nothing is written
abbrev pub Ran : Option Invocation → Option (List ℕ) → Observed → Status → Type 0
Ran None left seen status = RanNothing seen status
Ran (Some invocation) left seen status = RanCommand invocation.command left seen status

-- the command serves, and is not done here
abbrev pub IsService : Command → Type 0
IsService (Replay options) = ⊥
IsService (Calendar options) = ⊥
IsService (Formula options) = ⊥
IsService Export = ⊥
IsService (Drill count) = ⊥
IsService (Serve options) = Unit {0}

-- words ask no command that is done here
abbrev pub AsksNoRun : Option Invocation → Type 0
AsksNoRun None = Unit {0}
AsksNoRun (Some invocation) = IsService invocation.command

-- the command needs no tables
abbrev pub NeedsNoTables : Command → Type 0
NeedsNoTables (Replay options) = ⊥
NeedsNoTables (Calendar options) = ⊥
NeedsNoTables (Formula options) = Unit {0}
NeedsNoTables Export = ⊥
NeedsNoTables (Drill count) = ⊥
NeedsNoTables (Serve options) = Unit {0}

-- what words ask calls no keeper
abbrev pub CallsNoKeeper : Option Invocation → Type 0
CallsNoKeeper None = Unit {0}
CallsNoKeeper (Some invocation) = NeedsNoTables invocation.command

-- the statuses with which nothing is written
abbrev pub WritesNothing : Status → Type 0
WritesNothing Usage = Unit {0}
WritesNothing SourceFault = Unit {0}
WritesNothing ScriptTooLong = Unit {0}
WritesNothing Done = ⊥
WritesNothing Memory = ⊥
WritesNothing SinkFault = ⊥
WritesNothing KeeperFault = ⊥
WritesNothing UnreadableLines = ⊥
WritesNothing (FormulaError position) = ⊥
WritesNothing JournalFull = ⊥
