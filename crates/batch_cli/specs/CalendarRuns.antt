-- What the run of the command `calendar` was, and what it left: as that of `replay`, with the calls of schedules.
use Rattle.std.specs.Prelude.{◌≡◌, ◌⊎◌, ◌≤◌, ◌<◌, ◌+◌, ℕ, List, length, map, take}
use Rattle.std.specs.Str.Lines.{lines}
use Rattle.byte_streams.specs.Content.{Gains}
use Rattle.bt_rows.specs.declared.event.EventKind.{EventKind}
use Rattle.batch_model.specs.Variants.{State}
use Rattle.batch_keeper.specs.declared.error.KeepError.TheVariants.{Failed, Memory as NoMemory}
use Rattle.batch_desk.specs.declared.entry.Entry.{Entry}
use Rattle.batch_desk.specs.Kept.{Tells}
use Rattle.batch_desk.specs.Laws.{KeepsLaws}
use Rattle.batch_desk.specs.History.{IsLegal, after_all, asked_of, fault_count}
use Rattle.batch_cli.specs.Advance.{RoseBy}
use Rattle.batch_cli.specs.CalendarGoing.{cal_ending_of}
use Rattle.batch_cli.specs.CalendarShown.{cal_outputs, line_outputs, cal_questions}
use Rattle.batch_cli.specs.EndStatus.{script_limit}
use Rattle.batch_cli.specs.Observed.{Observed, BeginsFrom, IsOnlyOpened, IsUnopened}
use Rattle.batch_cli.specs.Shown.{memory_stops}
use Rattle.batch_cli.specs.Written.{GainsBetween}
use Rattle.batch_cli.specs.declared.status.Status.{Status}
use Rattle.batch_cli.specs.declared.status.Status.TheVariants.{Done, Memory, Usage, SourceFault, SinkFault, KeeperFault, UnreadableLines, ScriptTooLong}
use Rattle.batch_cli.specs.declared.status.Status.TheVariants.{FormulaError, JournalFull}
use Rattle.cli_words.specs.declared.command.ReplayOptions.{ReplayOptions as Options}

-- the calls of the script and of its schedules, over a history from these tables
abbrev pub questions_of : Options → List ℕ → List Entry → State → List (ℕ × EventKind)
questions_of options script history opened = cal_questions options.seats (lines script) options.limit history opened

-- what the script and its schedules show, over such a history
abbrev pub outputs_of : Options → List ℕ → List Entry → State → List ℕ
outputs_of options script history opened = cal_outputs options.seats (lines script) options.limit history opened

-- the status of a script that was done to its end, as that of `replay`; the calls of schedules count
abbrev pub cal_ending : Options → List ℕ → List Entry → State → Status
cal_ending options script history opened = cal_ending_of options.limit (lines script) (questions_of options script history opened) history

-- The script was done to its end: its calls and those of its schedules, up to the journal's limit, are one legal history from the opened
-- tables, what was written shows them, and the keeper tells the tables after them.
pub record IsCalendarDone (options : Options) (script : List ℕ) (seen : Observed) (status : Status) : Type 0 where
  pub few : length script ≤ script_limit
  pub opened : State
  pub begins : BeginsFrom options.seats seen.loaded opened
  pub history : List Entry
  pub legal : IsLegal options.seats opened history
  -- the same laws as of a script of `replay`
  pub laws : KeepsLaws options.seats opened history
  pub calls : map asked_of history ≡ take options.limit (questions_of options script history opened)
  -- no due steps stopped because memory ran out
  pub settled : memory_stops history ≡ 0
  pub written : Gains seen.taken_before seen.taken_now (outputs_of options script history opened)
  pub kept : Tells seen.kept (after_all options.seats opened history)
  -- each keeper fault of the history had a rise of the keeper's count for itself
  pub counted : RoseBy (fault_count history) seen.faults_before seen.faults_now
  pub ending : status ≡ cal_ending options script history opened

-- The script was begun: the calls that were made are one legal history from the opened tables, and the keeper tells the tables after them. Some
-- lines were done, and what they show was written before any call of the line after them; the calls are those of these lines and the first of
-- that line, with those of their schedules. What was written is a prefix of what shows the script.
pub record IsCalendarBegun (options : Options) (script : List ℕ) (seen : Observed) : Type 0 where
  pub opened : State
  pub begins : BeginsFrom options.seats seen.loaded opened
  pub history : List Entry
  pub legal : IsLegal options.seats opened history
  pub laws : KeepsLaws options.seats opened history
  pub within : length history ≤ options.limit
  pub lines_done : ℕ
  pub calls : map asked_of history
      ≡ take (length history) (cal_questions options.seats (take (lines_done + 1) (lines script)) options.limit history opened)
  pub written : GainsBetween seen.taken_before seen.taken_now
      (line_outputs options.seats (take lines_done (lines script)) options.limit history opened)
      (outputs_of options script history opened)
  pub kept : Tells seen.kept (after_all options.seats opened history)
  pub counted : RoseBy (fault_count history) seen.faults_before seen.faults_now

-- the script was begun until the sink failed, and no due steps stopped because memory ran out
pub record IsCalendarCutOff (options : Options) (script : List ℕ) (seen : Observed) : Type 0 where
  pub few : length script ≤ script_limit
  pub begun : IsCalendarBegun options script seen
  pub settled : memory_stops begun.history ≡ 0

-- what a status says of `calendar` with these options, of the bytes of the source, and of sink and keeper
abbrev pub CalendarRan : Options → List ℕ → Observed → Status → Type 0
CalendarRan options script seen Usage = ⊥
CalendarRan options script seen KeeperFault = IsUnopened seen Failed ⊎ IsCalendarDone options script seen KeeperFault
CalendarRan options script seen SourceFault = IsOnlyOpened options seen
CalendarRan options script seen ScriptTooLong = (script_limit < length script) × IsOnlyOpened options seen
CalendarRan options script seen SinkFault = IsCalendarCutOff options script seen
CalendarRan options script seen Memory =
    IsUnopened seen NoMemory ⊎ (IsOnlyOpened options seen ⊎ ((length script ≤ script_limit) × IsCalendarBegun options script seen))
CalendarRan options script seen JournalFull = IsCalendarDone options script seen JournalFull
CalendarRan options script seen UnreadableLines = IsCalendarDone options script seen UnreadableLines
CalendarRan options script seen (FormulaError position) = ⊥
CalendarRan options script seen Done = IsCalendarDone options script seen Done
