-- The ranges that the options of a command keep.
use Rattle.std.specs.Prelude.{ℕ, ◌≤◌, IfSome}
use Rattle.cli_words.specs.declared.command.ReplayOptions.{ReplayOptions}
use Rattle.cli_words.specs.declared.command.FormulaOptions.{FormulaOptions}
use Rattle.cli_words.specs.declared.command.ServeOptions.{ServeOptions}
use Rattle.cli_words.specs.declared.command.Command.{Command}
use Rattle.cli_words.specs.declared.command.Command.TheVariants.{Replay, Calendar, Formula, Export, Drill, Serve}
use Rattle.bt_base.specs.Moments.{last_moment}
use Rattle.bt_rows.specs.declared.limits.TheConstants.{SEAT_LIMIT, TARGET_LIMIT}
use Rattle.cli_words.specs.declared.command.TheConstants.{DRILL_LIMIT, JOURNAL_LIMIT, PORT_LIMIT, DOOR_LIMIT, CONNECTION_LIMIT}

-- from low to high
pub record IsWithin (low high n : ℕ) : Type 0 where
  pub least : low ≤ n
  pub most : n ≤ high

-- 1 to 32 seats, and a journal of 1 to 4,000,000 calls
pub record HasSeats (options : ReplayOptions) : Type 0 where
  pub some : 1 ≤ options.seats
  pub few : options.seats ≤ SEAT_LIMIT
  pub calls : 1 ≤ options.limit
  pub most : options.limit ≤ JOURNAL_LIMIT

-- a moment up to the year 9999, and up to 1,000 nodes
pub record HasTargets (options : FormulaOptions) : Type 0 where
  pub now : options.now ≤ last_moment
  pub dedicated : options.dedicated ≤ TARGET_LIMIT

-- 1 to 32 seats, a journal of 1 to 4,000,000 calls, a port up to 65,535, 1 to 16 doors, and 1 to 1,000,000 connections if they have a limit
pub record HasDoors (options : ServeOptions) : Type 0 where
  pub some : 1 ≤ options.seats
  pub few : options.seats ≤ SEAT_LIMIT
  pub calls : 1 ≤ options.journal
  pub most : options.journal ≤ JOURNAL_LIMIT
  pub port : options.port ≤ PORT_LIMIT
  pub doors : IsWithin 1 DOOR_LIMIT options.doors
  pub connections : IfSome options.connections (IsWithin 1 CONNECTION_LIMIT)

-- the options of the command are in their ranges, and the tasks of a drill are 1 to 100,000
abbrev pub IsInRange : Command → Type 0
IsInRange (Replay options) = HasSeats options
IsInRange (Calendar options) = HasSeats options
IsInRange (Formula options) = HasTargets options
IsInRange Export = Unit {0}
IsInRange (Drill count) = IsWithin 1 DRILL_LIMIT count
IsInRange (Serve options) = HasDoors options
