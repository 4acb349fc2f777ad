-- The exit statuses.
use Rattle.std.specs.Prelude.{ℕ}
use Rattle.batch_cli.specs.declared.status.Status.{Status}
use Rattle.batch_cli.specs.declared.status.Status.TheVariants.{Done, Memory, Usage, SourceFault, SinkFault, KeeperFault, UnreadableLines, ScriptTooLong}
use Rattle.batch_cli.specs.declared.status.Status.TheVariants.{FormulaError, JournalFull}

abbrev pub exit_code : Status → ℕ
exit_code Done = 0
exit_code Memory = 1
exit_code Usage = 2
exit_code SourceFault = 3
exit_code SinkFault = 4
exit_code KeeperFault = 5
exit_code UnreadableLines = 6
exit_code ScriptTooLong = 7
exit_code (FormulaError position) = 8
exit_code JournalFull = 9
