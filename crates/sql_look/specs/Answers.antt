-- What calls answer after errors of SQL.
use Rattle.batch_keeper.specs.declared.error.KeepError.{KeepError}
use Rattle.batch_keeper.specs.declared.error.KeepError.TheVariants as keeps
use Rattle.sqlite.specs.declared.error.ErrorCode.TheVariants.{OutOfMemory}
use Rattle.sqlite.specs.declared.error.Error.{Error}
use Rattle.sqlite.specs.declared.error.Error.TheVariants.{SqliteFailure}

-- out of memory is told apart; every other error is a fault
abbrev pub answer_after : Error → KeepError
answer_after (SqliteFailure OutOfMemory) = keeps.Memory
answer_after _ = keeps.Failed
