-- What an ending is: a success, a launch error, or another.
-- Source: Azure Batch REST reference, TaskExecutionInformation; the form is this project's own.
use Rattle.std.specs.Prelude.{zero, Bool, true, false, pos}
use Rattle.batch_model.specs.Variants.{Ending, Code, NotStarted}

-- an ending with code 0
abbrev pub is_success : Ending → Bool
is_success (Code (pos zero)) = true
is_success _ = false

-- the child program could not be started
abbrev pub is_not_started : Ending → Bool
is_not_started NotStarted = true
is_not_started _ = false
