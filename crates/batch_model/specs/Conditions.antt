-- Exit conditions: what a task's ending does to its job and to the tasks that depend on it (Azure: exitConditions).
-- Source: Azure Batch REST reference, exitConditions, and Azure Batch documentation of task dependencies; the form is this project's own.
use Rattle.std.specs.Prelude.{zero, Bool, not, ◌&&◌, [], ◌∷◌, find, ℤ, pos, int_le, Option, unwrap_or}
use Rattle.std.specs.Option.{option_map, option_and_then}
use Rattle.std.specs.Ordering.{int_eq}
use Rattle.batch_model.specs.Finding.{or_else, first_of, only_if}
use Rattle.batch_model.specs.Endings.{is_success}
use Rattle.batch_model.specs.Variants.{TaskRow, Ending, Code, NoCode, NotStarted, JobAction, NoAction, ToTerminate, Given, Options}

-- a code from the first to the last of a range
abbrev pub is_between : ℤ → ℤ → ℤ → Bool
is_between first last code = int_le first code && int_le code last

-- what is listed for this code
abbrev pub listed : TaskRow → ℤ → Option Given
listed task code = option_map (λ entry. entry.1) (find (λ entry. int_eq entry.0 code) task.codes)

-- what is listed for the first range that holds the code
abbrev pub ranged : TaskRow → ℤ → Option Given
ranged task code = option_map (λ entry. entry.2) (find (λ entry. is_between entry.0 entry.1 code) task.ranges)

-- a listed code goes before ranges, and every other code than 0 has the default
abbrev pub given_for : TaskRow → Ending → Option Given
given_for task (Code code) = first_of (listed task code ∷ ranged task code ∷ only_if (not (is_success (Code code))) task.other ∷ [])
given_for task NoCode = task.other
given_for task NotStarted = or_else task.launch task.other

-- what becomes of the job if nothing is stated: code 0 does nothing, and every other ending terminates it
abbrev pub usual_action : Ending → JobAction
usual_action (Code (pos zero)) = NoAction
usual_action _ = ToTerminate

-- the stated options, and the usual ones for those that are absent: code 0 satisfies, and every other ending blocks
abbrev pub options_of : Option Given → Ending → Options
options_of given ending = record {
  job = unwrap_or (option_and_then (λ (options : Given). options.job) given) (usual_action ending);
  satisfies = unwrap_or (option_and_then (λ (options : Given). options.satisfies) given) (is_success ending);
}

-- the exit options that count for an ending of the task
abbrev pub condition : TaskRow → Ending → Options
condition task ending = options_of (given_for task ending) ending
