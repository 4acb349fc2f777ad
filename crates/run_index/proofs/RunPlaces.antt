-- The runs of a task's present attempt are at the places of its text.
use Rattle.std.proofs.Common.{◌≡◌, true, ◌&&◌, Bool, List, Option}
use Rattle.text_chains.specs.Chains.{ChainsView, places_of}
use Rattle.text_chains.specs.Places.{HasPassing}
use Rattle.batch_model.specs.Runs.{is_present, is_busy_for, is_main, is_unended}
use Rattle.batch_model.specs.Variants.{TaskRow, RunRow}
use Rattle.run_index.specs.Attempts.{HasRuns, present_text}
use Rattle.run_index.proofs.AttemptTexts.{both, present_run_text}

-- the runs of the task's present attempt are at its places
pub present_passing : (view : ChainsView) (slots : List (Option RunRow)) (task : TaskRow) (test : RunRow → Bool)
    → ((run : RunRow) → test run ≡ true → is_present task run ≡ true) → HasRuns view slots → HasPassing test slots (places_of view (present_text task))
present_passing view slots task test each runs = λ place run is passes. runs.has place run (present_text task) is (present_run_text task run (each run passes))

pub busy_passing : (view : ChainsView) (slots : List (Option RunRow)) (task : TaskRow) → HasRuns view slots
    → HasPassing (is_busy_for task) slots (places_of view (present_text task))
busy_passing view slots task runs =
    present_passing view slots task (is_busy_for task) (λ run h. (both (is_present task run) (is_unended run.state) h).0) runs

pub main_passing : (view : ChainsView) (slots : List (Option RunRow)) (task : TaskRow) → HasRuns view slots
    → HasPassing (λ run. is_present task run && is_main run.kind) slots (places_of view (present_text task))
main_passing view slots task runs =
    present_passing view slots task (λ run. is_present task run && is_main run.kind) (λ run h. (both (is_present task run) (is_main run.kind) h).0) runs
