-- The places of the runs of an attempt.
use Rattle.std.specs.Prelude.{ℕ, Bool, min, List, [], ◌∷◌, ◌++◌, Option, Some, None, if◌then◌else◌}
use Rattle.kept_table.specs.Keys.{number_text, ids_text}
use Rattle.text_chains.specs.Chains.{ChainsView}
use Rattle.batch_model.specs.Variants.{TaskRow, RunRow}
use Rattle.run_index.specs.Texts.{HasPlaces}

-- the text of an attempt of a job's task: the number of the attempt, and both ids
abbrev pub attempt_text : List ℕ → List ℕ → ℕ → List ℕ
attempt_text job id attempt = number_text attempt ++ ids_text job id

-- the text of the task's present attempt
abbrev pub present_text : TaskRow → List ℕ
present_text task = attempt_text task.job task.id task.attempt

-- the text of an attempt, if a job and a task are named
abbrev pub text_of : Option (List ℕ) → Option (List ℕ) → ℕ → Option (List ℕ)
text_of None id attempt = None
text_of (Some job) None attempt = None
text_of (Some job) (Some id) attempt = Some (attempt_text job id attempt)

-- the text of the attempt that the run is of
abbrev pub run_attempt_text : RunRow → Option (List ℕ)
run_attempt_text run = text_of run.job run.task run.attempt

-- each run is at one of the places of its attempt, and no place is twice among those of an attempt
abbrev pub HasRuns : ChainsView → List (Option RunRow) → Type 0
HasRuns view slots = HasPlaces run_attempt_text view slots

-- the lower of two places
abbrev pub lower : Option ℕ → ℕ → ℕ
lower None place = place
lower (Some least) place = min least place

-- the lowest of a place and those that pass a test
abbrev pub lowest_from : (ℕ → Bool) → Option ℕ → List ℕ → Option ℕ
lowest_from test least [] = least
lowest_from test least (place ∷ places) = lowest_from test (if test place then Some (lower least place) else least) places
