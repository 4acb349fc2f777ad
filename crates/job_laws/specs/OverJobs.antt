-- Jobs that are over: completed, being deleted, or not there.
use Rattle.std.specs.Prelude.{◌≡◌, ℕ, Bool, true, false, List, find, Some}
use Rattle.std.specs.Option.{option_map_or}
use Rattle.bt_base.specs.Ids.{same}
use Rattle.bt_rows.specs.declared.event.EventKind.{EventKind}
use Rattle.bt_rows.specs.declared.event.EventKind.TheVariants.{AddJob}
use Rattle.batch_model.specs.Dues.{due_step}
use Rattle.batch_model.specs.Events.{event_step}
use Rattle.batch_model.specs.Rows.{is_job}
use Rattle.batch_model.specs.Sound.{IsSound}
use Rattle.batch_model.specs.Steps.{DueStep}
use Rattle.batch_model.specs.Variants.{State, JobRow, JobState, JobCompleted, Deleting}

-- completed or being deleted: no task of such a job is placed again
abbrev pub is_over_state : JobState → Bool
is_over_state JobCompleted = true
is_over_state Deleting = true
is_over_state _ = false

abbrev pub has_over_state : JobRow → Bool
has_over_state job = is_over_state job.state

-- the job with the id is completed or being deleted, or there is none
abbrev pub is_over_among : List ℕ → List JobRow → Bool
is_over_among id jobs = option_map_or has_over_state (find (is_job id) jobs) true

abbrev pub is_job_over : State → List ℕ → Bool
is_job_over s id = is_over_among id s.jobs

-- the event adds a job with the id
abbrev pub adds_job : EventKind → List ℕ → Bool
adds_job (AddJob job spec) id = same job id
adds_job _ id = false

abbrev pub EventsKeepOver : Type 0
EventsKeepOver =
    (moment : ℕ) (event : EventKind) (s : State) (id : List ℕ) → adds_job event id ≡ false → is_job_over s id ≡ true
    → is_job_over (event_step moment event s).state id ≡ true

abbrev pub DueStepsKeepOver : Type 0
DueStepsKeepOver =
    (seats : ℕ) (s : State) (step : DueStep) (id : List ℕ) → IsSound seats s → due_step seats s ≡ Some step → is_job_over s id ≡ true
    → is_job_over step.state id ≡ true
