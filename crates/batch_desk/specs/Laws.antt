-- Laws of a legal history.
use Rattle.std.specs.Prelude.{◌≡◌, ◌≤◌, ℕ, true, max, List, ◌∷◌, ◌++◌, Option, Some, None}
use Rattle.bt_rows.specs.declared.event.EventKind.{EventKind}
use Rattle.bt_rows.specs.declared.refusal.Refusal.{Refusal}
use Rattle.bt_rows.specs.declared.reply.Reply.TheVariants.{Refused}
use Rattle.batch_model.specs.Dues.{due_step}
use Rattle.batch_model.specs.Events.{event_step, at_moment}
use Rattle.batch_model.specs.Finding.{has_number_left}
use Rattle.batch_model.specs.Laws.{HoldsWithinSlots, JobsEndAtRest, JobsReleaseOnce}
use Rattle.batch_model.specs.Measure.{rank}
use Rattle.batch_model.specs.Sound.{RunsBelong, IsSound}
use Rattle.batch_model.specs.Steps.{DueStep}
use Rattle.batch_model.specs.Variants.{State}
use Rattle.model_laws.specs.Measure.{comes_below}
use Rattle.model_laws.specs.Order.{PlacesInOrder, HasNoneToPlace}
use Rattle.model_laws.specs.ReleaseRuns.{EventReleases, DueReleases}
use Rattle.model_laws.specs.Releases.{releases_of}
use Rattle.model_laws.specs.Placings.{EventPlacings, DuePlacings}
use Rattle.model_laws.specs.Retries.{EventRetries, DueRetries}
use Rattle.model_laws.specs.Runs.{KeepsRuns, TakesPresent}
use Rattle.batch_desk.specs.declared.entry.Entry.{Entry}
use Rattle.batch_desk.specs.declared.entry.Mark.TheVariants.{Done}
use Rattle.batch_desk.specs.History.{due_state, after_event, after_all, IsAskable}
use Rattle.batch_desk.specs.Once.{MakesRunsOnce, MakesNoOldRuns, EndsRunsOnce}

-- the tables that a history comes through: those before each call and after all, and those after the event of each call that was
-- made and after each of its due steps
pub data IsReached (seats : ℕ) (opened : State) (entries : List Entry) : State → Type 0 where
  between_calls : (before rest : List Entry) → entries ≡ before ++ rest → IsReached seats opened entries (after_all seats opened before)
  in_call : (before : List Entry) (e : Entry) (rest : List Entry) (refusal : Option Refusal) (n : ℕ) → entries ≡ before ++ e ∷ rest → e.mark ≡ Done refusal →
      n ≤ e.dues → IsReached seats opened entries (due_state seats n (after_event (after_all seats opened before) e))

-- the later tables have at most one release run of a job on a node, or no more than the earlier ones had; the runs of a job
-- go only with its row or with their task
abbrev pub HasFewReleases : State → State → Type 0
HasFewReleases earlier later = (job : List ℕ) (node : ℕ) → releases_of later job node ≤ max (releases_of earlier job node) 1

-- What holds of the tables at each moment, and of each step that may follow there. No node holds more slots than its pool has,
-- and the next due step that places a task places one that is ready, on a usable node of its job's pool, in the slots that are
-- free there; it is the first one that may be placed and fits, in one order of all tasks: higher priority of the job, then the
-- earlier job, then the earlier task. At rest there is none. A completed job has no placed task and no unended run, and the next due
-- step that ends a job ends one without both.
-- The next due step that makes a release run of a job on a node makes the first one there, after the job's preparation was
-- completed there, and more than one is only where the opened tables had more. An unended run of a task is of the present attempt
-- of a placed task, and a `take` of it is accepted only so, after the preparation of its job on its node if that is waited for.
-- The failures of a task rise only by a due step, by one, while they are below the limit in force, and begin at 0 if it is added
-- or reactivated. A start or preparation run is made when its node or its preparation begins, and else only after a failure that
-- left a retry.
pub record HoldsLaws (seats : ℕ) (opened s : State) : Type 0 where
  pub slots : HoldsWithinSlots seats s
  pub ends : JobsEndAtRest seats s
  pub releases : JobsReleaseOnce seats s
  pub few : HasFewReleases opened s
  pub belonging : RunsBelong s
  pub takes : TakesPresent s
  -- an event places no task and completes no job; a due step does so only by the line of that placing or of that end
  pub event_placings : (moment : ℕ) (event : EventKind) → EventPlacings s (event_step moment event s).state
  pub due_placings : (step : DueStep) → due_step seats s ≡ Some step → DuePlacings s step
  -- of all tasks, in the order of placing, the first one that may be placed and fits is placed
  pub order : PlacesInOrder s
  -- where no due step is left, no task is left that may be placed and fits, while run numbers are left
  pub idle : due_step seats s ≡ None → has_number_left s.next_run ≡ true → HasNoneToPlace s
  pub events : (moment : ℕ) (event : EventKind) → EventRetries s event (event_step moment event s).state
  pub dues : (step : DueStep) → due_step seats s ≡ Some step → DueRetries s step
  -- the tables are sound, and stay so
  pub sound : IsSound seats s
  pub sound_events : (moment : ℕ) (event : EventKind) → IsAskable moment event → IsSound seats (event_step moment event s).state
  pub sound_dues : (step : DueStep) → due_step seats s ≡ Some step → IsSound seats step.state
  -- a due step lowers the rank, so due steps come to an end
  pub falls : (step : DueStep) → due_step seats s ≡ Some step → comes_below (rank step.state) (rank s) ≡ true
  -- a run number that was given is not given again: a run with it is the one that was there, and one that has ended stays so
  pub run_events : (moment : ℕ) (event : EventKind) → KeepsRuns s (event_step moment event s).state
  pub run_dues : (step : DueStep) → due_step seats s ≡ Some step → KeepsRuns s step.state
  -- no event makes a release run, a due step makes only the first one of a job on a node, and it stays while the job has its row
  pub release_events : (moment : ℕ) (event : EventKind) → EventReleases s (event_step moment event s).state
  pub release_dues : (step : DueStep) → due_step seats s ≡ Some step → DueReleases s step
  -- a refused event changes the last moment alone
  pub refused : (moment : ℕ) (event : EventKind) (refusal : Refusal) → (event_step moment event s).reply ≡ Refused refusal →
      (event_step moment event s).state ≡ at_moment moment s

-- the laws hold at every moment of the history, each run number is given once, and none again that was given before it, and each run
-- ends once
pub record KeepsLaws (seats : ℕ) (opened : State) (entries : List Entry) : Type 0 where
  pub moments : (s : State) → IsReached seats opened entries s → HoldsLaws seats opened s
  pub made : MakesRunsOnce seats opened entries
  pub old : MakesNoOldRuns seats opened entries
  pub ended : EndsRunsOnce seats opened entries
