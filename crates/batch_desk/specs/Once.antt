-- Each run number is given once in a history, and each run ends once.
use Rattle.std.specs.Prelude.{◌≡◌, ◌≤◌, ◌<◌, ℕ, zero, suc, ◌+◌, Bool, ◌&&◌, List, [], ◌∷◌, ◌++◌, Some, None, is_some, is_none, if◌then◌else◌}
use Rattle.std.specs.Option.{option_map_or}
use Rattle.bt_rows.specs.declared.event.EventKind.TheVariants.{End}
use Rattle.bt_rows.specs.declared.refusal.Refusal.TheVariants.{RunNotFound, RunAlreadyEnded}
use Rattle.batch_model.specs.Steps.{DueStep}
use Rattle.batch_model.specs.Dues.{due_step}
use Rattle.batch_model.specs.Events.{at_moment}
use Rattle.batch_model.specs.Rows.{run_of}
use Rattle.batch_model.specs.Variants.{State, Ending}
use Rattle.batch_desk.specs.declared.entry.Entry.{Entry}
use Rattle.batch_desk.specs.declared.entry.Mark.{Mark}
use Rattle.batch_desk.specs.declared.entry.Mark.TheVariants.{Done, KeeperFault as NotKept}
use Rattle.batch_desk.specs.History.{after_event, after_call, after_all}

-- the tables after each of this many due steps, in order
abbrev pub due_trace : ℕ → ℕ → State → List State
due_trace seats zero s = []
due_trace seats (suc n) s = option_map_or (λ (step : DueStep). step.state ∷ due_trace seats n step.state) (due_step seats s) []

-- the tables after the event of the call and after each of its due steps, in order; none if the call met a keeper fault
abbrev pub call_trace : ℕ → State → Entry → List State
call_trace seats s e = by_mark e.mark
  where
    by_mark : Mark → List State
    by_mark NotKept = []
    by_mark (Done refusal) = after_event s e ∷ due_trace seats e.dues (after_event s e)

-- all tables that a history comes through after these, in order
abbrev pub trace : ℕ → State → List Entry → List State
trace seats s [] = []
trace seats s (e ∷ es) = call_trace seats s e ++ trace seats (after_call seats s e) es

-- there is a run with this number after a step, and there was none before it
abbrev pub makes : ℕ → State → State → Bool
makes number before after = is_none (run_of before number) && is_some (run_of after number)

-- how many of the steps from these tables through those make a run with this number
abbrev pub times_made : ℕ → State → List State → ℕ
times_made number s [] = 0
times_made number s (t ∷ ts) = (if makes number s t then 1 else 0) + times_made number t ts

-- a run with a number is made at most once in the history, also if the run is dropped with its job, task or pool later
abbrev pub MakesRunsOnce : ℕ → State → List Entry → Type 0
MakesRunsOnce seats opened entries = (number : ℕ) → times_made number opened (trace seats opened entries) ≤ 1

-- a number that was given before the history is not given in it
abbrev pub MakesNoOldRuns : ℕ → State → List Entry → Type 0
MakesNoOldRuns seats opened entries = (number : ℕ) → number < opened.next_run → times_made number opened (trace seats opened entries) ≡ 0

-- the call was refused because its run has ended or is no longer there, or it was not made
pub data IsTurnedDown : Mark → Type 0 where
  already_ended : IsTurnedDown (Done (Some RunAlreadyEnded))
  not_there : IsTurnedDown (Done (Some RunNotFound))
  not_kept : IsTurnedDown NotKept

-- the first call ends the run and was accepted, and a later one is to end a run with this number
pub record EndsAgain (entries : List Entry) (number : ℕ) (first later : Entry) : Type 0 where
  pub ending : Ending
  pub later_ending : Ending
  pub before : List Entry
  pub between : List Entry
  pub rest : List Entry
  pub in_order : entries ≡ before ++ first ∷ (between ++ later ∷ rest)
  pub ends : first.event ≡ End number ending
  pub accepted : first.mark ≡ Done None
  pub ends_again : later.event ≡ End number later_ending

-- the call from these tables is turned down, and its event changes the last moment alone
pub record LeavesTables (s : State) (e : Entry) : Type 0 where
  pub turned_down : IsTurnedDown e.mark
  pub unchanged : after_event s e ≡ at_moment e.moment s

-- the tables before the later call
abbrev pub before_later : (seats : ℕ) (opened : State) (entries : List Entry) (number : ℕ) (first later : Entry) → EndsAgain entries number first later → State
before_later seats opened entries number first later again = after_all seats (after_call seats (after_all seats opened again.before) first) again.between

-- an ending of a run counts once: after one that was accepted every other is turned down, and leaves the tables
abbrev pub EndsRunsOnce : ℕ → State → List Entry → Type 0
EndsRunsOnce seats opened entries =
    (number : ℕ) (first later : Entry) (again : EndsAgain entries number first later) →
    LeavesTables (before_later seats opened entries number first later again) later
