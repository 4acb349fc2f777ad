-- One call, and legal histories of calls. Such a history determines the tables after each of its calls and all that the
-- calls were answered.
use Rattle.std.specs.Prelude.{◌≡◌, ◌≤◌, ℕ, true, zero, suc, ◌+◌, List, [], ◌∷◌, Option, Some, None, IsSome, length}
use Rattle.std.specs.Option.{option_map_or}
use Rattle.bt_base.specs.Moments.{last_moment}
use Rattle.bt_rows.specs.Ranges.{is_event_in_range}
use Rattle.bt_rows.specs.declared.event.EventKind.{EventKind}
use Rattle.bt_rows.specs.declared.due.Due.{Due}
use Rattle.bt_rows.specs.declared.refusal.Refusal.{Refusal}
use Rattle.bt_rows.specs.declared.reply.Reply.{Reply}
use Rattle.bt_rows.specs.declared.reply.Reply.TheVariants.{Refused}
use Rattle.batch_model.specs.Steps.{DueStep}
use Rattle.batch_model.specs.Events.{event_step}
use Rattle.batch_model.specs.Dues.{due_step}
use Rattle.batch_model.specs.Variants.{State}
use Rattle.batch_desk.specs.declared.entry.Entry.{Entry}
use Rattle.batch_desk.specs.declared.entry.Mark.{Mark}
use Rattle.batch_desk.specs.declared.entry.Mark.TheVariants.{Done, KeeperFault as NotKept}
use Rattle.batch_desk.specs.declared.entry.Stop.{Stop}
use Rattle.batch_desk.specs.declared.entry.Stop.TheVariants.{Rest, KeeperFault as FaultStop, Memory as MemoryStop}

-- the tables after this many due steps, or at rest before
abbrev pub due_state : ℕ → ℕ → State → State
due_state seats zero s = s
due_state seats (suc n) s = option_map_or (λ (step : DueStep). due_state seats n step.state) (due_step seats s) s

-- what this many due steps show
abbrev pub due_list : ℕ → ℕ → State → List Due
due_list seats zero s = []
due_list seats (suc n) s = option_map_or (λ (step : DueStep). step.due ∷ due_list seats n step.state) (due_step seats s) []

-- the due steps may stop for this reason at these tables: at rest no rule applies, and at a keeper fault one does
abbrev pub StopsSo : ℕ → Stop → State → Type 0
StopsSo seats Rest s = due_step seats s ≡ None
StopsSo seats FaultStop s = IsSome (due_step seats s)
StopsSo seats MemoryStop s = Unit {0}

-- this many due steps are made, and may stop for this reason after them
pub record DuesGo (seats n : ℕ) (stop : Stop) (s : State) : Type 0 where
  pub each : length (due_list seats n s) ≡ n
  pub stops : StopsSo seats stop (due_state seats n s)

-- the refusal that a reply is, if it is one
abbrev pub refusal_of : Reply → Option Refusal
refusal_of (Refused refusal) = Some refusal
refusal_of _ = None

-- the reply to a call, from the tables before it
abbrev pub reply_to : State → Entry → Reply
reply_to s e = (event_step e.moment e.event s).reply

-- the tables after the call's event alone
abbrev pub after_event : State → Entry → State
after_event s e = (event_step e.moment e.event s).state

-- what the call's due steps show
abbrev pub dues_of : ℕ → State → Entry → List Due
dues_of seats s e = due_list seats e.dues (after_event s e)

-- the tables after the call; a call that met a keeper fault leaves them
abbrev pub after_call : ℕ → State → Entry → State
after_call seats s e = by_mark e.mark
  where
    by_mark : Mark → State
    by_mark NotKept = s
    by_mark (Done refusal) = due_state seats e.dues (after_event s e)

-- the moment is one up to the year 9999, and the event's values are in their ranges
pub record IsAskable (moment : ℕ) (event : EventKind) : Type 0 where
  pub last : moment ≤ last_moment
  pub ranges : is_event_in_range event ≡ true

-- the entry is a call from these tables
abbrev pub IsCall : ℕ → State → Entry → Type 0
IsCall seats s e = IsAskable e.moment e.event × by_mark e.mark
  where
    by_mark : Mark → Type 0
    by_mark NotKept = (e.dues ≡ 0) × (e.stop ≡ FaultStop)
    by_mark (Done refusal) = (refusal ≡ refusal_of (reply_to s e)) × DuesGo seats e.dues e.stop (after_event s e)

-- each entry is a call from the tables before it
abbrev pub IsLegal : ℕ → State → List Entry → Type 0
IsLegal seats s [] = Unit {0}
IsLegal seats s (e ∷ es) = IsCall seats s e × IsLegal seats (after_call seats s e) es

-- the tables after all calls
abbrev pub after_all : ℕ → State → List Entry → State
after_all seats s [] = s
after_all seats s (e ∷ es) = after_all seats (after_call seats s e) es

-- what was asked
abbrev pub asked_of : Entry → ℕ × EventKind
asked_of e = (e.moment, e.event)

-- 1 if the entry records a keeper fault
abbrev pub faults_of : Entry → ℕ
faults_of e = by_stop e.stop
  where
    by_stop : Stop → ℕ
    by_stop Rest = 0
    by_stop FaultStop = 1
    by_stop MemoryStop = 0

-- how many entries record one
abbrev pub fault_count : List Entry → ℕ
fault_count [] = 0
fault_count (e ∷ es) = faults_of e + fault_count es

-- a call that a keeper fault left undone
abbrev pub fault_entry : ℕ → EventKind → Entry
fault_entry at asked = record { moment = at; event = asked; mark = NotKept; dues = 0; stop = FaultStop }

-- a call that was made, with its reply, the number of its due steps, and why they stopped
abbrev pub done_entry : ℕ → EventKind → Reply → ℕ → Stop → Entry
done_entry at asked reply count why = record { moment = at; event = asked; mark = Done (refusal_of reply); dues = count; stop = why }
