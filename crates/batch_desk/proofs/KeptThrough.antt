-- What every step keeps over sound tables holds throughout a legal history from sound tables.
use Rattle.std.proofs.Common.{◌≡◌, ℕ, zero, suc, List, [], ◌∷◌, ◌++◌, Option, Some, None, refl}
use Rattle.std.specs.Option.{option_map_or}
use Rattle.bt_rows.specs.declared.event.EventKind.{EventKind}
use Rattle.batch_model.specs.Steps.{DueStep}
use Rattle.batch_model.specs.Events.{event_step}
use Rattle.batch_model.specs.Dues.{due_step}
use Rattle.batch_model.specs.Sound.{IsSound}
use Rattle.batch_model.specs.Variants.{State}
use Rattle.model_rules.proofs.DueSound.{sound_by_due}
use Rattle.model_events.proofs.EventSound.{sound_by_event}
use Rattle.batch_desk.specs.declared.entry.Entry.{Entry}
use Rattle.batch_desk.specs.declared.entry.Mark.{Mark}
use Rattle.batch_desk.specs.declared.entry.Mark.TheVariants.{Done, KeeperFault as NotKept}
use Rattle.batch_desk.specs.History.{due_state, after_event, after_call, after_all, IsCall, IsLegal}

-- each event and each due step keeps the property
pub record IsKeptBySteps (seats : ℕ) (property : State → Type 0) : Type 0 where
  pub events : (moment : ℕ) (event : EventKind) (s : State) → IsSound seats s → property s → property (event_step moment event s).state
  pub dues : (s : State) (step : DueStep) → IsSound seats s → due_step seats s ≡ Some step → property s → property step.state

-- sound tables with the property
pub record IsHeld (seats : ℕ) (property : State → Type 0) (s : State) : Type 0 where
  pub sound : IsSound seats s
  pub held : property s

module _ (seats : ℕ) (property : State → Type 0) (kept : IsKeptBySteps seats property) where
  -- after a due step
  held_by_due : (s : State) (step : DueStep) → due_step seats s ≡ Some step → IsHeld seats property s → IsHeld seats property step.state
  held_by_due s step e h = record { sound = sound_by_due seats s step h.sound e; held = kept.dues s step h.sound e h.held }

  held_after_step : (n : ℕ) (s : State) (o : Option DueStep) → due_step seats s ≡ o → IsHeld seats property s →
      ((t : State) → IsHeld seats property t → IsHeld seats property (due_state seats n t)) →
      IsHeld seats property (option_map_or (λ (step : DueStep). due_state seats n step.state) o s)
  held_after_step n s None e h more = h
  held_after_step n s (Some step) e h more = more step.state (held_by_due s step e h)

  -- after this many due steps
  pub held_after_dues : (n : ℕ) (s : State) → IsHeld seats property s → IsHeld seats property (due_state seats n s)
  held_after_dues zero s h = h
  held_after_dues (suc n) s h = held_after_step n s (due_step seats s) refl h (held_after_dues n)

  -- after the event of a call
  pub held_after_event : (s : State) (e : Entry) → IsHeld seats property s → IsCall seats s e → IsHeld seats property (after_event s e)
  held_after_event s e h c = record {
    sound = sound_by_event seats e.moment e.event s c.0.last c.0.ranges h.sound;
    held = kept.events e.moment e.event s h.sound h.held;
  }

  -- after a call
  by_mark : (s : State) (e : Entry) (mark : Mark) → e.mark ≡ mark → IsHeld seats property s → IsCall seats s e →
      IsHeld seats property (after_call seats s e)
  by_mark s e NotKept is h c = rw is h
  by_mark s e (Done refusal) is h c = rw is (held_after_dues e.dues (after_event s e) (held_after_event s e h c))

  pub held_after_call : (s : State) (e : Entry) → IsHeld seats property s → IsCall seats s e → IsHeld seats property (after_call seats s e)
  held_after_call s e h c = by_mark s e e.mark refl h c

  -- after the first calls of a history
  pub held_after_all : (s : State) (before rest : List Entry) → IsHeld seats property s → IsLegal seats s (before ++ rest) →
      IsHeld seats property (after_all seats s before)
  held_after_all s [] rest h l = h
  held_after_all s (e ∷ before) rest h l = held_after_all (after_call seats s e) before rest (held_after_call s e h l.0) l.1

-- the calls after the first ones are a legal history from the tables after those
pub legal_after : (seats : ℕ) (s : State) (before rest : List Entry) → IsLegal seats s (before ++ rest) → IsLegal seats (after_all seats s before) rest
legal_after seats s [] rest l = l
legal_after seats s (e ∷ before) rest l = legal_after seats (after_call seats s e) before rest l.1

-- sound tables stay sound

-- any tables
abbrev pub IsAny : State → Type 0
IsAny s = Unit {0}

any_kept : (seats : ℕ) → IsKeptBySteps seats IsAny
any_kept seats = record { events = λ moment event s h k. tt; dues = λ s step h e k. tt }

pub sound_after_call : (seats : ℕ) (s : State) (e : Entry) → IsSound seats s → IsCall seats s e → IsSound seats (after_call seats s e)
sound_after_call seats s e h c = (held_after_call seats IsAny (any_kept seats) s e (record { sound = h; held = tt }) c).sound

pub sound_after_all : (seats : ℕ) (s : State) (before rest : List Entry) → IsSound seats s → IsLegal seats s (before ++ rest) →
    IsSound seats (after_all seats s before)
sound_after_all seats s before rest h l = (held_after_all seats IsAny (any_kept seats) s before rest (record { sound = h; held = tt }) l).sound
