-- What follows the event of a call.
use Rattle.std.proofs.Common.{◌≡◌, ℕ, Bool, true, false, not, List, [], refl, subst, ap, ◌∙◌}
use Rattle.bt_rows.specs.declared.event.EventKind.{EventKind}
use Rattle.batch_desk.specs.declared.answer.Answer.{Answer}
use Rattle.batch_desk.specs.declared.answer.Answer.TheVariants as answers
use Rattle.batch_desk.specs.Exchanges.{Exchange, Called}
use Rattle.schedule_rows.specs.Fires.{has_memory}
use Rattle.schedule_rows.specs.Rows.{Schedule}
use Rattle.schedule_rows.specs.Turns.{turns}
use Rattle.schedule_rows.specs.declared.answer.CalReply.{CalReply}
use Rattle.schedule_rows.specs.declared.answer.CalReply.TheVariants.{Status, Refused, Asked, Memory}
use Rattle.schedule_rows.specs.declared.event.CalEvent.{CalEvent}
use Rattle.schedule_rows.specs.declared.event.CalEvent.TheVariants.{Inner}
use Rattle.schedule_rows.specs.declared.fire.Fire.{Fire}
use Rattle.batch_schedule.specs.Answers.{RunsThrough, TurnsFollow, IsOwn, AnswersEvent}
use Rattle.batch_schedule.specs.Runs.{RunsTurns}
use Rattle.batch_schedule.specs.Kept.{Calendar}
use Rattle.batch_schedule.specs.Own.{DoesOwn, is_memory}

module _ {A : Type 0} (exchanged : A → Exchange → A → Type 0) where
  through : (now : ℕ) (old_rows rows : List Schedule) (old new : A) (fired : List Fire) (whole : Bool) (h : RunsTurns exchanged now old_rows rows old new
      [] fired whole)
      → RunsThrough whole (turns now [] old_rows) h.exchanges rows
  through now old_rows rows old new fired true h = (record { ended = h.ended refl }, h.answered refl)
  through now old_rows rows old new fired false h = h.begun refl

  pub turns_follow : (now : ℕ) (old_rows : List Schedule) (asker : A) (new : Calendar A) (fired : List Fire) (whole : Bool) → new.now ≡ now
      → RunsTurns exchanged now old_rows new.rows asker new.asker [] fired whole → TurnsFollow exchanged now old_rows asker new fired whole
  turns_follow now old_rows asker new fired whole e h = record {
    moment = e;
    exchanges = h.exchanges;
    leads = h.leads;
    fires = h.fires;
    stops = h.stops;
    through = through now old_rows new.rows asker new.asker fired whole h;
  }

  -- memory ran out at an event on the schedules
  pub own_stopped : (old new : Calendar A) (rows : List Schedule) (now : ℕ) (event : CalEvent) (first : CalReply) → is_memory first ≡ true
      → DoesOwn now old.rows rows event first → new ≡ record old { rows = rows } → AnswersEvent exchanged old new now event first [] false
  own_stopped old new rows now event (Status status) m d e = cc
  own_stopped old new rows now event (Refused refusal) m d e = cc
  own_stopped old new rows now event (Asked answer) m d e = absurd d
  own_stopped old new rows now event Memory m d e = record { same = e ∙ ap (λ w. record old { rows = w }) d; none = refl; stopped = refl }

  -- the turns were run after an event on the schedules
  pub own_followed : (old new : Calendar A) (rows : List Schedule) (now : ℕ) (event : CalEvent) (first : CalReply) (fired : List Fire) (whole : Bool)
      → is_memory first ≡ false → IsOwn event → DoesOwn now old.rows rows event first → TurnsFollow exchanged now rows old.asker new fired whole
      → AnswersEvent exchanged old new now event first fired whole
  own_followed old new rows now event (Status status) fired whole m own d follows =
      (own, d.0, d.1, subst (λ w. TurnsFollow exchanged now w old.asker new fired whole) d.2 follows)
  own_followed old new rows now event (Refused refusal) fired whole m own d follows =
      (d.0, subst (λ w. TurnsFollow exchanged now w old.asker new fired whole) d.1 follows)
  own_followed old new rows now event (Asked answer) fired whole m own d follows = absurd d
  own_followed old new rows now event Memory fired whole m own d follows = cc

  -- memory ran out in the asker at its event
  pub asked_stopped : (old new : Calendar A) (asker : A) (now : ℕ) (event : EventKind) (answer : Answer) → not (has_memory answer) ≡ true
      → exchanged old.asker (Called now event answer) asker → new ≡ record { asker = asker; rows = old.rows; now = now }
      → AnswersEvent exchanged old new now (Inner event) (Asked answer) [] false
  asked_stopped old new asker now event (answers.Done reply dues stop) m made e = cc
  asked_stopped old new asker now event answers.KeeperFault m made e = cc
  asked_stopped old new asker now event answers.JournalFull m made e = cc
  asked_stopped old new asker now event answers.Memory m made e = record {
    inner = event;
    is_inner = refl;
    asker = asker;
    made = made;
    follows = record { moment = ap (λ c. c.now) e; asker_is = ap (λ c. c.asker) e; rows = ap (λ c. c.rows) e; none = refl; stopped = refl };
  }

  -- the turns were run after the asker's event
  pub asked_followed : (old new : Calendar A) (asker : A) (now : ℕ) (event : EventKind) (answer : Answer) (fired : List Fire) (whole : Bool)
      → not (has_memory answer) ≡ false → exchanged old.asker (Called now event answer) asker
      → TurnsFollow exchanged now old.rows asker new fired whole → AnswersEvent exchanged old new now (Inner event) (Asked answer) fired whole
  asked_followed old new asker now event (answers.Done reply dues stop) fired whole m made follows =
      record { inner = event; is_inner = refl; asker = asker; made = made; follows = follows }
  asked_followed old new asker now event answers.KeeperFault fired whole m made follows =
      record { inner = event; is_inner = refl; asker = asker; made = made; follows = follows }
  asked_followed old new asker now event answers.JournalFull fired whole m made follows =
      record { inner = event; is_inner = refl; asker = asker; made = made; follows = follows }
  asked_followed old new asker now event answers.Memory fired whole m made follows = cc
