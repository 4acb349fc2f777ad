-- Events on the schedules of a calendar.
use Rattle.std.specs.Prelude.{◌≡◌, ℕ, Bool, true, false, List, Some, None}
use Rattle.schedule_rows.specs.OwnEvents.{own_refusal, after_own, own_status}
use Rattle.schedule_rows.specs.Rows.{Schedule}
use Rattle.schedule_rows.specs.declared.answer.CalReply.{CalReply}
use Rattle.schedule_rows.specs.declared.answer.CalReply.TheVariants.{Status, Refused, Asked, Memory}
use Rattle.schedule_rows.specs.declared.event.CalEvent.{CalEvent}

-- the reply to an event on the schedules, and the schedules after it
abbrev pub DoesOwn : ℕ → List Schedule → List Schedule → CalEvent → CalReply → Type 0
DoesOwn now old new event Memory = new ≡ old
DoesOwn now old new event (Refused refusal) = (own_refusal old event ≡ Some refusal) × (new ≡ old)
DoesOwn now old new event (Status status) = (own_refusal old event ≡ None) × (status ≡ own_status event) × (new ≡ after_own now old event)
DoesOwn now old new event (Asked answer) = ⊥

-- memory ran out
abbrev pub is_memory : CalReply → Bool
is_memory Memory = true
is_memory _ = false
