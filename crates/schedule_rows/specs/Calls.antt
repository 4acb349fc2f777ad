-- Calls that schedules are to make.
use Rattle.std.specs.Prelude.{◌≡◌, ℕ, List, [], ◌∷◌}
use Rattle.bt_rows.specs.declared.event.EventKind.{EventKind}
use Rattle.batch_desk.specs.declared.answer.Answer.{Answer}
use Rattle.schedule_rows.specs.Fires.{fire_of}
use Rattle.schedule_rows.specs.declared.fire.FireWord.{FireWord}

-- the event is a call of this kind on the job with the id
pub record IsCallFor (job : List ℕ) (word : FireWord) (event : EventKind) : Type 0 where
  pub shown : (answer : Answer) → fire_of event answer ≡ record { job = job; word = word; answer = answer } ∷ []
