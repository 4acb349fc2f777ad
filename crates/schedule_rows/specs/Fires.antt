-- The calls of schedules and their answers.
use Rattle.std.specs.Prelude.{◌≡◌, Bool, true, false, List, [], ◌∷◌, Ok, Err}
use Rattle.std.specs.List.{flat_map}
use Rattle.bt_rows.specs.declared.event.EventKind.{EventKind}
use Rattle.bt_rows.specs.declared.event.EventKind.TheVariants.{AddJob, AddTasks, PatchJob}
use Rattle.batch_desk.specs.declared.answer.Answer.{Answer}
use Rattle.batch_desk.specs.declared.answer.Answer.TheVariants as answers
use Rattle.batch_desk.specs.Exchanges.{Exchange, Called, Looked}
use Rattle.schedule_rows.specs.declared.fire.Fire.{Fire}
use Rattle.schedule_rows.specs.declared.fire.FireWord.TheVariants as words

-- a call of a schedule as a fire: its job, its kind and its answer
abbrev pub fire_of : EventKind → Answer → List Fire
fire_of (AddJob job spec) answer = record { job = job; word = words.AddJob; answer = answer } ∷ []
fire_of (AddTasks job tasks) answer = record { job = job; word = words.AddTasks; answer = answer } ∷ []
fire_of (PatchJob job patch) answer = record { job = job; word = words.PatchJob; answer = answer } ∷ []
fire_of _ answer = []

abbrev pub exchange_fires : Exchange → List Fire
exchange_fires (Called moment event answer) = fire_of event answer
exchange_fires (Looked read reply) = []

-- the calls among the exchanges of schedules, in order; reads are not fires
abbrev pub fires_of : List Exchange → List Fire
fires_of exchanges = flat_map exchange_fires exchanges

abbrev pub has_memory : Answer → Bool
has_memory (answers.Done reply dues stop) = true
has_memory answers.KeeperFault = true
has_memory answers.JournalFull = true
has_memory answers.Memory = false

-- the answer is not that memory ran out
abbrev pub is_answered : Exchange → Bool
is_answered (Called moment event answer) = has_memory answer
is_answered (Looked read (Ok reply)) = true
is_answered (Looked read (Err e)) = false

-- each of them was answered
abbrev pub AllAnswered : List Exchange → Type 0
AllAnswered [] = Unit {0}
AllAnswered (x ∷ xs) = (is_answered x ≡ true) × AllAnswered xs

-- each of them was answered, except possibly the last one
abbrev pub StopsWithoutMemory : List Exchange → Type 0
StopsWithoutMemory [] = Unit {0}
StopsWithoutMemory (x ∷ []) = Unit {0}
StopsWithoutMemory (x ∷ y ∷ xs) = (is_answered x ≡ true) × StopsWithoutMemory (y ∷ xs)
