-- The jobs that the turn of a schedule makes.
use Rattle.std.specs.Prelude.{◌≡◌, ◌<◌, ℕ, ◌+◌, true, List, [], ◌∷◌, ◌++◌, ◌⊎◌, Option, Some, None, Result, if◌then◌else◌}
use Rattle.std.specs.List.{flat_map}
use Rattle.bt_base.specs.declared.memory.NoMemory.{NoMemory}
use Rattle.bt_rows.specs.declared.event.EventKind.{EventKind}
use Rattle.bt_rows.specs.declared.event.EventKind.TheVariants.{AddJob}
use Rattle.bt_rows.specs.declared.reply.Reply.{Reply}
use Rattle.table_reads.specs.declared.request.Read.{Read}
use Rattle.batch_desk.specs.declared.answer.Answer.{Answer}
use Rattle.batch_desk.specs.Exchanges.{Exchange, Called, Looked}
use Rattle.schedule_rows.specs.declared.limits.TheConstants.{LAST_JOB_NUMBER}
use Rattle.schedule_rows.specs.declared.stage.Stage.TheVariants.{Idle}
use Rattle.schedule_rows.specs.Interactions.{Interaction, Ends, Reaches, IsBegun}
use Rattle.schedule_rows.specs.Jobs.{job_id, job_read, add_job_asked}
use Rattle.schedule_rows.specs.Occurrences.{due_at, is_new, firing_at, IsDue}
use Rattle.schedule_rows.specs.Rows.{Schedule}
use Rattle.schedule_rows.specs.Turns.{outcome_of, is_made, is_free, turns}

-- the job that an event adds
abbrev pub job_of : EventKind → List (List ℕ)
job_of (AddJob job spec) = job ∷ []
job_of _ = []

-- the job of a call that was made, if it adds one
abbrev pub made_by : Exchange → List (List ℕ)
made_by (Called moment event answer) = if is_made (outcome_of answer) then job_of event else []
made_by (Looked read reply) = []

-- the jobs that were requested in calls that were made, in order
abbrev pub jobs_made : List Exchange → List (List ℕ)
jobs_made exchanges = flat_map made_by exchanges

-- no job was made, and the id, the number and the last occurrence of the schedule stay
pub record MakesNone (s last : Schedule) (exchanges : List Exchange) : Type 0 where
  pub jobs : jobs_made exchanges ≡ []
  pub id : last.id ≡ s.id
  pub number : last.number ≡ s.number
  pub occurrence : last.last ≡ s.last

-- a read of the job, before any job was made, showed that it is completed or not there
pub record WasFree (read : Read) (exchanges : List Exchange) : Type 0 where
  pub before : List Exchange
  pub reply : Result Reply NoMemory
  pub after : List Exchange
  pub split : exchanges ≡ before ++ Looked read reply ∷ after
  pub none : jobs_made before ≡ []
  pub free : is_free reply ≡ true

-- one job was made, for the occurrence that is due and after the last one
pub record MakesOne (now : ℕ) (s last : Schedule) (exchanges : List Exchange) : Type 0 where
  pub occurrence : ℕ
  pub due : due_at s.first s.interval now ≡ Some occurrence
  pub later : is_new s.last occurrence ≡ true
  pub jobs : jobs_made exchanges ≡ job_id s.id (s.number + 1) ∷ []
  pub numbered : s.number < LAST_JOB_NUMBER
  pub id : last.id ≡ s.id
  pub number : last.number ≡ s.number + 1
  pub is_last : last.last ≡ Some occurrence
  pub first_or_free : (s.number ≡ 0) ⊎ WasFree (job_read s) exchanges

-- whatever the answers are, the turn of a schedule alone makes no job or one
abbrev pub MakesOneAtMost : Type 0
MakesOneAtMost =
    (now : ℕ) (s last : Schedule) (exchanges : List Exchange) → Reaches (turns now [] (s ∷ [])) exchanges (Ends (last ∷ []))
    → MakesNone s last exchanges ⊎ MakesOne now s last exchanges

-- a turn that was cut short also makes no job or one, and the schedule knows it
abbrev pub CutMakesOneAtMost : Type 0
CutMakesOneAtMost =
    (now : ℕ) (s last : Schedule) (exchanges : List Exchange) → IsBegun (turns now [] (s ∷ [])) exchanges (last ∷ [])
    → MakesNone s last exchanges ⊎ MakesOne now s last exchanges

-- The exchanges of the turns are those of one schedule after those of the other, in order; each schedule makes at most one job.
abbrev pub EachMakesOneAtMost : ℕ → List Schedule → List Schedule → List Exchange → Type 0
EachMakesOneAtMost now [] [] exchanges = exchanges ≡ []
EachMakesOneAtMost now [] (last ∷ lasts) exchanges = ⊥
EachMakesOneAtMost now (s ∷ rows) [] exchanges = ⊥
EachMakesOneAtMost now (s ∷ rows) (last ∷ lasts) exchanges =
    (own : List Exchange) × (others : List Exchange) × (exchanges ≡ own ++ others)
    × (MakesNone s last own ⊎ MakesOne now s last own) × EachMakesOneAtMost now rows lasts others

-- whatever the answers are, each schedule makes no job or one in the turns of all
abbrev pub TurnsMakeOneEach : Type 0
TurnsMakeOneEach =
    (now : ℕ) (rows lasts : List Schedule) (exchanges : List Exchange) → Reaches (turns now [] rows) exchanges (Ends lasts)
    → EachMakesOneAtMost now rows lasts exchanges

-- a schedule's interval is not 0
abbrev pub IsPositive : Option ℕ → Type 0
IsPositive None = Unit {0}
IsPositive (Some interval) = 0 < interval

-- what is due is the greatest occurrence at or before the moment, if there is one
abbrev pub DueIsGreatest : Type 0
DueIsGreatest = (first : ℕ) (interval : Option ℕ) (now : ℕ) → IsPositive interval → IsDue first interval now (due_at first interval now)

-- a turn of a schedule, over several calls: its moment, the schedule before and after it, and its exchanges
pub record Turn : Type 0 where
  pub moment : ℕ
  pub before : Schedule
  pub after : Schedule
  pub exchanges : List Exchange

-- the same schedule, except its state, which events on the schedules change between turns
pub record IsSameSchedule (s row : Schedule) : Type 0 where
  pub id : row.id ≡ s.id
  pub number : row.number ≡ s.number
  pub last : row.last ≡ s.last

-- the turn was run, or a prefix of it in a call that was cut short
abbrev pub IsTurn : Turn → Type 0
IsTurn t =
    Reaches (turns t.moment [] (t.before ∷ [])) t.exchanges (Ends (t.after ∷ []))
    ⊎ IsBegun (turns t.moment [] (t.before ∷ [])) t.exchanges (t.after ∷ [])

-- the turns of one schedule, one after the other
abbrev pub AreTurnsOf : Schedule → List Turn → Type 0
AreTurnsOf s [] = Unit {0}
AreTurnsOf s (t ∷ ts) = IsSameSchedule s t.before × IsTurn t × AreTurnsOf t.after ts

-- a turn makes one job, for the due occurrence, which is after this last one
pub record MakesNext (last : Option ℕ) (t : Turn) (occurrence : ℕ) : Type 0 where
  pub later : is_new last occurrence ≡ true
  pub due : due_at t.before.first t.before.interval t.moment ≡ Some occurrence
  pub jobs : jobs_made t.exchanges ≡ job_id t.before.id (t.before.number + 1) ∷ []
  pub first_or_free : (t.before.number ≡ 0) ⊎ WasFree (job_read t.before) t.exchanges

-- the jobs that the turns make are for occurrences after this last one, each after the previous one
abbrev pub MakesInOrder : Option ℕ → List Turn → Type 0
MakesInOrder last [] = Unit {0}
MakesInOrder last (t ∷ ts) =
    ((jobs_made t.exchanges ≡ []) × MakesInOrder last ts) ⊎ ((occurrence : ℕ) × MakesNext last t occurrence × MakesInOrder (Some occurrence) ts)

-- over all its turns, those that were cut short too, a schedule makes at most one job for each occurrence
abbrev pub MakesOneAnOccurrence : Type 0
MakesOneAnOccurrence = (s : Schedule) (ts : List Turn) → AreTurnsOf s ts → MakesInOrder s.last ts

-- the first exchange asks for the next job of the schedule
pub record AsksForJob (now : ℕ) (s : Schedule) (exchanges : List Exchange) : Type 0 where
  pub answer : Answer
  pub rest : List Exchange
  pub asks : exchanges ≡ Called now (add_job_asked s) answer ∷ rest

-- the first exchange reads the last job of the schedule, and if that is completed or not there, the second requests the next one
pub record LooksBefore (now : ℕ) (s : Schedule) (exchanges : List Exchange) : Type 0 where
  pub reply : Result Reply NoMemory
  pub rest : List Exchange
  pub looks : exchanges ≡ Looked (job_read s) reply ∷ rest
  pub follows : is_free reply ≡ true → AsksForJob now s rest

-- A schedule with nothing left to request that is to fire for an occurrence requests its job in its turn: at once if it is the first one, and
-- else if the read shows the previous one completed or not there.
abbrev pub FiresWhenDue : Type 0
FiresWhenDue =
    (now occurrence : ℕ) (s last : Schedule) (exchanges : List Exchange) → Reaches (turns now [] (s ∷ [])) exchanges (Ends (last ∷ []))
    → s.stage ≡ Idle → firing_at now s ≡ Some occurrence
    → ((s.number ≡ 0) × AsksForJob now s exchanges) ⊎ LooksBefore now s exchanges

-- The exchanges of turns that were begun are a prefix of those of whole turns, in which each schedule makes at most one job.
abbrev pub BegunMakesOneEach : Type 0
BegunMakesOneEach =
    (now : ℕ) (rows : List Schedule) (exchanges : List Exchange) (point : Interaction) → Reaches (turns now [] rows) exchanges point
    → (more : List Exchange) × (lasts : List Schedule) × EachMakesOneAtMost now rows lasts (exchanges ++ more)
