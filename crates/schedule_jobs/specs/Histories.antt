-- What happens to a desk while a schedule has its turns.
use Rattle.std.specs.Prelude.{◌≡◌, ◌≤◌, ◌<◌, ℕ, Bool, true, false, List, [], ◌∷◌, Option}
use Rattle.std.specs.List.{list_any}
use Rattle.bt_base.specs.Ids.{same}
use Rattle.batch_model.specs.Variants.{State}
use Rattle.batch_desk.specs.Answers.{IsInOrder}
use Rattle.batch_desk.specs.Kept.{Desk}
use Rattle.batch_desk.specs.Exchanges.{Exchange, Leads}
use Rattle.batch_desk.specs.Desks.{IsExchange}
use Rattle.schedule_rows.specs.Jobs.{job_id}
use Rattle.schedule_rows.specs.Rows.{Schedule}
use Rattle.schedule_laws.specs.Laws.{jobs_made, Turn, IsSameSchedule, IsTurn}
use Rattle.job_laws.specs.OverJobs.{is_job_over}

-- a call that was made asked for a job with the id
abbrev pub makes_job : List Exchange → List ℕ → Bool
makes_job exchanges id = list_any (λ job. same job id) (jobs_made exchanges)

-- no call that was made asked for a job with the id of a job of the schedule
abbrev pub MakesNoneOf : Schedule → List Exchange → Type 0
MakesNoneOf s exchanges = (n : ℕ) → makes_job exchanges (job_id s.id n) ≡ false

-- each job of the schedule but the last one is completed, being deleted, or not there
abbrev pub EarlierAreOver : Schedule → State → Type 0
EarlierAreOver s t = (n : ℕ) → 1 ≤ n → n < s.number → is_job_over t (job_id s.id n) ≡ true

-- exchanges of others, or a turn of the schedule, whole or cut short
pub data Step : Type 0 where
  Others : List Exchange → Step
  OwnTurn : Turn → Step

-- the steps, one after the other, lead from the schedule and the asker to these later ones
abbrev pub LeadTo : {A : Type 0} → (A → Exchange → A → Type 0) → Schedule → A → List Step → Schedule → A → Type 0
LeadTo exchanged s old [] last new = (last ≡ s) × (new ≡ old)
LeadTo exchanged s old (Others exchanges ∷ steps) last new =
    MakesNoneOf s exchanges × (middle : _) × Leads exchanged old exchanges middle × LeadTo exchanged s middle steps last new
LeadTo exchanged s old (OwnTurn t ∷ steps) last new =
    IsSameSchedule s t.before × IsTurn t
    × (middle : _) × Leads exchanged old t.exchanges middle × LeadTo exchanged t.after middle steps last new

-- a schedule that began without jobs has one job at most that is not over
abbrev pub HasOneJobAtATime : {K : Type 0} → (K → Option State) → (K → ℕ) → Type 0
HasOneJobAtATime told faults =
    (old new : Desk _) (s last : Schedule) (steps : List Step) → IsInOrder told faults old → s.number ≡ 0
    → LeadTo (IsExchange told faults) s old steps last new → EarlierAreOver last new.state
