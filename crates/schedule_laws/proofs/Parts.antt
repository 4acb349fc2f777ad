-- Each part of a turn, and the interaction after it.
use Rattle.std.proofs.Common.{◌≡◌, ℕ, ◌+◌, Bool, true, false, List, [], ◌∷◌, ◌++◌, ◌⊎◌, inl, inr, refl, sym, ap, ◌∙◌, if◌then◌else◌}
use Rattle.bt_rows.specs.declared.event.EventKind.{EventKind}
use Rattle.batch_desk.specs.declared.answer.Answer.{Answer}
use Rattle.batch_desk.specs.Exchanges.{Exchange, Called, Looked}
use Rattle.schedule_rows.specs.Interactions.{Interaction, Ends, Asks, Reaches}
use Rattle.schedule_rows.specs.Jobs.{job_id, add_job_asked, add_tasks_asked, patch_asked, has_tasks}
use Rattle.schedule_rows.specs.Rows.{Schedule}
use Rattle.schedule_rows.specs.Turns.{outcome_of, is_made, fired_for, at_stage, after_patch, patches, after_tasks, adds_tasks, after_job, adds_job}
use Rattle.schedule_rows.specs.declared.outcome.CallOutcome.{CallOutcome}
use Rattle.schedule_rows.specs.declared.outcome.CallOutcome.TheVariants.{Created, Made, Missed, OutOfMemory}
use Rattle.schedule_rows.specs.declared.stage.Stage.TheVariants.{Idle, Tasks, Patch}
use Rattle.schedule_laws.specs.Laws.{job_of, made_by, jobs_made}

-- the same schedule, except its stage and its state
abbrev pub IsSame : Schedule → Schedule → Type 0
IsSame s r = (r.id ≡ s.id) × (r.number ≡ s.number) × (r.last ≡ s.last) × (r.first ≡ s.first) × (r.interval ≡ s.interval)

-- the first exchanges were those of a part, which made these jobs, and the rest are those of the interaction after it
pub record Left (P : Schedule → Type 0) (next : Schedule → Interaction) (exchanges : List Exchange) (end : List Schedule) (jobs : List (List ℕ)) : Type 0 where
  pub row : Schedule
  pub used : List Exchange
  pub rest : List Exchange
  pub split : exchanges ≡ used ++ rest
  pub made : jobs_made used ≡ jobs
  pub keeps : P row
  pub reached : Reaches (next row) rest (Ends end)

pub same : (s : Schedule) → IsSame s s
same s = (refl, refl, refl, refl, refl)

-- the part asks for nothing
pub nothing : (P : Schedule → Type 0) (next : Schedule → Interaction) (row : Schedule) (xs : List Exchange) (end : List Schedule) → P row
    → Reaches (next row) xs (Ends end) → Left P next xs end []
nothing P next row xs end p h = record { row = row; used = []; rest = xs; split = refl; made = refl; keeps = p; reached = h }

-- one exchange more before a part
pub before : (P : Schedule → Type 0) (next : Schedule → Interaction) (x : Exchange) (xs : List Exchange) (end : List Schedule) (first jobs : List (List ℕ))
    → made_by x ≡ first → Left P next xs end jobs → Left P next (x ∷ xs) end (first ++ jobs)
before P next x xs end first jobs e left = record {
  row = left.row;
  used = x ∷ left.used;
  rest = left.rest;
  split = ap (λ w. x ∷ w) left.split;
  made = ap (λ w. w ++ jobs_made left.used) e ∙ ap (λ w. first ++ w) left.made;
  keeps = left.keeps;
  reached = left.reached;
}

-- the jobs of a call, by its outcome
pub made_is : (at : ℕ) (asked event : EventKind) (answer : Answer) (h : CallOutcome) → h ≡ outcome_of answer → asked ≡ event
    → made_by (Called at asked answer) ≡ (if is_made h then job_of event else [])
made_is at asked event answer h e q = ap (λ v. if is_made v then job_of asked else []) (sym e) ∙ ap (λ w. if is_made h then job_of w else []) q

abbrev no_jobs : List (List ℕ)
no_jobs = []

none_either : (b : Bool) → (if b then no_jobs else no_jobs) ≡ no_jobs
none_either true = refl
none_either false = refl

if_made : (b : Bool) (s : Schedule) → IsSame s (if b then at_stage Idle s else s)
if_made true s = same s
if_made false s = same s

patches_by : (b : Bool) (now : ℕ) (s : Schedule) (put : Schedule → List Schedule) (next : Schedule → Interaction) (xs : List Exchange) (end : List Schedule)
    → Reaches (if b then Asks (put s) now (patch_asked s) (λ answer. after_patch s (outcome_of answer) put next) else next (at_stage Idle s)) xs (Ends end)
    → Left (IsSame s) next xs end []
patches_by true now s put next [] end h = cc
patches_by true now s put next (Called at asked answer ∷ xs) end h =
    before (IsSame s) next (Called at asked answer) xs end [] [] (made_is at asked (patch_asked s) answer (outcome_of answer) refl h.1 ∙ none_either
    (is_made (outcome_of answer)))
    (nothing (IsSame s) next (if is_made (outcome_of answer) then at_stage Idle s else s) xs end (if_made (is_made (outcome_of answer)) s) h.2)
patches_by true now s put next (Looked read reply ∷ xs) end h = absurd h
patches_by false now s put next xs end h = nothing (IsSame s) next (at_stage Idle s) xs end (same s) h

pub patches_left : (now : ℕ) (s : Schedule) (put : Schedule → List Schedule) (next : Schedule → Interaction) (xs : List Exchange) (end : List Schedule)
    → Reaches (patches now s put next) xs (Ends end) → Left (IsSame s) next xs end []
patches_left now s put next xs end h = patches_by s.job.on_all now s put next xs end h

after_tasks_by : (b : Bool) (now : ℕ) (s : Schedule) (put : Schedule → List Schedule) (next : Schedule → Interaction) (xs : List Exchange) (end : List Schedule)
    → Reaches (if b then patches now (at_stage Patch s) put next else next s) xs (Ends end) → Left (IsSame s) next xs end []
after_tasks_by true now s put next xs end h = patches_left now (at_stage Patch s) put next xs end h
after_tasks_by false now s put next xs end h = nothing (IsSame s) next s xs end (same s) h

tasks_by : (b : Bool) (now : ℕ) (s : Schedule) (put : Schedule → List Schedule) (next : Schedule → Interaction) (xs : List Exchange) (end : List Schedule)
    → Reaches (if b then Asks (put s) now (add_tasks_asked s) (λ answer. after_tasks now s (outcome_of answer) put next) else patches now
    (at_stage Patch s) put next) xs (Ends end)
    → Left (IsSame s) next xs end []
tasks_by true now s put next [] end h = cc
tasks_by true now s put next (Called at asked answer ∷ xs) end h =
    before (IsSame s) next (Called at asked answer) xs end [] []
    (made_is at asked (add_tasks_asked s) answer (outcome_of answer) refl h.1 ∙ none_either (is_made (outcome_of answer)))
    (after_tasks_by (is_made (outcome_of answer)) now s put next xs end h.2)
tasks_by true now s put next (Looked read reply ∷ xs) end h = absurd h
tasks_by false now s put next xs end h = patches_left now (at_stage Patch s) put next xs end h

pub tasks_left : (now : ℕ) (s : Schedule) (put : Schedule → List Schedule) (next : Schedule → Interaction) (xs : List Exchange) (end : List Schedule)
    → Reaches (adds_tasks now s put next) xs (Ends end) → Left (IsSame s) next xs end []
tasks_left now s put next xs end h = tasks_by (has_tasks s) now s put next xs end h

-- a job was made for occurrence k, or none was
abbrev pub JobLeft : ℕ → Schedule → (Schedule → Interaction) → List Exchange → List Schedule → Type 0
JobLeft k s next xs end = Left (IsSame (fired_for k s)) next xs end (job_id s.id (s.number + 1) ∷ []) ⊎ Left (IsSame s) next xs end []

job_by : (h : CallOutcome) (now k : ℕ) (s : Schedule) (put : Schedule → List Schedule) (next : Schedule
    → Interaction) (at : ℕ) (asked : EventKind) (answer : Answer)
    (xs : List Exchange) (end : List Schedule) → h ≡ outcome_of answer → asked ≡ add_job_asked s → Reaches (after_job now k s h put next) xs (Ends end)
    → JobLeft k s next (Called at asked answer ∷ xs) end
job_by Created now k s put next at asked answer xs end e q h =
    inl (before (IsSame (fired_for k s)) next (Called at asked answer) xs end (job_id s.id (s.number + 1) ∷ []) []
    (made_is at asked (add_job_asked s) answer Created e q) (tasks_left now (at_stage Tasks (fired_for k s)) put next xs end h))
job_by Made now k s put next at asked answer xs end e q h =
    inl (before (IsSame (fired_for k s)) next (Called at asked answer) xs end (job_id s.id (s.number + 1) ∷ []) []
    (made_is at asked (add_job_asked s) answer Made e q) (nothing (IsSame (fired_for k s)) next (fired_for k s) xs end (same (fired_for k s)) h))
job_by Missed now k s put next at asked answer xs end e q h =
    inr (before (IsSame s) next (Called at asked answer) xs end [] [] (made_is at asked (add_job_asked s) answer Missed e q)
    (nothing (IsSame s) next s xs end (same s) h))
job_by OutOfMemory now k s put next at asked answer xs end e q h =
    inr (before (IsSame s) next (Called at asked answer) xs end [] [] (made_is at asked (add_job_asked s) answer OutOfMemory e q)
    (nothing (IsSame s) next s xs end (same s) h))

pub job_left : (now k : ℕ) (s : Schedule) (put : Schedule → List Schedule) (next : Schedule → Interaction) (xs : List Exchange) (end : List Schedule)
    → Reaches (adds_job now k s put next) xs (Ends end) → JobLeft k s next xs end
job_left now k s put next [] end h = cc
job_left now k s put next (Called at asked answer ∷ xs) end h = job_by (outcome_of answer) now k s put next at asked answer xs end refl h.1 h.2
job_left now k s put next (Looked read reply ∷ xs) end h = absurd h
