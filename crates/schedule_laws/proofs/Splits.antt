-- The exchanges of a part and of the interaction after it: the first ones are those of the part, whatever comes after it.
use Rattle.std.proofs.Common.{◌≡◌, ℕ, Bool, true, false, nat_eq, List, [], ◌∷◌, ◌++◌, inl, inr, Option, Some, None, Result, refl, sym, ap, ◌∙◌}
use Rattle.std.proofs.Common.{append_assoc, if◌then◌else◌}
use Rattle.bt_base.specs.declared.memory.NoMemory.{NoMemory}
use Rattle.bt_rows.specs.declared.event.EventKind.{EventKind}
use Rattle.bt_rows.specs.declared.reply.Reply.{Reply}
use Rattle.table_reads.specs.declared.request.Read.{Read}
use Rattle.batch_desk.specs.declared.answer.Answer.{Answer}
use Rattle.batch_desk.specs.Exchanges.{Exchange, Called, Looked}
use Rattle.schedule_rows.specs.Interactions.{Interaction, Ends, Passes, Asks, Looks, Reaches}
use Rattle.schedule_rows.specs.Jobs.{add_job_asked, add_tasks_asked, patch_asked, job_read, has_tasks}
use Rattle.schedule_rows.specs.Occurrences.{firing_at, completed_at}
use Rattle.schedule_rows.specs.Rows.{Schedule}
use Rattle.schedule_rows.specs.Turns.{Part, outcome_of, is_made, is_free, fired_for, at_stage, after_patch, patches, after_tasks, adds_tasks}
use Rattle.schedule_rows.specs.Turns.{after_job, adds_job}
use Rattle.schedule_rows.specs.Turns.{after_look, adds_job_if_free, fires_for, fires, retries_stage, retries_and_fires, ends_turn, turn, turns}
use Rattle.schedule_rows.specs.declared.outcome.CallOutcome.{CallOutcome}
use Rattle.schedule_rows.specs.declared.outcome.CallOutcome.TheVariants.{Created, Made, Missed, OutOfMemory}
use Rattle.schedule_rows.specs.declared.stage.Stage.{Stage}
use Rattle.schedule_rows.specs.declared.stage.Stage.TheVariants.{Idle, Tasks, Patch}
use Rattle.schedule_laws.proofs.Reaching.{reaches_itself, passed, reaches_on}

record Split (part : Part) (next : Schedule → Interaction) (exchanges : List Exchange) (end : List Schedule) : Type 0 where
  pub row : Schedule
  pub used : List Exchange
  pub rest : List Exchange
  pub split : exchanges ≡ used ++ rest
  pub again : (put : Schedule → List Schedule) (after : Schedule → Interaction) → Reaches (part put after) used (after row)
  pub reached : Reaches (next row) rest (Ends end)

abbrev Splits : Part → Type 0
Splits part = (put : Schedule → List Schedule) (next : Schedule → Interaction) (xs : List Exchange) (end : List Schedule)
    → Reaches (part put next) xs (Ends end) →
    Split part next xs end

nothing : (row : Schedule) → Splits (λ put next. next row)
nothing row put next xs end h =
    record { row = row; used = []; rest = xs; split = refl; again = λ put' after. reaches_itself (after row); reached = h }

asks : (s : Schedule) (now : ℕ) (event : EventKind) (rest : Answer → Part) → ((answer : Answer) → Splits (rest answer)) →
    Splits (λ put next. Asks (put s) now event (λ answer. rest answer put next))
asks s now event rest splits put next [] end h = cc
asks s now event rest splits put next (Called at asked answer ∷ xs) end h =
    let left = splits answer put next xs end h.2 in
    record {
      row = left.row;
      used = Called at asked answer ∷ left.used;
      rest = left.rest;
      split = ap (λ w. Called at asked answer ∷ w) left.split;
      again = λ put' after. (h.0, h.1, left.again put' after);
      reached = left.reached;
    }
asks s now event rest splits put next (Looked read reply ∷ xs) end h = absurd h

looks : (s : Schedule) (read : Read) (rest : Result Reply NoMemory → Part) → ((reply : Result Reply NoMemory) → Splits (rest reply)) →
    Splits (λ put next. Looks (put s) read (λ reply. rest reply put next))
looks s read rest splits put next [] end h = cc
looks s read rest splits put next (Called at asked answer ∷ xs) end h = absurd h
looks s read rest splits put next (Looked asked reply ∷ xs) end h =
    let left = splits reply put next xs end h.1 in
    record {
      row = left.row;
      used = Looked asked reply ∷ left.used;
      rest = left.rest;
      split = ap (λ w. Looked asked reply ∷ w) left.split;
      again = λ put' after. (h.0, left.again put' after);
      reached = left.reached;
    }

either : (b : Bool) (p q : Part) → Splits p → Splits q → Splits (λ put next. if b then p put next else q put next)
either true p q first second = first
either false p q first second = second

pub past : (rows : List Schedule) (rest : Interaction) (xs : List Exchange) (end : List Schedule) → Reaches (Passes rows rest) xs (Ends end)
    → Reaches rest xs (Ends end)
past rows rest [] end (inl e) = cc
past rows rest [] end (inr h) = h
past rows rest (x ∷ xs) end h = h

passes : (s : Schedule) (p : Part) → Splits p → Splits (λ put next. Passes (put s) (p put next))
passes s p splits put next xs end h =
    let left = splits put next xs end (past (put s) (p put next) xs end h) in
    record {
      row = left.row;
      used = left.used;
      rest = left.rest;
      split = left.split;
      again = λ put' after. passed (put' s) (p put' after) (after left.row) left.used (left.again put' after);
      reached = left.reached;
    }

in_sequence : (p : Part) (q : Schedule → Part) → Splits p → ((r : Schedule) → Splits (q r)) → Splits (λ put next. p put (λ r. q r put next))
in_sequence p q first second put next xs end h =
    let a = first put (λ r. q r put next) xs end h in
    let b = second a.row put next a.rest end a.reached in
    record {
      row = b.row;
      used = a.used ++ b.used;
      rest = b.rest;
      split = a.split ∙ ap (λ w. a.used ++ w) b.split ∙ sym (append_assoc a.used b.used b.rest);
      again = λ put' after. reaches_on (p put' (λ r. q r put' after)) a.used b.used (q a.row put' after) (after b.row) (a.again put' (λ r. q r put' after))
          (b.again put' after);
      reached = b.reached;
    }

patches_split : (now : ℕ) (s : Schedule) → Splits (patches now s)
patches_split now s =
    either s.job.on_all (λ put next. Asks (put s) now (patch_asked s) (λ answer. after_patch s (outcome_of answer) put next)) (λ put next. next
    (at_stage Idle s))
    (asks s now (patch_asked s) (λ answer. after_patch s (outcome_of answer)) (λ answer. nothing (if is_made (outcome_of answer) then at_stage Idle s else s)))
    (nothing (at_stage Idle s))

tasks_split : (now : ℕ) (s : Schedule) → Splits (adds_tasks now s)
tasks_split now s =
    either (has_tasks s) (λ put next. Asks (put s) now (add_tasks_asked s) (λ answer. after_tasks now s (outcome_of answer) put next)) (patches now
    (at_stage Patch s))
    (asks s now (add_tasks_asked s) (λ answer. after_tasks now s (outcome_of answer))
    (λ answer. either (is_made (outcome_of answer)) (patches now (at_stage Patch s)) (λ put next. next s) (patches_split now (at_stage Patch s)) (nothing s)))
    (patches_split now (at_stage Patch s))

after_job_split : (now k : ℕ) (s : Schedule) (h : CallOutcome) → Splits (after_job now k s h)
after_job_split now k s Created = tasks_split now (at_stage Tasks (fired_for k s))
after_job_split now k s Made = nothing (fired_for k s)
after_job_split now k s Missed = nothing s
after_job_split now k s OutOfMemory = nothing s

job_split : (now k : ℕ) (s : Schedule) → Splits (adds_job now k s)
job_split now k s = asks s now (add_job_asked s) (λ answer. after_job now k s (outcome_of answer)) (λ answer. after_job_split now k s (outcome_of answer))

if_free_split : (now k : ℕ) (s : Schedule) → Splits (adds_job_if_free now k s)
if_free_split now k s =
    either (nat_eq s.number 0) (adds_job now k s) (λ put next. Looks (put s) (job_read s) (λ shown. after_look now k s shown put next)) (job_split now k s)
    (looks s (job_read s) (after_look now k s) (λ shown. either (is_free shown) (adds_job now k s) (λ put next. next s) (job_split now k s) (nothing s)))

fires_for_split : (now : ℕ) (s : Schedule) (due : Option ℕ) → Splits (fires_for now s due)
fires_for_split now s None = nothing s
fires_for_split now s (Some k) = if_free_split now k s

again_split : (now : ℕ) (t : Stage) (s : Schedule) → Splits (retries_stage now t s)
again_split now Idle s = nothing s
again_split now Tasks s = tasks_split now s
again_split now Patch s = patches_split now s

both_split : (now : ℕ) (s : Schedule) → Splits (retries_and_fires now s)
both_split now s = in_sequence (retries_stage now s.stage s) (fires now) (again_split now s.stage s) (λ row. fires_for_split now row (firing_at now row))

ends_split : (now : ℕ) (s : Schedule) → Splits (ends_turn now s)
ends_split now s = passes s (λ put next. next (completed_at now s)) (nothing (completed_at now s))

turn_split : (now : ℕ) (s : Schedule) → Splits (turn now s)
turn_split now s =
    passes s (λ put next. retries_and_fires now s put (λ row. ends_turn now row put next)) (in_sequence (retries_and_fires now s) (ends_turn now)
    (both_split now s) (ends_split now))

-- the turn of the first schedule, as if it were alone, and then the turns of the others
pub record FirstTurn (now : ℕ) (done : List Schedule) (s : Schedule) (rest : List Schedule) (exchanges : List Exchange) (end : List Schedule) : Type 0 where
  pub last : Schedule
  pub own : List Exchange
  pub others : List Exchange
  pub split : exchanges ≡ own ++ others
  pub alone : Reaches (turns now [] (s ∷ [])) own (Ends (last ∷ []))
  pub reached : Reaches (turns now (done ++ last ∷ []) rest) others (Ends end)

pub first_turn : (now : ℕ) (done : List Schedule) (s : Schedule) (rest : List Schedule) (xs : List Exchange) (end : List Schedule)
    → Reaches (turns now done (s ∷ rest)) xs (Ends end) → FirstTurn now done s rest xs end
first_turn now done s rest xs end h =
    let left = turn_split now s (λ row. done ++ row ∷ rest) (λ row. turns now (done ++ row ∷ []) rest) xs end h in
    record {
      last = left.row;
      own = left.used;
      others = left.rest;
      split = left.split;
      alone = left.again (λ row. [] ++ row ∷ []) (λ row. turns now ([] ++ row ∷ []) []);
      reached = left.reached;
    }
