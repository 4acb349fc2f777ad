-- Exchanges of a desk leave a job over, unless a call that was made adds one with its id; and a read that shows a job free shows it over.
use Rattle.std.proofs.Common.{◌≡◌, ℕ, zero, suc, Bool, true, false, ◌||◌, List, [], ◌∷◌, ◌++◌, length, Option, Some, None, Result, Ok, Err}
use Rattle.std.proofs.Common.{option_map, nat_eq, refl}
use Rattle.std.proofs.Common.{sym, subst, ap, ◌∙◌, append-nil, if◌then◌else◌}
use Rattle.std.specs.List.{list_any}
use Rattle.std.specs.Option.{option_map_or}
use Rattle.std.proofs.lemmas.List.Folds.{list_any-append}
use Rattle.bt_base.specs.Ids.{same}
use Rattle.bt_base.specs.declared.memory.NoMemory.{NoMemory}
use Rattle.bt_rows.specs.declared.event.EventKind.{EventKind}
use Rattle.bt_rows.specs.declared.event.EventKind.TheVariants.{AddJob}
use Rattle.bt_rows.specs.declared.due.Due.{Due}
use Rattle.bt_rows.specs.declared.refusal.Refusal.TheVariants.{JobNotFound}
use Rattle.bt_rows.specs.declared.reply.Reply.{Reply}
use Rattle.bt_rows.specs.declared.reply.Reply.TheVariants as replies
use Rattle.table_reads.specs.Reads.{one_or, job_shown}
use Rattle.table_reads.specs.declared.request.Read.TheVariants as reads
use Rattle.batch_model.specs.Dues.{due_step}
use Rattle.batch_model.specs.Events.{event_step}
use Rattle.batch_model.specs.Rows.{job_of}
use Rattle.batch_model.specs.Sound.{IsSound}
use Rattle.batch_model.specs.Steps.{DueStep}
use Rattle.batch_model.specs.Variants.{State, JobRow, JobState, JobActive, Disabling, Disabled, Enabling, Terminating, JobCompleted, Deleting}
use Rattle.model_events.proofs.EventSound.{sound_by_event}
use Rattle.model_rules.proofs.DueSound.{sound_by_due}
use Rattle.model_lists.proofs.Tests.{or_false_first, or_false_second}
use Rattle.batch_desk.specs.Answers.{AnswersCall, IsInOrder}
use Rattle.batch_desk.specs.History.{due_state, after_all, done_entry, IsAskable, IsLegal}
use Rattle.batch_desk.specs.Kept.{Desk}
use Rattle.batch_desk.specs.declared.answer.Answer.{Answer}
use Rattle.batch_desk.specs.declared.answer.Answer.TheVariants.{Done, KeeperFault, JournalFull, Memory}
use Rattle.batch_desk.specs.declared.entry.Stop.{Stop}
use Rattle.batch_desk.proofs.KeptThrough.{legal_after, sound_after_all}
use Rattle.batch_desk.specs.Desks.{IsCall, IsLook, IsExchange}
use Rattle.batch_desk.specs.Exchanges.{Exchange, Called, Looked, Leads}
use Rattle.schedule_rows.specs.Turns.{is_made, reply_outcome, is_free, shows_free, is_completed_job}
use Rattle.schedule_laws.specs.Laws.{job_of as asked_job, made_by, jobs_made}
use Rattle.job_laws.specs.OverJobs.{has_over_state, is_over_state, is_job_over, adds_job}
use Rattle.job_laws.proofs.OverByEvents.{over_by_event}
use Rattle.job_laws.proofs.OverByDues.{due_keeps_over}
use Rattle.schedule_jobs.specs.Histories.{makes_job}

-- a test of a list that is in two parts

pub none_first : {X : Type 0} (test : X → Bool) (xs ys : List X) → list_any test (xs ++ ys) ≡ false → list_any test xs ≡ false
none_first test xs ys e = or_false_first (list_any test xs) (list_any test ys) (sym (list_any-append test xs ys) ∙ e)

pub none_second : {X : Type 0} (test : X → Bool) (xs ys : List X) → list_any test (xs ++ ys) ≡ false → list_any test ys ≡ false
none_second test xs ys e = or_false_second (list_any test xs) (list_any test ys) (sym (list_any-append test xs ys) ∙ e)

-- calls that were made

reply_is_made : (reply : Reply) → is_made (reply_outcome reply) ≡ true
reply_is_made (replies.Status status) = by_test (nat_eq status 201) refl
  where
    by_test : (b : Bool) → b ≡ nat_eq status 201 → is_made (reply_outcome (replies.Status status)) ≡ true
    by_test true e = rw (← e) refl
    by_test false e = rw (← e) refl
reply_is_made other = refl

alone : (b : Bool) → (b || false) ≡ false → b ≡ false
alone true e = cc
alone false e = refl

adds_none : (event : EventKind) (id : List ℕ) → list_any (λ job. same job id) (asked_job event) ≡ false → adds_job event id ≡ false
adds_none (AddJob job spec) id e = alone (same job id) e
adds_none other id e = refl

made_none : (moment : ℕ) (event : EventKind) (reply : Reply) (dues : List Due) (stop : Stop) (id : List ℕ)
    → list_any (λ job. same job id) (made_by (Called moment event (Done reply dues stop))) ≡ false → adds_job event id ≡ false
made_none moment event reply dues stop id e =
    adds_none event id
    (sym (ap (λ b. list_any (λ job. same job id) (if b then asked_job event else [])) (reply_is_made reply)) ∙ e)

-- a job that is completed is over
completed_is_over : (state : JobState) → is_completed_job state ≡ true → is_over_state state ≡ true
completed_is_over JobCompleted e = refl
completed_is_over JobActive e = cc
completed_is_over Disabling e = cc
completed_is_over Disabled e = cc
completed_is_over Enabling e = cc
completed_is_over Terminating e = cc
completed_is_over Deleting e = refl

free_is_over : (s : State) (o : Option JobRow) → shows_free (one_or JobNotFound (option_map (job_shown s) o)) ≡ true
    → option_map_or has_over_state o true ≡ true
free_is_over s None e = refl
free_is_over s (Some job) e = completed_is_over job.state e

module _ (seats : ℕ) (id : List ℕ) where
  -- sound tables in which the job is over
  record IsHeld (s : State) : Type 0 where
    pub sound : IsSound seats s
    pub over : is_job_over s id ≡ true

  by_step : (n : ℕ) (s : State) (o : Option DueStep) → due_step seats s ≡ o → IsHeld s → ((t : State) → IsHeld t → IsHeld (due_state seats n t))
      → IsHeld (option_map_or (λ (step : DueStep). due_state seats n step.state) o s)
  by_step n s None e h more = h
  by_step n s (Some step) e h more =
      more step.state (record { sound = sound_by_due seats s step h.sound e; over = due_keeps_over id seats s step h.sound e h.over })

  after_dues : (n : ℕ) (s : State) → IsHeld s → IsHeld (due_state seats n s)
  after_dues zero s h = h
  after_dues (suc n) s h = by_step n s (due_step seats s) refl h (after_dues n)

  after_call : (s : State) (moment : ℕ) (event : EventKind) (dues : ℕ) → IsAskable moment event → adds_job event id ≡ false → IsHeld s
      → IsHeld (due_state seats dues (event_step moment event s).state)
  after_call s moment event dues askable other h =
      after_dues dues (event_step moment event s).state
      (record { sound = sound_by_event seats moment event s askable.last askable.ranges h.sound; over = over_by_event id moment event s other h.over })

module _ {K : Type 0} (told : K → Option State) (faults : K → ℕ) where
  sound_tables : (d : Desk K) → IsInOrder told faults d → IsSound d.seats d.state
  sound_tables d order =
      subst (IsSound d.seats) (sym order.state)
      (sound_after_all d.seats d.opened d.entries [] order.begun (subst (IsLegal d.seats d.opened) (sym (append-nil d.entries)) order.legal))

  module _ (id : List ℕ) where
    abbrev Keeps : Desk K → Desk K → Type 0
    Keeps old new = is_job_over old.state id ≡ true → is_job_over new.state id ≡ true

    same_tables : (old new : Desk K) → new.state ≡ old.state → Keeps old new
    same_tables old new e h = ap (λ s. is_job_over s id) e ∙ h

    call_keeps : (old new : Desk K) (moment : ℕ) (event : EventKind) (answer : Answer) → IsInOrder told faults old
        → IsCall told faults old new moment event answer
        → list_any (λ job. same job id) (made_by (Called moment event answer)) ≡ false → AnswersCall faults old new moment event answer → Keeps old new
    call_keeps old new moment event JournalFull order call none a = same_tables old new (ap (λ d. d.state) a.1)
    call_keeps old new moment event Memory order call none a = same_tables old new a.1.state
    call_keeps old new moment event KeeperFault order call none a = same_tables old new a.0.made
    call_keeps old new moment event (Done reply dues stop) order call none a = λ h.
        let entry = done_entry moment event reply (length dues) stop in
        let legal : IsLegal new.seats (after_all new.seats new.opened old.entries) (entry ∷ []) =
        legal_after new.seats new.opened old.entries (entry ∷ []) (subst (IsLegal new.seats new.opened) a.0.entries call.in_order.legal)
        in
        let held =
        after_call old.seats id old.state moment event (length dues) legal.0.0 (made_none moment event reply dues stop id none)
        (record { sound = sound_tables old order; over = h })
        in
        ap (λ s. is_job_over s id) a.0.made ∙ held.over

    -- one exchange
    one_keeps : (old new : Desk K) (x : Exchange) → IsInOrder told faults old → IsExchange told faults old x new
        → list_any (λ job. same job id) (made_by x) ≡ false → Keeps old new
    one_keeps old new (Called moment event answer) order call none = call_keeps old new moment event answer order call none call.answers
    one_keeps old new (Looked read reply) order look none = same_tables old new (ap (λ d. d.state) look.same)

  in_order : (old new : Desk K) (x : Exchange) → IsInOrder told faults old → IsExchange told faults old x new → IsInOrder told faults new
  in_order old new (Called moment event answer) order call = call.in_order
  in_order old new (Looked read reply) order look = subst (IsInOrder told faults) (sym look.same) order

  -- exchanges
  pub all_in_order : (old new : Desk K) (exchanges : List Exchange) → IsInOrder told faults old → Leads (IsExchange told faults) old exchanges new
      → IsInOrder told faults new
  all_in_order old new [] order e = subst (IsInOrder told faults) (sym e) order
  all_in_order old new (x ∷ xs) order h = all_in_order h.0 new xs (in_order old h.0 x order h.1) h.2

  pub all_keep : (id : List ℕ) (old new : Desk K) (exchanges : List Exchange) → IsInOrder told faults old → Leads (IsExchange told faults) old exchanges new
      → makes_job exchanges id ≡ false → is_job_over old.state id ≡ true → is_job_over new.state id ≡ true
  all_keep id old new [] order e none h = ap (λ (d : Desk K). is_job_over d.state id) e ∙ h
  all_keep id old new (x ∷ xs) order led none h =
      all_keep id led.0 new xs (in_order old led.0 x order led.1) led.2 (none_second (λ job. same job id) (made_by x) (jobs_made xs) none)
      (one_keeps id old led.0 x order led.1 (none_first (λ job. same job id) (made_by x) (jobs_made xs) none) h)

  -- a read that shows the job free
  pub shown_over : (old new : Desk K) (id : List ℕ) (reply : Result Reply NoMemory) → IsLook told faults old new (reads.GetJob id) reply
      → is_free reply ≡ true → is_job_over new.state id ≡ true
  shown_over old new id (Err e) look free = cc
  shown_over old new id (Ok reply) look free =
      ap (λ (d : Desk K). is_job_over d.state id) look.same
      ∙ free_is_over old.state (job_of old.state id) (sym (ap shows_free look.shown) ∙ free)
