-- The jobs of a schedule over its turns and the exchanges between them.
use Rattle.std.proofs.Common.{◌≡◌, ◌≤◌, ◌<◌, ℕ, ◌+◌, Bool, true, false, ◌||◌, nat_lt, List, [], ◌∷◌, ◌++◌, ◌⊎◌, inl, inr, Option, refl, sym, subst}
use Rattle.std.proofs.Common.{ap, ◌∙◌, arith}
use Rattle.std.specs.List.{list_any}
use Rattle.std.proofs.lemmas.Bool.Decides.{nat_tests}
use Rattle.std.proofs.lemmas.Grind.{flat_map-append}
use Rattle.bt_base.specs.Ids.{same}
use Rattle.batch_model.specs.Variants.{State}
use Rattle.batch_desk.specs.Answers.{IsInOrder}
use Rattle.batch_desk.specs.Kept.{Desk}
use Rattle.batch_desk.specs.Desks.{IsExchange}
use Rattle.batch_desk.specs.Exchanges.{Exchange, Looked, Leads}
use Rattle.schedule_rows.specs.Jobs.{job_id, job_read}
use Rattle.schedule_rows.specs.Rows.{Schedule}
use Rattle.schedule_laws.specs.Laws.{made_by, jobs_made, MakesNone, WasFree, MakesOne}
use Rattle.schedule_laws.proofs.Histories.{turn_makes}
use Rattle.job_laws.specs.OverJobs.{is_job_over}
use Rattle.schedule_jobs.specs.Histories.{makes_job, EarlierAreOver, Step, Others, OwnTurn, LeadTo}
use Rattle.schedule_jobs.proofs.DeskSteps.{none_second, all_in_order, all_keep, shown_over}
use Rattle.schedule_jobs.proofs.JobIds.{later_other}

-- the state of an asker at a place among exchanges
pub record Between {A : Type 0} (exchanged : A → Exchange → A → Type 0) (old new : A) (before : List Exchange) (x : Exchange)
    (after : List Exchange) : Type 0 where
  pub here : A
  pub next : A
  pub led : Leads exchanged old before here
  pub made : exchanged here x next
  pub rest : Leads exchanged next after new

between : {A : Type 0} (exchanged : A → Exchange → A → Type 0) (old new : A) (before : List Exchange) (x : Exchange) (after : List Exchange)
    → Leads exchanged old (before ++ x ∷ after) new → Between exchanged old new before x after
between exchanged old new [] x after h = record { here = old; next = h.0; led = refl; made = h.1; rest = h.2 }
between exchanged old new (y ∷ ys) x after h =
    let more = between exchanged h.0 new ys x after h.2 in
    record { here = more.here; next = more.next; led = (h.0, h.1, more.led); made = more.made; rest = more.rest }

is_below : (n number : ℕ) → nat_lt n number ≡ true → n < number
is_below n number e = grind (arith, nat_tests)

is_equal : (n number : ℕ) → nat_lt n number ≡ false → n < number + 1 → n ≡ number
is_equal n number e h = grind (arith, nat_tests)

below_next : (n number : ℕ) → n < number + 1 → (n < number) ⊎ (n ≡ number)
below_next n number h = by_test (nat_lt n number) refl
  where
    by_test : (t : Bool) → nat_lt n number ≡ t → (n < number) ⊎ (n ≡ number)
    by_test true e = inl (is_below n number e)
    by_test false e = inr (is_equal n number e h)

alone : (b : Bool) → b ≡ false → (b || false) ≡ false
alone true e = cc
alone false e = refl

module _ {K : Type 0} (told : K → Option State) (faults : K → ℕ) where
  module _ (old new : Desk K) (order : IsInOrder told faults old) (s last : Schedule) (xs : List Exchange)
      (led : Leads (IsExchange told faults) old xs new) where
    -- the turn made no job
    none_kept : MakesNone s last xs → EarlierAreOver s old.state → EarlierAreOver last new.state
    none_kept none over n some few =
        let fewer : n < s.number = subst (λ w. n < w) none.number few in
        let made : makes_job xs (job_id s.id n) ≡ false = ap (list_any (λ job. same job (job_id s.id n))) none.jobs in
        subst (λ i. is_job_over new.state (job_id i n) ≡ true) (sym none.id)
        (all_keep told faults (job_id s.id n) old new xs order led made (over n some fewer))

    -- the turn made one job, with the next number
    module _ (now : ℕ) (one : MakesOne now s last xs) where
      other : (n : ℕ) → n ≤ s.number → same (job_id s.id (s.number + 1)) (job_id s.id n) ≡ false
      other n few =
          let numbered : s.number < 999999999 = one.numbered in
          later_other s.id n (s.number + 1) (omega (arith, few)) (omega (arith, numbered))

      made_other : (n : ℕ) → n ≤ s.number → makes_job xs (job_id s.id n) ≡ false
      made_other n few =
          ap (list_any (λ job. same job (job_id s.id n))) one.jobs ∙ alone (same (job_id s.id (s.number + 1)) (job_id s.id n)) (other n few)

      -- the job before it was shown over
      before_it : WasFree (job_read s) xs → is_job_over new.state (job_id s.id s.number) ≡ true
      before_it free =
          let id = job_id s.id s.number in
          let split : Leads (IsExchange told faults) old (free.before ++ Looked (job_read s) free.reply ∷ free.after) new =
          subst (λ w. Leads (IsExchange told faults) old w new) free.split led
          in
          let at = between (IsExchange told faults) old new free.before (Looked (job_read s) free.reply) free.after split in
          let here : IsInOrder told faults at.here = all_in_order told faults old at.here free.before order at.led in
          let next : IsInOrder told faults at.next = subst (IsInOrder told faults) (sym at.made.same) here in
          let shown : is_job_over at.next.state id ≡ true = shown_over told faults at.here at.next id free.reply at.made free.free in
          let whole : jobs_made xs ≡ jobs_made free.before ++ jobs_made free.after =
          ap jobs_made free.split ∙ flat_map-append made_by free.before (Looked (job_read s) free.reply ∷ free.after)
          in
          let made : makes_job free.after id ≡ false =
          none_second (λ job. same job id) (jobs_made free.before) (jobs_made free.after)
          (sym (ap (list_any (λ job. same job id)) whole) ∙ made_other s.number (omega arith))
          in
          all_keep told faults id at.next new free.after next at.rest made shown

      last_over : (s.number ≡ 0) ⊎ WasFree (job_read s) xs → 1 ≤ s.number → is_job_over new.state (job_id s.id s.number) ≡ true
      last_over (inl zero) some = absurd (omega (arith, zero, some))
      last_over (inr free) some = before_it free

      by_number : EarlierAreOver s old.state → (n : ℕ) → 1 ≤ n → (n < s.number) ⊎ (n ≡ s.number) → is_job_over new.state (job_id s.id n) ≡ true
      by_number over n some (inl fewer) =
          all_keep told faults (job_id s.id n) old new xs order led (made_other n (omega (arith, fewer))) (over n some fewer)
      by_number over n some (inr e) =
          subst (λ w. is_job_over new.state (job_id s.id w) ≡ true) (sym e) (last_over one.first_or_free (subst (λ w. 1 ≤ w) e some))

      one_kept : EarlierAreOver s old.state → EarlierAreOver last new.state
      one_kept over n some few =
          subst (λ i. is_job_over new.state (job_id i n) ≡ true) (sym one.id)
          (by_number over n some (below_next n s.number (subst (λ w. n < w) one.number few)))

    turn_kept : (now : ℕ) → MakesNone s last xs ⊎ MakesOne now s last xs → EarlierAreOver s old.state → EarlierAreOver last new.state
    turn_kept now (inl none) = none_kept none
    turn_kept now (inr one) = one_kept now one

  renamed : (s row : Schedule) (t : State) → row.id ≡ s.id → row.number ≡ s.number → EarlierAreOver s t → EarlierAreOver row t
  renamed s row t e f over n some few =
      subst (λ i. is_job_over t (job_id i n) ≡ true) (sym e) (over n some (subst (λ w. n < w) f few))

  pub steps_keep : (steps : List Step) (old new : Desk K) (s last : Schedule) → IsInOrder told faults old
      → LeadTo (IsExchange told faults) s old steps last new → EarlierAreOver s old.state → EarlierAreOver last new.state
  steps_keep [] old new s last order h over =
      subst (λ (d : Desk K). EarlierAreOver last d.state) (sym h.1) (subst (λ (r : Schedule). EarlierAreOver r old.state) (sym h.0) over)
  steps_keep (Others xs ∷ steps) old new s last order h over =
      let none = h.0 in
      let middle = h.1 in
      let led = h.2 in
      steps_keep steps middle new s last (all_in_order told faults old middle xs order led) h.3
      (λ n some few. all_keep told faults (job_id s.id n) old middle xs order led (none n) (over n some few))
  steps_keep (OwnTurn t ∷ steps) old new s last order h over =
      let same = h.0 in
      let middle = h.2 in
      let led = h.3 in
      steps_keep steps middle new t.after last (all_in_order told faults old middle t.exchanges order led) h.4
      (turn_kept old middle order t.before t.after t.exchanges led t.moment (turn_makes t h.1)
      (renamed s t.before old.state same.id same.number over))

  pub one_at_a_time : (old new : Desk K) (s last : Schedule) (steps : List Step) → IsInOrder told faults old → s.number ≡ 0
      → LeadTo (IsExchange told faults) s old steps last new → EarlierAreOver last new.state
  one_at_a_time old new s last steps order zero h =
      steps_keep steps old new s last order h (λ n some few. absurd (omega (arith, zero, some, few)))
