-- The turn of a schedule alone.
use Rattle.std.proofs.Common.{◌≡◌, ◌<◌, ℕ, ◌+◌, Bool, true, false, ◌&&◌, nat_eq, nat_lt, List, [], ◌∷◌, ◌++◌, ◌⊎◌, inl, inr, Option, Some, None, Result, refl}
use Rattle.std.proofs.Common.{sym, subst, ap, ◌∙◌, append_assoc, append-nil, arith, if◌then◌else◌}
use Rattle.std.proofs.lemmas.Bool.Decides.{nat_tests}
use Rattle.std.proofs.lemmas.Grind.{flat_map-append}
use Rattle.bt_base.specs.declared.memory.NoMemory.{NoMemory}
use Rattle.bt_rows.specs.declared.reply.Reply.{Reply}
use Rattle.table_reads.specs.declared.request.Read.{Read}
use Rattle.batch_desk.specs.Exchanges.{Exchange, Called, Looked}
use Rattle.schedule_rows.specs.Interactions.{Interaction, Ends, Passes, Looks, Reaches}
use Rattle.schedule_rows.specs.Jobs.{job_id, job_read}
use Rattle.schedule_rows.specs.Occurrences.{due_at, is_new, is_in_window, is_before_end, due_to_fire, firing_at, is_active, is_idle, has_numbers}
use Rattle.schedule_rows.specs.Occurrences.{is_over, completed_at}
use Rattle.schedule_rows.specs.Rows.{Schedule}
use Rattle.schedule_rows.specs.Turns.{is_free, fired_for, after_look, adds_job, fires_for, fires, retries_stage, retries_and_fires, ends_turn, turns}
use Rattle.schedule_rows.specs.declared.limits.TheConstants.{LAST_JOB_NUMBER}
use Rattle.schedule_rows.specs.declared.stage.Stage.{Stage}
use Rattle.schedule_rows.specs.declared.stage.Stage.TheVariants.{Idle, Tasks, Patch}
use Rattle.schedule_rows.specs.declared.stage.ScheduleState.TheVariants.{Completed}
use Rattle.schedule_laws.specs.Laws.{made_by, jobs_made, MakesNone, WasFree, MakesOne}
use Rattle.schedule_laws.proofs.Parts.{IsSame, Left, same, nothing, before, patches_left, tasks_left, JobLeft, job_left}

abbrev FirstOrFree : Schedule → List Exchange → Type 0
FirstOrFree s xs = (s.number ≡ 0) ⊎ WasFree (job_read s) xs

-- a job was made for occurrence k: the first one, or after the previous one was shown completed or not there
record FiredFor (k : ℕ) (s : Schedule) (next : Schedule → Interaction) (xs : List Exchange) (end : List Schedule) : Type 0 where
  pub left : Left (IsSame (fired_for k s)) next xs end (job_id s.id (s.number + 1) ∷ [])
  pub free : FirstOrFree s xs

zero_of : (n : ℕ) → true ≡ nat_eq n 0 → n ≡ 0
zero_of n e = grind (arith, nat_tests)

first_job : (k : ℕ) (s : Schedule) (next : Schedule → Interaction) (xs : List Exchange) (end : List Schedule) → s.number ≡ 0 → JobLeft k s next xs end
    → FiredFor k s next xs end ⊎ Left (IsSame s) next xs end []
first_job k s next xs end zero (inl left) = inl (record { left = left; free = inl zero })
first_job k s next xs end zero (inr left) = inr left

next_job : (k : ℕ) (s : Schedule) (next : Schedule → Interaction) (read : Read) (reply : Result Reply NoMemory) (xs : List Exchange) (end : List Schedule)
    → read ≡ job_read s → is_free reply ≡ true → JobLeft k s next xs end
    → FiredFor k s next (Looked read reply ∷ xs) end ⊎ Left (IsSame s) next (Looked read reply ∷ xs) end []
next_job k s next read reply xs end e free (inl left) = inl (record {
  left = before (IsSame (fired_for k s)) next (Looked read reply) xs end [] (job_id s.id (s.number + 1) ∷ []) refl left;
  free = inr (record { before = []; reply = reply; after = xs; split = ap (λ r. Looked r reply ∷ xs) e; none = refl; free = free });
})
next_job k s next read reply xs end e free (inr left) = inr (before (IsSame s) next (Looked read reply) xs end [] [] refl left)

look_by : (b : Bool) (now k : ℕ) (s : Schedule) (put : Schedule → List Schedule) (next : Schedule → Interaction) (read : Read) (reply : Result Reply NoMemory)
    (xs : List Exchange) (end : List Schedule) → b ≡ is_free reply → read ≡ job_read s
    → Reaches (if b then adds_job now k s put next else next s) xs (Ends end)
    → FiredFor k s next (Looked read reply ∷ xs) end ⊎ Left (IsSame s) next (Looked read reply ∷ xs) end []
look_by true now k s put next read reply xs end b e h = next_job k s next read reply xs end e (sym b) (job_left now k s put next xs end h)
look_by false now k s put next read reply xs end b e h =
    inr (before (IsSame s) next (Looked read reply) xs end [] [] refl (nothing (IsSame s) next s xs end (same s) h))

if_free_by : (b : Bool) (now k : ℕ) (s : Schedule) (put : Schedule → List Schedule) (next : Schedule → Interaction) (xs : List Exchange) (end : List Schedule)
    → b ≡ nat_eq s.number 0
    → Reaches (if b then adds_job now k s put next else Looks (put s) (job_read s) (λ shown. after_look now k s shown put next)) xs (Ends end)
    → FiredFor k s next xs end ⊎ Left (IsSame s) next xs end []
if_free_by true now k s put next xs end b h = first_job k s next xs end (zero_of s.number b) (job_left now k s put next xs end h)
if_free_by false now k s put next [] end b h = cc
if_free_by false now k s put next (Called at asked answer ∷ xs) end b h = absurd h
if_free_by false now k s put next (Looked read reply ∷ xs) end b h = look_by (is_free reply) now k s put next read reply xs end refl h.0 h.1

-- a job was made for the occurrence that a schedule is to fire for, or none was
record Fired (now : ℕ) (s : Schedule) (next : Schedule → Interaction) (xs : List Exchange) (end : List Schedule) : Type 0 where
  pub k : ℕ
  pub due : firing_at now s ≡ Some k
  pub fired : FiredFor k s next xs end

fired_with : (now k : ℕ) (s : Schedule) (next : Schedule → Interaction) (xs : List Exchange) (end : List Schedule) → firing_at now s ≡ Some k
    → FiredFor k s next xs end ⊎ Left (IsSame s) next xs end [] → Fired now s next xs end ⊎ Left (IsSame s) next xs end []
fired_with now k s next xs end e (inl fired) = inl (record { k = k; due = e; fired = fired })
fired_with now k s next xs end e (inr left) = inr left

fires_by : (due : Option ℕ) (now : ℕ) (s : Schedule) (put : Schedule → List Schedule) (next : Schedule → Interaction) (xs : List Exchange) (end : List Schedule)
    → firing_at now s ≡ due → Reaches (fires_for now s due put next) xs (Ends end) → Fired now s next xs end ⊎ Left (IsSame s) next xs end []
fires_by None now s put next xs end e h = inr (nothing (IsSame s) next s xs end (same s) h)
fires_by (Some k) now s put next xs end e h = fired_with now k s next xs end e (if_free_by (nat_eq s.number 0) now k s put next xs end refl h)

again_by : (t : Stage) (now : ℕ) (s : Schedule) (put : Schedule → List Schedule) (next : Schedule → Interaction) (xs : List Exchange) (end : List Schedule)
    → Reaches (retries_stage now t s put next) xs (Ends end) → Left (IsSame s) next xs end []
again_by Idle now s put next xs end h = nothing (IsSame s) next s xs end (same s) h
again_by Tasks now s put next xs end h = tasks_left now s put next xs end h
again_by Patch now s put next xs end h = patches_left now s put next xs end h

past : (rows : List Schedule) (rest : Interaction) (xs : List Exchange) (end : List Schedule) → Reaches (Passes rows rest) xs (Ends end)
    → Reaches rest xs (Ends end)
past rows rest [] end (inl e) = cc
past rows rest [] end (inr h) = h
past rows rest (x ∷ xs) end h = h

-- the occurrence for which a schedule is to fire

fire_test : (a b c : Bool) (j k : ℕ) → (if a && b && c then Some j else None) ≡ Some k → (Some j ≡ Some k) × (a ≡ true)
fire_test true true true j k e = (e, refl)
fire_test true true false j k e = cc
fire_test true false c j k e = cc
fire_test false b c j k e = cc

some_is : (j k : ℕ) → Some j ≡ Some k → j ≡ k
some_is j k e = cc

firing_by : (b : Bool) (due : Option ℕ) (now k : ℕ) (s : Schedule) → (if b then due_to_fire s now due else None) ≡ Some k
    → (due ≡ Some k) × (is_new s.last k ≡ true)
firing_by true None now k s e = cc
firing_by true (Some j) now k s e =
    let t = fire_test (is_new s.last j) (is_in_window s now j) (is_before_end s.until now) j k e in
    (t.0, subst (λ n. is_new s.last n ≡ true) (some_is j k t.0) t.1)
firing_by false due now k s e = cc

firing_is : (now k : ℕ) (s : Schedule) → firing_at now s ≡ Some k → (due_at s.first s.interval now ≡ Some k) × (is_new s.last k ≡ true)
firing_is now k s e = firing_by (is_active s.state && is_idle s.stage && has_numbers s) (due_at s.first s.interval now) now k s e

-- it has a job number left

number_left : (a b c : Bool) (o : Option ℕ) (k : ℕ) → (if a && b && c then o else None) ≡ Some k → c ≡ true
number_left true true true o k e = refl
number_left true true false o k e = cc
number_left true false c o k e = cc
number_left false b c o k e = cc

below_last : (n : ℕ) → nat_lt n LAST_JOB_NUMBER ≡ true → n < LAST_JOB_NUMBER
below_last n e = grind (arith, nat_tests)

firing_numbered : (now k : ℕ) (s : Schedule) → firing_at now s ≡ Some k → s.number < LAST_JOB_NUMBER
firing_numbered now k s e =
    below_last s.number
    (number_left (is_active s.state) (is_idle s.stage) (has_numbers s) (due_to_fire s now (due_at s.first s.interval now)) k e)

completed_by : (b : Bool) (s : Schedule) → IsSame s (if b then record s { state = Completed } else s)
completed_by true s = same s
completed_by false s = same s

completed_same : (now : ℕ) (s : Schedule) → IsSame s (completed_at now s)
completed_same now s = completed_by (is_idle s.stage && is_over now s) s

is_first : (a b : Schedule) → Ends (a ∷ []) ≡ Ends (b ∷ []) → a ≡ b
is_first a b e = cc

ends_here : (c last : Schedule) (xs : List Exchange) → Reaches (Ends (c ∷ [])) xs (Ends (last ∷ [])) → (xs ≡ []) × (last ≡ c)
ends_here c last [] h = (refl, is_first last c h)
ends_here c last (x ∷ xs) h = absurd h

-- the jobs of exchanges in three parts
jobs_in : (xs a r b q : List Exchange) → xs ≡ a ++ r → r ≡ b ++ q → q ≡ [] → jobs_made a ≡ [] → jobs_made xs ≡ jobs_made b
jobs_in xs a r b q e f g none =
    ap jobs_made (e ∙ ap (λ w. a ++ w) (f ∙ ap (λ w. b ++ w) g ∙ append-nil b)) ∙ flat_map-append made_by a b ∙ ap (λ w. w ++ jobs_made b) none

module _ (now : ℕ) (s last : Schedule) (xs : List Exchange) where
  abbrev alone : Schedule → Interaction
  alone row = turns now ([] ++ row ∷ []) []

  abbrev in_row : Schedule → List Schedule
  in_row row = [] ++ row ∷ []

  abbrev ending : Schedule → Interaction
  ending row = ends_turn now row in_row alone

  abbrev firing : Schedule → Interaction
  firing row = fires now row in_row ending

  none_made : (first : Left (IsSame s) firing xs (last ∷ []) []) → Left (IsSame first.row) ending first.rest (last ∷ []) [] → MakesNone s last xs
  none_made first second =
      let over = ends_here (completed_at now second.row) last second.rest (past (in_row second.row) (alone (completed_at now second.row)) second.rest
      (last ∷ []) second.reached) in
      let done = completed_same now second.row in
      record {
        jobs = jobs_in xs first.used first.rest second.used second.rest first.split second.split over.0 first.made ∙ second.made;
        id = ap (λ r. r.id) over.1 ∙ done.0 ∙ second.keeps.0 ∙ first.keeps.0;
        number = ap (λ r. r.number) over.1 ∙ done.1 ∙ second.keeps.1 ∙ first.keeps.1;
        occurrence = ap (λ r. r.last) over.1 ∙ done.2 ∙ second.keeps.2 ∙ first.keeps.2;
      }

  first_or_free : (first : Left (IsSame s) firing xs (last ∷ []) []) → FirstOrFree first.row first.rest → FirstOrFree s xs
  first_or_free first (inl zero) = inl (sym first.keeps.1 ∙ zero)
  first_or_free first (inr free) = inr (record {
    before = first.used ++ free.before;
    reply = free.reply;
    after = free.after;
    split = first.split ∙ ap (λ w. first.used ++ w) free.split ∙ sym (append_assoc first.used free.before (Looked (job_read first.row) free.reply ∷ free.after))
        ∙ ap (λ r. (first.used ++ free.before) ++ Looked r free.reply ∷ free.after) (same_read first.row first.keeps.0 first.keeps.1);
    none = flat_map-append made_by first.used free.before ∙ ap (λ w. w ++ jobs_made free.before) first.made ∙ free.none;
    free = free.free;
  })
    where
      same_read : (row : Schedule) → row.id ≡ s.id → row.number ≡ s.number → job_read row ≡ job_read s
      same_read row e f = cc

  one_made : (first : Left (IsSame s) firing xs (last ∷ []) []) → Fired now first.row ending first.rest (last ∷ []) → MakesOne now s last xs
  one_made first second =
      let left = second.fired.left in
      let over = ends_here (completed_at now left.row) last left.rest (past (in_row left.row) (alone (completed_at now left.row)) left.rest
      (last ∷ []) left.reached) in
      let done = completed_same now left.row in
      let due = firing_is now second.k first.row second.due in
      let same_id = first.keeps.0 in
      let same_number = first.keeps.1 in
      record {
        occurrence = second.k;
        due = subst (λ f. due_at f s.interval now ≡ Some second.k) first.keeps.3 (subst (λ i. due_at first.row.first i now ≡ Some second.k) first.keeps.4
            due.0);
        later = subst (λ l. is_new l second.k ≡ true) first.keeps.2 due.1;
        jobs = jobs_in xs first.used first.rest left.used left.rest first.split left.split over.0 first.made ∙ left.made
            ∙ (ap (λ i. job_id i (first.row.number + 1) ∷ []) same_id ∙ ap (λ n. job_id s.id (n + 1) ∷ []) same_number);
        numbered = subst (λ n. n < LAST_JOB_NUMBER) same_number (firing_numbered now second.k first.row second.due);
        id = ap (λ r. r.id) over.1 ∙ done.0 ∙ left.keeps.0 ∙ same_id;
        number = ap (λ r. r.number) over.1 ∙ done.1 ∙ left.keeps.1 ∙ ap (λ n. n + 1) same_number;
        is_last = ap (λ r. r.last) over.1 ∙ done.2 ∙ left.keeps.2;
        first_or_free = first_or_free first second.fired.free;
      }

  either : (first : Left (IsSame s) firing xs (last ∷ []) []) → Fired now first.row ending first.rest (last ∷ []) ⊎ Left
      (IsSame first.row) ending first.rest (last ∷ []) []
      → MakesNone s last xs ⊎ MakesOne now s last xs
  either first (inl fired) = inr (one_made first fired)
  either first (inr left) = inl (none_made first left)

  pub one_at_most : Reaches (turns now [] (s ∷ [])) xs (Ends (last ∷ [])) → MakesNone s last xs ⊎ MakesOne now s last xs
  one_at_most h =
      let first = again_by s.stage now s in_row firing xs (last ∷ []) (past (in_row s) (retries_and_fires now s in_row ending) xs (last ∷ []) h) in
      either first (fires_by (firing_at now first.row) now first.row in_row ending first.rest (last ∷ []) refl first.reached)
