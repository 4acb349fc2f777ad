-- Which runs a step makes: at most one, with the next number, and else no run that did not pass a lasting test passes it afterwards.
use Rattle.std.proofs.Common.{sym, ◌≡◌, ℕ, ◌≤◌, ◌<◌, Bool, true, false, not, ◌&&◌, nat_eq, nat_lt, nat_le, List, [], ◌∷◌, ◌++◌, Some, None, cond, find, ◌⊎◌}
use Rattle.std.proofs.Common.{inl, inr, refl, ◌∙◌, subst, arith}
use Rattle.std.specs.List.{list_any}
use Rattle.std.proofs.lemmas.Bool.Decides.{nat_tests}
use Rattle.bt_rows.specs.Keys.{same_run}
use Rattle.bt_rows.specs.Lists.{AreDistinct}
use Rattle.bt_rows.specs.declared.event.EventKind.{EventKind}
use Rattle.batch_model.specs.Finding.{Each}
use Rattle.batch_model.specs.Laws.{is_release_of}
use Rattle.batch_model.specs.Rows.{is_run, run_of, add_run_row}
use Rattle.batch_model.specs.Runs.{is_start, is_preparation, is_release}
use Rattle.batch_model.specs.Variants.{State, RunRow, RunKind, StartRun, PrepRun, TaskRun, CoordinationRun, ReleaseRun}
use Rattle.model_lists.proofs.RowLists.{each_weaker, find_test, none_any, any_found}
use Rattle.model_lists.proofs.Tests.{and_true}
use Rattle.model_laws.specs.Retries.{StartsAgain, PreparesAgain}
use Rattle.model_laws.specs.Runs.{is_open, KeepsRuns}
use Rattle.model_laws.proofs.LastingRuns.{IsLasting, HasNoMore, no_change, both_steps, added, none_after, still_gone, still_closed, number_lasts, is_open_run}
use Rattle.model_laws.proofs.LastingRuns.{open_lasts, is_new_start, starts_last, is_new_preparation, preparations_last, releases_last}
use Rattle.model_laws.proofs.SameRuns.{same_run_later}
use Rattle.model_laws.proofs.StayingRuns.{IsStaying, Stays, added_stays}

-- no run is made, and runs change and go in such ways alone; a run that names no task and is not of a start task stays
pub record Lasts (s t : State) : Type 0 where
  pub runs : (test : RunRow → Bool) → IsLasting test → HasNoMore test s t
  pub stay : (test : RunRow → Bool) → IsStaying test → Stays test s t
  pub next : t.next_run ≡ s.next_run

-- the same runs
pub same_runs : (s t : State) → t.runs ≡ s.runs → t.next_run ≡ s.next_run → Lasts s t
same_runs s t e n = record { runs = λ test lasts. rw e (no_change test s); stay = λ test staying h. rw e h; next = n }

-- one step after another
pub lasts_on : (s t u : State) → Lasts s t → Lasts t u → Lasts s u
lasts_on s t u h k = record {
  runs = λ test lasts. both_steps test s t u (h.runs test lasts) (k.runs test lasts);
  stay = λ test staying before. k.stay test staying (h.stay test staying before);
  next = k.next ∙ h.next;
}

-- what an event at the tables s does with the runs of the tables w: it makes none, or a start or preparation run again after a failure
pub data EventRuns (s : State) (event : EventKind) (w : State) : State → Type 0 where
  makes_none : (t : State) → Lasts w t → EventRuns s event w t
  makes_start : (t : State) (run : RunRow) → Lasts w t → run.number ≡ w.next_run → is_start run.kind ≡ true → StartsAgain s event run
      → EventRuns s event w (add_run_row run t)
  makes_preparation : (t : State) (run : RunRow) → Lasts w t → run.number ≡ w.next_run → is_preparation run.kind ≡ true → PreparesAgain s event run
      → EventRuns s event w (add_run_row run t)

-- after runs have changed
pub runs_on : (s w : State) (event : EventKind) (t : State) → Lasts s w → EventRuns s event w t → EventRuns s event s t
runs_on s w event t h (makes_none u k) = makes_none u (lasts_on s w u h k)
runs_on s w event t h (makes_start u run k n start again) = makes_start u run (lasts_on s w u h k) (n ∙ h.next) start again
runs_on s w event t h (makes_preparation u run k n prep again) = makes_preparation u run (lasts_on s w u h k) (n ∙ h.next) prep again

-- kinds exclude each other

start_alone : (kind : RunKind) → is_start kind ≡ true → (is_preparation kind ≡ false) × (is_release kind ≡ false)
start_alone StartRun h = (refl, refl)
start_alone PrepRun h = cc
start_alone TaskRun h = cc
start_alone CoordinationRun h = cc
start_alone ReleaseRun h = cc

preparation_alone : (kind : RunKind) → is_preparation kind ≡ true → (is_start kind ≡ false) × (is_release kind ≡ false)
preparation_alone StartRun h = cc
preparation_alone PrepRun h = (refl, refl)
preparation_alone TaskRun h = cc
preparation_alone CoordinationRun h = cc
preparation_alone ReleaseRun h = cc

-- numbers

-- a number below the next one is not that of the run made
other_number : (number made next : ℕ) → number < next → made ≡ next → nat_eq made number ≡ false
other_number number made next h e = rw e (grind (arith, nat_tests))

-- numbers below the next one are not from it on
not_from : (number next : ℕ) → nat_lt number next ≡ true → nat_le next number ≡ false
not_from number next h = grind (arith, nat_tests)

module _ (s w : State) (event : EventKind) where
  -- a test that the run made does not pass
  made_none : (test : RunRow → Bool) (t : State) (run : RunRow) → IsLasting test → Lasts w t → test run ≡ false → HasNoMore test w (add_run_row run t)
  made_none test t run lasts h other = both_steps test w t (add_run_row run t) (h.runs test lasts) (added test run t other)

  -- numbers that were given before: no more runs have them
  pub has_no_more_with : (test : RunRow → Bool) (number : ℕ) (t : State) → IsLasting test
      → ((run : RunRow) → nat_eq run.number number ≡ false → test run ≡ false) → number < w.next_run → EventRuns s event w t → HasNoMore test w t
  has_no_more_with test number t lasts of_number h (makes_none u k) = k.runs test lasts
  has_no_more_with test number t lasts of_number h (makes_start u run k n start again) =
      made_none test u run lasts k (of_number run (other_number number run.number w.next_run h n))
  has_no_more_with test number t lasts of_number h (makes_preparation u run k n prep again) =
      made_none test u run lasts k (of_number run (other_number number run.number w.next_run h n))

  -- a run that had ended or was not there is not one that has not ended
  pub closed_on : (number : ℕ) (t : State) → number < w.next_run → EventRuns s event w t → is_open w number ≡ false → is_open t number ≡ false
  closed_on number t h does =
      still_closed number w t (has_no_more_with (is_open_run number) number t (open_lasts number) (λ run e. rw e refl) h does)

  gone_on : (number : ℕ) (t : State) → number < w.next_run → EventRuns s event w t → run_of w number ≡ None → run_of t number ≡ None
  gone_on number t h does = still_gone number w t (has_no_more_with (is_run number) number t (number_lasts number) (λ run e. e) h does)

  -- the next number does not fall
  counter_on : (t : State) → EventRuns s event w t → w.next_run ≤ t.next_run
  counter_on t (makes_none u k) = let e : u.next_run ≡ w.next_run = k.next in omega (arith, e)
  counter_on t (makes_start u run k n start again) = let e : u.next_run ≡ w.next_run = k.next in omega (arith, e)
  counter_on t (makes_preparation u run k n prep again) = let e : u.next_run ≡ w.next_run = k.next in omega (arith, e)

  -- numbers are made once, and runs end once
  pub keeps_runs : (t : State) → AreDistinct same_run w.runs → EventRuns s event w t → KeepsRuns w t
  keeps_runs t keys does = record {
    counter = counter_on t does;
    gone = λ number h. gone_on number t h does;
    same =
        λ number run h. same_run_later number w t keys
        (λ test lasts of_number. has_no_more_with test number t lasts of_number h does) run;
    closed = λ number h. closed_on number t h does;
  }

  -- a run that names no task and is not of a start task stays
  pub stays_on : (test : RunRow → Bool) → IsStaying test → (t : State) → EventRuns s event w t → Stays test w t
  stays_on test staying t (makes_none u k) = k.stay test staying
  stays_on test staying t (makes_start u run k n start again) = λ h. added_stays test run u (k.stay test staying h)
  stays_on test staying t (makes_preparation u run k n prep again) = λ h. added_stays test run u (k.stay test staying h)

  -- no more runs pass a test that only release runs pass
  pub no_more_on : (test : RunRow → Bool) → IsLasting test → ((run : RunRow) → is_release run.kind ≡ false → test run ≡ false) → (t : State)
      → EventRuns s event w t → HasNoMore test w t
  no_more_on test lasts releases t (makes_none u k) = k.runs test lasts
  no_more_on test lasts releases t (makes_start u run k n start again) = made_none test u run lasts k (releases run (start_alone run.kind start).1)
  no_more_on test lasts releases t (makes_preparation u run k n prep again) =
      made_none test u run lasts k (releases run (preparation_alone run.kind prep).1)

  -- no more release runs of a job on a node
  pub releases_on : (job : List ℕ) (node : ℕ) (t : State) → EventRuns s event w t → HasNoMore (is_release_of job node) w t
  releases_on job node = no_more_on (is_release_of job node) (releases_last job node) (λ run e. rw e refl)

-- made runs of a kind

-- a row that a search finds once another was added is the one that it found before, or the added one
pub found_added : {R : Type 0} (test : R → Bool) (rows : List R) (row : R)
    → (find test (rows ++ row ∷ []) ≡ find test rows) ⊎ ((find test (rows ++ row ∷ []) ≡ Some row) × (test row ≡ true))
found_added {R} test [] row = by_it (test row) refl
  where
    by_it : (b : Bool) → test row ≡ b → (cond b (Some row) None ≡ find test []) ⊎ ((cond b (Some row) None ≡ Some row) × (test row ≡ true))
    by_it true e = inr (refl, e)
    by_it false e = inl refl
found_added {R} test (first ∷ rest) row = by_first (test first) (found_added test rest row)
  where
    by_first : (b : Bool) → (find test (rest ++ row ∷ []) ≡ find test rest) ⊎ ((find test (rest ++ row ∷ []) ≡ Some row) × (test row ≡ true))
        → (cond b (Some first) (find test (rest ++ row ∷ [])) ≡ cond b (Some first) (find test rest))
        ⊎ ((cond b (Some first) (find test (rest ++ row ∷ [])) ≡ Some row) × (test row ≡ true))
    by_first true later = inl refl
    by_first false later = later

-- a run that is found once another was added was there, or is that one
found_or_made : (test : RunRow → Bool) (runs : List RunRow) (run made : RunRow) → find test (runs ++ run ∷ []) ≡ Some made
    → (find test runs ≡ Some made) ⊎ (run ≡ made)
found_or_made test runs run made e = elim (found_added test runs run) [
  | inl old ↦ inl (sym old ∙ e)
  | inr new ↦ let it : find test (runs ++ run ∷ []) ≡ Some run = new.0 in inr cc
]

-- a found run has the number
numbered : (number : ℕ) (runs : List RunRow) (run : RunRow) → find (is_run number) runs ≡ Some run → nat_eq run.number number ≡ true
numbered number runs run e = find_test (is_run number) run runs e

-- so it is from the next one on
from_next : (next number other : ℕ) → nat_eq other number ≡ true → next ≤ number → nat_le next other ≡ true
from_next next number other e h = grind (arith, nat_tests)

module _ (s w : State) (event : EventKind) (numbers : Each (λ run. nat_lt run.number w.next_run) w.runs) where
  -- no run of the tables is new
  none_new : (kind : RunRow → Bool) → list_any (λ run. kind run && nat_le w.next_run run.number) w.runs ≡ false
  none_new kind =
      none_any (λ run. kind run && nat_le w.next_run run.number) w.runs
      (each_weaker (λ run. nat_lt run.number w.next_run) (λ run. not (kind run && nat_le w.next_run run.number))
      (λ run h. old (kind run) (nat_le w.next_run run.number) (not_from run.number w.next_run h)) w.runs numbers)
    where
      old : (a b : Bool) → b ≡ false → not (a && b) ≡ true
      old true b e = rw e refl
      old false b e = refl

  -- so none is after a step that makes no such run
  not_found : {P : Type 0} (kind : RunRow → Bool) (t : State) (number : ℕ) (made : RunRow)
      → HasNoMore (λ run. kind run && nat_le w.next_run run.number) w t → find (is_run number) t.runs ≡ Some made → w.next_run ≤ number → kind made ≡ true → P
  not_found kind t number made h found from of =
      let none : list_any (λ run. kind run && nat_le w.next_run run.number) t.runs ≡ false =
      none_after (λ run. kind run && nat_le w.next_run run.number) w t h (none_new kind)
      in
      let some : list_any (λ run. kind run && nat_le w.next_run run.number) t.runs ≡ true =
      any_found (λ run. kind run && nat_le w.next_run run.number) (is_run number) made t.runs found
      (and_true of (from_next w.next_run number made.number (numbered number t.runs made found) from))
      in
      cc

  -- a new start run is made again after a failure
  pub starts_on : (t : State) → EventRuns s event w t → (number : ℕ) (made : RunRow) → run_of t number ≡ Some made → w.next_run ≤ number
      → is_start made.kind ≡ true → StartsAgain s event made
  starts_on t (makes_none u k) number made found from start =
      not_found (λ run. is_start run.kind) u number made (k.runs (is_new_start w.next_run) (starts_last w.next_run)) found from start
  starts_on t (makes_start u run k n of again) number made found from start = elim (found_or_made (is_run number) u.runs run made found) [
    | inl old ↦
        not_found (λ other. is_start other.kind) u number made (k.runs (is_new_start w.next_run) (starts_last w.next_run)) old from start
    | inr it ↦ subst (StartsAgain s event) it again
  ]
  starts_on t (makes_preparation u run k n of again) number made found from start = elim (found_or_made (is_run number) u.runs run made found) [
    | inl old ↦
        not_found (λ other. is_start other.kind) u number made (k.runs (is_new_start w.next_run) (starts_last w.next_run)) old from start
    | inr it ↦
        let other : is_start made.kind ≡ false = subst (λ (one : RunRow). is_start one.kind ≡ false) it ((preparation_alone run.kind of).0) in
        cc
  ]

  -- a new preparation run is made again after a failure
  pub preparations_on : (t : State) → EventRuns s event w t → (number : ℕ) (made : RunRow) → run_of t number ≡ Some made → w.next_run ≤ number
      → is_preparation made.kind ≡ true → PreparesAgain s event made
  preparations_on t (makes_none u k) number made found from prep =
      not_found (λ run. is_preparation run.kind) u number made (k.runs (is_new_preparation w.next_run) (preparations_last w.next_run)) found from prep
  preparations_on t (makes_start u run k n of again) number made found from prep = elim (found_or_made (is_run number) u.runs run made found) [
    | inl old ↦
        not_found (λ other. is_preparation other.kind) u number made (k.runs (is_new_preparation w.next_run) (preparations_last w.next_run)) old from prep
    | inr it ↦
        let other : is_preparation made.kind ≡ false = subst (λ (one : RunRow). is_preparation one.kind ≡ false) it ((start_alone run.kind of).0) in
        cc
  ]
  preparations_on t (makes_preparation u run k n of again) number made found from prep = elim (found_or_made (is_run number) u.runs run made found) [
    | inl old ↦
        not_found (λ other. is_preparation other.kind) u number made (k.runs (is_new_preparation w.next_run) (preparations_last w.next_run)) old from prep
    | inr it ↦ subst (PreparesAgain s event) it again
  ]
