-- What the stops of a timer make of the runs that are asked to stop.
use Rattle.std.proofs.Common.{◌≡◌, ℕ, ◌+◌, ◌<◌, ◌≤◌, ◌-◌, ◌^◌, true, false, ◌⊎◌, inl, inr, List, ◌∷◌, refl, sym, ◌∙◌, arith, eq-eqb}
use Rattle.std.specs.Prelude.{nat_eq}
use Rattle.bt_base.specs.Causes.{Rose}
use Rattle.bt_rows.specs.Lists.{AreDistinct}
use Rattle.child_runs.specs.Stops.{Stop}
use Rattle.model_lists.proofs.DistinctLists.{distinct_append}
use Rattle.model_lists.proofs.RowLists.{any_append, any_append_old, any_append_new}
use Rattle.model_lists.proofs.Tests.{or_cases, or_first, or_second, passes_or_not}
use Rattle.batch_crew.specs.Timers.{is_in, left_out, StopsRun, known, stops, fails, StopRuns, none, more}

-- a number that is among the others is not left out
left_known : (n : ℕ) (ns others : List ℕ) → is_in others n ≡ true → left_out (n ∷ ns) others ≡ left_out ns others
left_known n ns others h = rw h refl

-- one number more leaves out at most one more
left_one : (n : ℕ) (ns others : List ℕ) → left_out (n ∷ ns) others ≤ left_out ns others + 1
left_one n ns others = by_case (passes_or_not (is_in others n))
  where
    by_case : ((is_in others n ≡ true) ⊎ (is_in others n ≡ false)) → left_out (n ∷ ns) others ≤ left_out ns others + 1
    by_case (inl h) = let same = left_known n ns others h in omega arith
    by_case (inr h) = let one : left_out (n ∷ ns) others ≡ left_out ns others + 1 = rw h (omega arith) in omega arith

-- a count that rose is greater, if it is not at the end of its type
rose_less : (before now : ℕ) → Rose before now → now < 2 ^ 64 - 1 → before + 1 ≤ now
rose_less before now rose lt = omega (rose, lt, arith)

module _ {P : Type 0} (stopped : P → Stop → P → Type 0) (faults : P → ℕ) where
  -- the count of faults does not fall
  later_one : (number : ℕ) {done now : List ℕ} {s t : P} → StopsRun stopped faults number done s now t → faults s ≤ faults t
  later_one number (known d u is) = omega arith
  later_one number (stops d u v is asked le) = le
  later_one number (fails d u v is asked le rose) = le

  pub later_all : {numbers done now : List ℕ} {s t : P} → StopRuns stopped faults numbers done s now t → faults s ≤ faults t
  later_all (none d u) = omega arith
  later_all (more n ns d m w s t u one rest) = let a = later_one n one in let b = later_all rest in omega arith

  -- a run that was stopped stays among those that were
  kept_one : (number k : ℕ) {done now : List ℕ} {s t : P} → StopsRun stopped faults number done s now t → is_in done k ≡ true → is_in now k ≡ true
  kept_one number k (known d u is) h = h
  kept_one number k (stops d u v is asked le) h = any_append_old (λ n. nat_eq n k) d number h
  kept_one number k (fails d u v is asked le rose) h = h

  kept_all : (k : ℕ) {numbers done now : List ℕ} {s t : P} → StopRuns stopped faults numbers done s now t → is_in done k ≡ true → is_in now k ≡ true
  kept_all k (none d u) h = h
  kept_all k (more n ns d m w s t u one rest) h = kept_all k rest (kept_one n k one h)

  -- a run that is asked to stop was stopped, or the stop failed
  stopped_one : (number : ℕ) {done now : List ℕ} {s t : P} → StopsRun stopped faults number done s now t → (is_in now number ≡ true) ⊎ Rose (faults s) (faults t)
  stopped_one number (known d u is) = inl is
  stopped_one number (stops d u v is asked le) = inl (any_append_new (λ n. nat_eq n number) d number (eq-eqb number number refl))
  stopped_one number (fails d u v is asked le rose) = inr rose

  -- the same, of one run and others
  few_more : (n : ℕ) (ns d m w : List ℕ) (s t u : P) → StopsRun stopped faults n d s m t → StopRuns stopped faults ns m t w u → faults u < 2 ^ 64 - 1
      → left_out ns w + faults t ≤ faults u → ((is_in m n ≡ true) ⊎ Rose (faults s) (faults t)) → left_out (n ∷ ns) w + faults s ≤ faults u
  few_more n ns d m w s t u one rest lt tail (inl h) = let same = left_known n ns w (kept_all n rest h) in let le = later_one n one in omega arith
  few_more n ns d m w s t u one rest lt tail (inr rose) = let le = later_all rest in
      let less : faults s + 1 ≤ faults t = rose_less (faults s) (faults t) rose (omega arith) in
      let one_more = left_one n ns w in omega arith

  -- at most as many runs are left out as stops failed
  pub few_left : {numbers done now : List ℕ} {s t : P} → StopRuns stopped faults numbers done s now t → faults t < 2 ^ 64 - 1
      → left_out numbers now + faults s ≤ faults t
  few_left (none d u) lt = omega arith
  few_left (more n ns d m w s t u one rest) lt = few_more n ns d m w s t u one rest lt (few_left rest lt) (stopped_one n one)

  -- a run that was stopped was so before, or was asked to stop
  from_one : (number k : ℕ) {done now : List ℕ} {s t : P} → StopsRun stopped faults number done s now t → is_in now k ≡ true
      → (is_in done k ≡ true) ⊎ (nat_eq number k ≡ true)
  from_one number k (known d u is) h = inl h
  from_one number k (stops d u v is asked le) h = or_cases (is_in d k) (nat_eq number k) (sym (any_append (λ n. nat_eq n k) d number) ∙ h)
  from_one number k (fails d u v is asked le rose) h = inl h

  pub from_all : (k : ℕ) {numbers done now : List ℕ} {s t : P} → StopRuns stopped faults numbers done s now t → is_in now k ≡ true
      → (is_in done k ≡ true) ⊎ (is_in numbers k ≡ true)
  from_all k (none d u) h = inl h
  from_all k (more n ns d m w s t u one rest) h = by_rest (from_all k rest h)
    where
      by_one : ((is_in d k ≡ true) ⊎ (nat_eq n k ≡ true)) → (is_in d k ≡ true) ⊎ (is_in (n ∷ ns) k ≡ true)
      by_one (inl a) = inl a
      by_one (inr b) = inr (or_first (is_in ns k) b)

      by_rest : ((is_in m k ≡ true) ⊎ (is_in ns k ≡ true)) → (is_in d k ≡ true) ⊎ (is_in (n ∷ ns) k ≡ true)
      by_rest (inl a) = by_one (from_one n k one a)
      by_rest (inr b) = inr (or_second (nat_eq n k) b)

  -- no run is stopped twice
  distinct_one : (number : ℕ) {done now : List ℕ} {s t : P} → StopsRun stopped faults number done s now t → AreDistinct nat_eq done → AreDistinct nat_eq now
  distinct_one number (known d u is) h = h
  distinct_one number (stops d u v is asked le) h = distinct_append nat_eq d number h is
  distinct_one number (fails d u v is asked le rose) h = h

  pub distinct_all : {numbers done now : List ℕ} {s t : P} → StopRuns stopped faults numbers done s now t → AreDistinct nat_eq done → AreDistinct nat_eq now
  distinct_all (none d u) h = h
  distinct_all (more n ns d m w s t u one rest) h = distinct_all rest (distinct_one n one h)
