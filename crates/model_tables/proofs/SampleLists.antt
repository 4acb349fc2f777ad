-- Lists of samples: the label of the last one, and what stays when the first that passes a test is dropped.
use Rattle.std.proofs.Common.{◌≡◌, ℕ, ◌+◌, ◌≤◌, Bool, true, false, not, ◌||◌, nat_lt, List, [], ◌∷◌, ◌++◌, length, filter, cond, Some, refl, arith}
use Rattle.std.specs.List.{list_any}
use Rattle.std.proofs.lemmas.Bool.Decides.{nat_tests}
use Rattle.bt_rows.specs.Lists.{AreDistinct}
use Rattle.bt_rows.specs.Ranges.{passes_if_some}
use Rattle.batch_model.specs.Finding.{Each}
use Rattle.batch_model.specs.Samples.{last_label, without_first}
use Rattle.batch_model.specs.Variants.{SampleRow}
use Rattle.model_lists.proofs.Tests.{and_true, or_second, or_false, or_false_first, or_false_second}
use Rattle.model_lists.proofs.RowLists.{each_cons, each_head, each_tail}

-- the label of the last one

-- where a sample is added
pub last_added : (samples : List SampleRow) (sample : SampleRow) → last_label (samples ++ sample ∷ []) ≡ Some sample.label
last_added [] sample = refl
last_added (one ∷ []) sample = refl
last_added (one ∷ other ∷ samples) sample = last_added (other ∷ samples) sample

-- labels that rise are below what is above the last one
pub labels_below : (follows : SampleRow → SampleRow → Bool) (p : SampleRow → Bool) (label : ℕ)
    → ((one later : SampleRow) → p one ≡ true → p later ≡ true → follows one later ≡ false → nat_lt one.label later.label ≡ true)
    → (samples : List SampleRow) → Each p samples → AreDistinct follows samples
    → passes_if_some (λ newest. nat_lt newest label) (last_label samples) ≡ true → Each (λ one. nat_lt one.label label) samples
labels_below follows p label rise [] h d k = refl
labels_below follows p label rise (one ∷ []) h d k = and_true k refl
labels_below follows p label rise (one ∷ other ∷ samples) h d k =
    let later : Each (λ sample. nat_lt sample.label label) (other ∷ samples) =
    labels_below follows p label rise (other ∷ samples) (each_tail p one (other ∷ samples) h) d.1 k
    in
    let first : nat_lt one.label other.label ≡ true =
    rise one other (each_head p one (other ∷ samples) h) (each_head p other samples (each_tail p one (other ∷ samples) h))
    (or_false_first (follows one other) (list_any (follows one) samples) d.0)
    in
    let second : nat_lt other.label label ≡ true = each_head (λ sample. nat_lt sample.label label) other samples later in
    each_cons (λ sample. nat_lt sample.label label) one (other ∷ samples) (between one.label other.label label first second) later
  where
    between : (a b c : ℕ) → nat_lt a b ≡ true → nat_lt b c ≡ true → nat_lt a c ≡ true
    between a b c m n = grind (arith, nat_tests)

-- without the first one that passes a test

module _ (test : SampleRow → Bool) where
  -- what each sample passes
  pub each_without : (p : SampleRow → Bool) (samples : List SampleRow) → Each p samples → Each p (without_first test samples)
  each_without p [] h = refl
  each_without p (one ∷ samples) h = either (test one) (each_without p samples (each_tail p one samples h))
    where
      either : (b : Bool) → Each p (without_first test samples) → Each p (cond b samples (one ∷ without_first test samples))
      either true k = each_tail p one samples h
      either false k = each_cons p one (without_first test samples) (each_head p one samples h) k

  -- no sample passes
  pub none_without : (p : SampleRow → Bool) (samples : List SampleRow) → list_any p samples ≡ false → list_any p (without_first test samples) ≡ false
  none_without p [] h = refl
  none_without p (one ∷ samples) h = either (test one) (none_without p samples (or_false_second (p one) (list_any p samples) h))
    where
      either : (b : Bool) → list_any p (without_first test samples) ≡ false → list_any p (cond b samples (one ∷ without_first test samples)) ≡ false
      either true k = or_false_second (p one) (list_any p samples) h
      either false k = or_false (or_false_first (p one) (list_any p samples) h) k

  -- no two samples are related
  pub distinct_without : (r : SampleRow → SampleRow → Bool) (samples : List SampleRow) → AreDistinct r samples → AreDistinct r (without_first test samples)
  distinct_without r [] d = tt
  distinct_without r (one ∷ samples) d = either (test one) (none_without (r one) samples d.0) (distinct_without r samples d.1)
    where
      either : (b : Bool) → list_any (r one) (without_first test samples) ≡ false → AreDistinct r (without_first test samples)
          → AreDistinct r (cond b samples (one ∷ without_first test samples))
      either true k m = d.1
      either false k m = (k, m)

  -- samples that do not pass stay
  pub others_stay : (p : SampleRow → Bool) → ((one : SampleRow) → test one ≡ true → p one ≡ false) → (samples : List SampleRow)
      → filter p (without_first test samples) ≡ filter p samples
  others_stay p apart [] = refl
  others_stay p apart (one ∷ samples) = either (test one) (apart one) (others_stay p apart samples)
    where
      either : (b : Bool) → (b ≡ true → p one ≡ false) → filter p (without_first test samples) ≡ filter p samples
          → filter p (cond b samples (one ∷ without_first test samples)) ≡ cond (p one) (one ∷ filter p samples) (filter p samples)
      either true k m = rw (k refl) refl
      either false k m = rw m refl

  -- of those that pass one less is left, if there was one
  pub one_less : (samples : List SampleRow) → 1 ≤ length (filter test samples)
      → length (filter test (without_first test samples)) + 1 ≡ length (filter test samples)
  one_less [] h = omega (arith, h)
  one_less (one ∷ samples) h = either (test one) refl h (one_less samples)
    where
      either : (b : Bool) → test one ≡ b → 1 ≤ length (cond b (one ∷ filter test samples) (filter test samples))
          → (1 ≤ length (filter test samples) → length (filter test (without_first test samples)) + 1 ≡ length (filter test samples))
          → length (filter test (cond b samples (one ∷ without_first test samples))) + 1 ≡ length (cond b (one ∷ filter test samples) (filter test samples))
      either true e k ih = omega arith
      either false e k ih = rw e (ih k)

  -- what each sample passes of those that pass
  pub each_passing : (p : SampleRow → Bool) (samples : List SampleRow) → Each p (filter test samples) → Each (λ one. not (test one) || p one) samples
  each_passing p [] h = refl
  each_passing p (one ∷ samples) h = either (test one) refl h (each_passing p samples)
    where
      either : (b : Bool) → test one ≡ b → Each p (cond b (one ∷ filter test samples) (filter test samples))
          → (Each p (filter test samples) → Each (λ other. not (test other) || p other) samples) → Each (λ other. not (test other) || p other) (one ∷ samples)
      either true e k ih =
          each_cons (λ other. not (test other) || p other) one samples (or_second (not (test one)) (each_head p one (filter test samples) k))
          (ih (each_tail p one (filter test samples) k))
      either false e k ih = each_cons (λ other. not (test other) || p other) one samples (rw e refl) (ih k)
