-- What `sample` answers, by the newest label of the processors.
use Rattle.std.proofs.Common.{◌≡◌, ℕ, Bool, true, false, nat_lt, nat_le, [], ◌∷◌, Option, Some, None, refl, sym, ◌∙◌, ap, arith}
use Rattle.std.specs.Prelude.{ℤ}
use Rattle.std.specs.Option.{option_and_then}
use Rattle.std.proofs.lemmas.Bool.Decides.{nat_tests}
use Rattle.bt_rows.specs.Changes.{apply_changes}
use Rattle.bt_rows.specs.Ranges.{passes_if_some}
use Rattle.bt_rows.specs.declared.refusal.Refusal.{Refusal}
use Rattle.bt_rows.specs.declared.refusal.Refusal.TheVariants.{SampleTooOld}
use Rattle.batch_model.specs.Answers.{accept, answer, refuse}
use Rattle.batch_model.specs.Finding.{only_if}
use Rattle.batch_model.specs.Samples.{add_sample, label_of, new_sample, newest_label, sample_refusal, samples_of}
use Rattle.batch_model.specs.Scaling.{sample_pool}
use Rattle.batch_model.specs.WellFormed.{PoolsAreFitting}
use Rattle.batch_model.specs.Variants.{State, PoolRow, CpuPercent}
use Rattle.model_tables.proofs.SamplesAdded.{others_older}
use Rattle.machine_plans.specs.Plans.{with_moment}
use Rattle.pool_samples.specs.declared.kept.Kept.{Kept}
use Rattle.pool_samples.specs.Changes.{added, sample_at}
use Rattle.pool_samples.specs.Kept.{IsKept, taken_since}
use Rattle.pool_samples.proofs.KeptLabels.{newest_noted}
use Rattle.pool_samples.proofs.SamplePuts.{sample_added}

-- the refusal by what was taken since
abbrev refusal_of : Option ℕ → Option Refusal
refusal_of None = None
refusal_of (Some newest) = Some (SampleTooOld newest)

same_refusal : (label : ℕ) (newest : Option ℕ) → option_and_then (sample_refusal label) newest ≡ refusal_of (taken_since label newest)
same_refusal label None = refl
same_refusal label (Some newest) = either (nat_le label newest)
  where
    either : (b : Bool) → only_if b (Some (SampleTooOld newest)) ≡ refusal_of (only_if b (Some newest))
    either true = refl
    either false = refl

newer : (label : ℕ) (newest : Option ℕ) → taken_since label newest ≡ None → passes_if_some (λ one. nat_lt one label) newest ≡ true
newer label None h = refl
newer label (Some newest) h = either (nat_le label newest) refl h
  where
    either : (b : Bool) → nat_le label newest ≡ b → only_if b (Some newest) ≡ None → nat_lt newest label ≡ true
    either true e k = cc
    either false e k = grind (arith, nat_tests)

module _ (s : State) (now : ℕ) (percentage : ℤ) (pool : PoolRow) (kept : Kept) (keeps : IsKept s pool.id CpuPercent kept) where
  newest_kept : kept.newest ≡ newest_label s pool.id CpuPercent
  newest_kept = ap (λ (k : Kept). k.newest) keeps ∙ newest_noted (samples_of s pool.id CpuPercent)

  answered : (since : Option ℕ) → since ≡ taken_since (label_of now) kept.newest
      → sample_pool (with_moment now s) percentage pool
      ≡ answer (with_moment now s) (refusal_of since ∷ []) 200
      (add_sample (new_sample (with_moment now s) pool.id CpuPercent percentage) (with_moment now s))
  answered since e =
      ap
      (λ refusal. answer (with_moment now s) (refusal ∷ []) 200
      (add_sample (new_sample (with_moment now s) pool.id CpuPercent percentage) (with_moment now s)))
      (same_refusal (label_of now) (newest_label s pool.id CpuPercent) ∙ ap refusal_of (ap (taken_since (label_of now)) (sym newest_kept) ∙ sym e))

  -- a sample of the label or a later one is there
  pub too_old : (newest : ℕ) → Some newest ≡ taken_since (label_of now) kept.newest
      → sample_pool (with_moment now s) percentage pool ≡ refuse (SampleTooOld newest) (with_moment now s)
  too_old newest e = answered (Some newest) e

  -- none is there: the sample is added
  pub sampled : PoolsAreFitting s → None ≡ taken_since (label_of now) kept.newest
      → accept 200 (apply_changes (added kept (sample_at now pool.id CpuPercent percentage)) (with_moment now s))
      ≡ sample_pool (with_moment now s) percentage pool
  sampled fitting e =
      ap (accept 200)
      (sample_added (sample_at now pool.id CpuPercent percentage) kept (with_moment now s) keeps
      (others_older (sample_at now pool.id CpuPercent percentage) (with_moment now s) fitting.order
      (newer (label_of now) (newest_label s pool.id CpuPercent) (ap (taken_since (label_of now)) (sym newest_kept) ∙ sym e))))
      ∙ sym (answered None e)
