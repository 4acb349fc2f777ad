-- The changes by which a sample is added lead to the tables with it.
use Rattle.std.proofs.Common.{◌≡◌, ℕ, ◌+◌, ◌-◌, Bool, true, false, ◌&&◌, cond, nat_eq, nat_le, List, [], ◌∷◌, Some, filter, length, refl, sym, ◌∙◌, ap, arith}
use Rattle.std.proofs.lemmas.Bool.Decides.{nat_tests}
use Rattle.bt_base.specs.Ids.{same}
use Rattle.bt_rows.specs.Changes.{apply_changes}
use Rattle.bt_rows.specs.Keys.{same_sample, sample_has_label}
use Rattle.bt_rows.specs.Lists.{drop_row}
use Rattle.bt_rows.specs.Metrics.{same_metric}
use Rattle.bt_rows.specs.declared.tables.Change.TheVariants.{PutSample}
use Rattle.batch_model.specs.Finding.{Each, only_if}
use Rattle.batch_model.specs.Samples.{add_sample, is_sample_of, sample_limit, with_room, without_first}
use Rattle.batch_model.specs.Variants.{State, SampleRow}
use Rattle.model_lists.proofs.Putting.{put_row-new}
use Rattle.model_tables.proofs.SamplesAdded.{is_older, no_same_key, room}
use Rattle.row_changes.specs.Puts.{put_if_some}
use Rattle.row_changes.proofs.ListPuts.{apply_append}
use Rattle.pool_samples.specs.declared.kept.Kept.{Kept}
use Rattle.pool_samples.specs.Changes.{added, drop_at}
use Rattle.pool_samples.specs.Kept.{IsKept, leaving, none_kept, noted, noted_all}
use Rattle.pool_samples.proofs.KeptLabels.{noted_oldest, noted_room}

-- a sample of a series has the label of one exactly if the labels are the same
has : (pool metric : Bool) (label at : ℕ) → (pool && metric) ≡ true → label ≡ at → (pool && nat_eq label at && metric) ≡ true
has false metric label at h e = cc
has true false label at h e = cc
has true true label at h e = grind (arith, nat_tests)

has_not : (pool metric at : Bool) → (pool && metric) ≡ false → (pool && at && metric) ≡ false
has_not false metric at h = refl
has_not true false false h = refl
has_not true false true h = refl
has_not true true at h = cc

module _ (sample : SampleRow) where
  -- a sample of the series of this one
  abbrev mine : SampleRow → Bool
  mine = is_sample_of sample.pool sample.metric

  dropped_cons : (first one : SampleRow) (later rest : List SampleRow) (b : Bool) → mine one ≡ b
      → cond b (one ∷ filter mine rest) (filter mine rest) ≡ first ∷ later
      → (filter mine rest ≡ first ∷ later → drop_row (sample_has_label sample.pool sample.metric first.label) rest ≡ without_first mine rest)
      → cond (sample_has_label sample.pool sample.metric first.label one) rest (one ∷ drop_row (sample_has_label sample.pool sample.metric first.label) rest)
      ≡ cond b rest (one ∷ without_first mine rest)
  dropped_cons first one later rest true e h ih =
      let is : one ≡ first = cc in
      let has_it : sample_has_label sample.pool sample.metric first.label one ≡ true =
      has (same one.pool sample.pool) (same_metric one.metric sample.metric) one.label first.label e (ap (λ (s : SampleRow). s.label) is)
      in
      rw has_it refl
  dropped_cons first one later rest false e h ih =
      let has_none : sample_has_label sample.pool sample.metric first.label one ≡ false =
      has_not (same one.pool sample.pool) (same_metric one.metric sample.metric) (nat_eq one.label first.label) e
      in
      rw has_none (ap (λ samples. one ∷ samples) (ih h))

  -- the first of the series is the first that has its label
  first_dropped : (first : SampleRow) (later samples : List SampleRow) → filter mine samples ≡ first ∷ later
      → drop_row (sample_has_label sample.pool sample.metric first.label) samples ≡ without_first mine samples
  first_dropped first later [] h = cc
  first_dropped first later (one ∷ rest) h = dropped_cons first one later rest (mine one) refl h (first_dropped first later rest)

  -- the drop of the oldest one

  -- if no more are kept
  dropped_if : (first : SampleRow) (later : List SampleRow) (t : State) (b : Bool) → filter mine t.samples ≡ first ∷ later
      → apply_changes (put_if_some (drop_at sample.pool sample.metric) (only_if b (Some first.label))) t
      ≡ record t { samples = cond b (without_first mine t.samples) t.samples }
  dropped_if first later t true h = ap (λ samples. record t { samples = samples }) (first_dropped first later t.samples h)
  dropped_if first later t false h = refl

  by_series : (kept : Kept) (t : State) (series : List SampleRow) → filter mine t.samples ≡ series → kept ≡ noted_all series none_kept
      → apply_changes (put_if_some (drop_at sample.pool sample.metric) (leaving kept)) t ≡ record t { samples = with_room sample.pool sample.metric t.samples }
  by_series kept t [] h e = rw (e, h) refl
  by_series kept t (first ∷ later) h e =
      let left : kept.room ≡ (2880 - 1) - length later = ap (λ (k : Kept). k.room) e ∙ noted_room later (noted first.label none_kept) in
      let oldest : kept.oldest ≡ Some first.label = ap (λ (k : Kept). k.oldest) e ∙ noted_oldest later (noted first.label none_kept) first.label refl in
      let long : nat_le sample_limit (length (filter mine t.samples)) ≡ nat_eq kept.room 0 =
      ap (λ samples. nat_le sample_limit (length samples)) h ∙ is_full kept.room (length (first ∷ later)) (length later) (omega arith) left
      in
      ap (λ label. apply_changes (put_if_some (drop_at sample.pool sample.metric) (only_if (nat_eq kept.room 0) label)) t) oldest
      ∙ dropped_if first later t (nat_eq kept.room 0) h
      ∙ ap (λ b. record t { samples = cond b (without_first mine t.samples) t.samples }) (sym long)
    where
      is_full : (free all n : ℕ) → all ≡ n + 1 → free ≡ (2880 - 1) - n → nat_le 2880 all ≡ nat_eq free 0
      is_full free all n k m = grind (arith, nat_tests)

  -- the sample is put at the end
  pub sample_added : (kept : Kept) (t : State) → IsKept t sample.pool sample.metric kept → Each (is_older sample t) t.samples
      → apply_changes (added kept sample) t ≡ add_sample sample t
  sample_added kept t keeps older =
      apply_append (put_if_some (drop_at sample.pool sample.metric) (leaving kept)) (PutSample sample ∷ []) t
      ∙ ap (apply_changes (PutSample sample ∷ [])) (by_series kept t (filter mine t.samples) refl keeps)
      ∙ ap (λ samples. record t { samples = samples })
      (put_row-new (λ one. same_sample one sample) sample (room sample t) (no_same_key sample t older))
