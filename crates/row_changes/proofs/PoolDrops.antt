-- Drops of the samples of a pool, and of its scaling, leave the others.
use Rattle.std.proofs.Common.{◌≡◌, Bool, List, [], ◌∷◌, ◌++◌, Some, true, false, not, cond, filter, refl, ◌∙◌, ap}
use Rattle.bt_rows.specs.Changes.{apply_change, apply_changes}
use Rattle.bt_rows.specs.Lists.{drop_row, AreDistinct}
use Rattle.bt_rows.specs.Keys.{same_sample, same_sample_equiv, same_scale, same_scale_equiv}
use Rattle.batch_model.specs.Finding.{only_if}
use Rattle.batch_model.specs.Variants.{State, SampleRow, ScaleRow}
use Rattle.row_changes.specs.Puts.{put_if_some, changes_where, sample_drop, scale_drop}
use Rattle.row_changes.proofs.PutsInPlace.{drop_where, drop_where_filters}

samples_drop_cons : (test : SampleRow → Bool) (sample : SampleRow) (rest : List SampleRow) (b : Bool) (s : State)
    → ((t : State) → apply_changes (changes_where sample_drop test rest) t ≡ record t { samples = drop_where same_sample test rest t.samples })
    → apply_changes (put_if_some sample_drop (only_if b (Some sample)) ++ changes_where sample_drop test rest) s
    ≡ record s { samples = drop_where same_sample test rest (cond b (drop_row (λ y. same_sample y sample) s.samples) s.samples) }
samples_drop_cons test sample rest true s ih = ih (apply_change (sample_drop sample) s)
samples_drop_cons test sample rest false s ih = ih s

samples_drop : (test : SampleRow → Bool) (samples : List SampleRow) (s : State)
    → apply_changes (changes_where sample_drop test samples) s ≡ record s { samples = drop_where same_sample test samples s.samples }
samples_drop test [] s = refl
samples_drop test (sample ∷ samples) s = samples_drop_cons test sample samples (test sample) s (samples_drop test samples)

pub samples_dropped : (test : SampleRow → Bool) (s : State) → AreDistinct same_sample s.samples
    → apply_changes (changes_where sample_drop test s.samples) s ≡ record s { samples = filter (λ sample. not (test sample)) s.samples }
samples_dropped test s d =
    samples_drop test s.samples s ∙ ap (λ samples. record s { samples = samples }) (drop_where_filters same_sample same_sample_equiv test s.samples d)

scales_drop_cons : (test : ScaleRow → Bool) (scale : ScaleRow) (rest : List ScaleRow) (b : Bool) (s : State)
    → ((t : State) → apply_changes (changes_where scale_drop test rest) t ≡ record t { scales = drop_where same_scale test rest t.scales })
    → apply_changes (put_if_some scale_drop (only_if b (Some scale)) ++ changes_where scale_drop test rest) s
    ≡ record s { scales = drop_where same_scale test rest (cond b (drop_row (λ y. same_scale y scale) s.scales) s.scales) }
scales_drop_cons test scale rest true s ih = ih (apply_change (scale_drop scale) s)
scales_drop_cons test scale rest false s ih = ih s

scales_drop : (test : ScaleRow → Bool) (scales : List ScaleRow) (s : State)
    → apply_changes (changes_where scale_drop test scales) s ≡ record s { scales = drop_where same_scale test scales s.scales }
scales_drop test [] s = refl
scales_drop test (scale ∷ scales) s = scales_drop_cons test scale scales (test scale) s (scales_drop test scales)

pub scales_dropped : (test : ScaleRow → Bool) (s : State) → AreDistinct same_scale s.scales
    → apply_changes (changes_where scale_drop test s.scales) s ≡ record s { scales = filter (λ scale. not (test scale)) s.scales }
scales_dropped test s d =
    scales_drop test s.scales s ∙ ap (λ scales. record s { scales = scales }) (drop_where_filters same_scale same_scale_equiv test s.scales d)
