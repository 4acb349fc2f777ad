-- The newest samples of a list.
use Rattle.std.proofs.Common.{◌≡◌, ℕ, min, List, length, reverse, sym, ◌∙◌, ap}
use Rattle.std.proofs.lemmas.List.{take_min, length-map, length-reverse}
use Rattle.bt_samples.specs.declared.history.Sample.{Sample}
use Rattle.bt_samples.specs.Histories.{last_values, values}

length-newest : (samples : List Sample) → length (values (reverse samples)) ≡ length samples
length-newest samples = length-map (reverse samples) (λ (sample : Sample). sample.value) ∙ length-reverse samples

-- no more samples are taken than there are
pub last_values_min : (samples : List Sample) (n : ℕ) → last_values samples (min n (length samples)) ≡ last_values samples n
last_values_min samples n =
    sym (ap (λ kept. last_values samples (min n kept)) (length-newest samples)) ∙ take_min n (values (reverse samples))
