-- Histories of a metric: its samples, oldest first.
use Rattle.std.specs.Prelude.{
  ℕ,
  ◌+◌,
  ◌-◌,
  ◌*◌,
  ◌/◌,
  ◌≤◌,
  ◌==◌,
  Bool,
  ◌&&◌,
  ℤ,
  pos,
  List,
  [],
  ◌∷◌,
  ◌++◌,
  length,
  drop,
  take,
  map,
  reverse,
  count_by,
  nat_le,
  slice_get,
  Option,
  Some,
  None,
  option_map,
  Result,
  Ok,
  Err,
  if◌then◌else◌,
  vec_len,
  vec_capacity,
}
use Rattle.std.specs.List.{filter}
use Rattle.bt_samples.specs.declared.history.TheConstants.{MAX_SAMPLES, SAMPLE_INTERVAL_MS}
use Rattle.bt_samples.specs.declared.history.Sample.{Sample}
use Rattle.bt_samples.specs.declared.history.SampleTooOld.{SampleTooOld}
use Rattle.bt_samples.specs.declared.history.History.TheInside.{Inside}

-- the greatest count of samples in a history
abbrev pub kept : ℕ
kept = MAX_SAMPLES

-- the time between two samples, in milliseconds
abbrev pub apart : ℕ
apart = SAMPLE_INTERVAL_MS

-- there is room for all samples that a history can hold
pub record HasRoom (h : Inside) : Type 0 where
  pub few : vec_len h.samples ≤ kept
  pub room : kept ≤ vec_capacity h.samples

-- the label of the newest sample
abbrev pub newest : List Sample → Option ℕ
newest samples = option_map (λ (sample : Sample). sample.label) (slice_get samples (length samples - 1))

-- the label of the oldest sample
abbrev pub oldest : List Sample → Option ℕ
oldest samples = option_map (λ (sample : Sample). sample.label) (slice_get samples 0)

-- a label that is not greater than that of the newest sample is refused
abbrev pub refused : ℕ → Option ℕ → Option SampleTooOld
refused label None = None
refused label (Some last) = if nat_le label last then Some (record { 0 = last }) else None

-- the result of a push
abbrev pub answer : Option SampleTooOld → Result (Unit {0}) SampleTooOld
answer None = Ok tt
answer (Some fault) = Err fault

-- the last samples of a list, at most as many as a history can hold
abbrev pub last_kept : List Sample → List Sample
last_kept samples = drop (length samples - kept) samples

-- a refused sample changes nothing; any other becomes the newest
abbrev pub unless_refused : Option SampleTooOld → List Sample → Sample → List Sample
unless_refused None samples sample = last_kept (samples ++ (sample ∷ []))
unless_refused (Some fault) samples sample = samples

-- the result of a push of a sample with this label
abbrev pub push_answer : List Sample → ℕ → Result (Unit {0}) SampleTooOld
push_answer samples label = answer (refused label (newest samples))

-- the samples after a push
abbrev pub pushed : List Sample → Sample → List Sample
pushed samples sample = unless_refused (refused sample.label (newest samples)) samples sample

-- a sample's label is from a to b, both included
abbrev pub is_within : ℕ → ℕ → Sample → Bool
is_within a b sample = nat_le a sample.label && nat_le sample.label b

-- the values of samples
abbrev pub values : List Sample → List ℤ
values samples = map (λ (sample : Sample). sample.value) samples

-- the values of the newest samples, at most n, newest first
abbrev pub last_values : List Sample → ℕ → List ℤ
last_values samples n = take n (values (reverse samples))

-- the values of the samples with labels from a to b, newest first
abbrev pub values_within : List Sample → ℕ → ℕ → List ℤ
values_within samples a b = values (filter (is_within a b) (reverse samples))

-- how many multiples of 30,000 are below a number
abbrev pub labels_below : ℕ → ℕ
labels_below n = (n + (apart - 1)) / apart

-- how many of them are from a to b
abbrev pub labels_within : ℕ → ℕ → ℕ
labels_within a b = labels_below (b + 1) - labels_below a

-- 100 times a part over the whole, in millionths, cut off; 0 if the whole is 0
abbrev pub percentage : ℕ → ℕ → ℤ
percentage part whole = if whole == 0 then pos 0 else pos (100000000 * part / whole)

-- of the labels from a to b, the percentage that have a sample
abbrev pub percent_within : List Sample → ℕ → ℕ → ℤ
percent_within samples a b = percentage (count_by (is_within a b) samples) (labels_within a b)
