-- Labels of samples, one after another.
use Rattle.std.proofs.Common.{◌≡◌, ℕ, Bool, true, false, not, ◌&&◌, ◌||◌, cond, nat_le, List, [], ◌∷◌, filter, Option, Some, None, refl, sym, ap, ◌∙◌, arith}
use Rattle.std.specs.Prelude.{nat_lt}
use Rattle.std.specs.List.{list_any, list_all}
use Rattle.std.specs.Str.{bytes_eq}
use Rattle.std.proofs.lemmas.Grind.{common_steps}
use Rattle.std.proofs.lemmas.Bool.Decides.{nat_tests}
use Rattle.std.proofs.lemmas.Slice.Eq.{bytes_eq-Decides}
use Rattle.row_keys.specs.Passes.{has_key, are_distinct}
use Rattle.batch_model.specs.Samples.{last_label}
use Rattle.batch_model.specs.WellFormed.{are_labels_out_of_order}
use Rattle.batch_model.specs.Variants.{SampleRow}
use Rattle.tables_check.specs.RowKeys.{metric_text, metric_key}
use Rattle.tables_check.specs.Latest.{is_above, latest}
use Rattle.tables_check.proofs.KeyTests.{same_metric_text}

-- the text of the sample's pool and metric
abbrev pub text_of : SampleRow → List ℕ
text_of sample = metric_text sample.pool sample.metric

-- the label is above the last one of its pool and metric
abbrev pub is_next : (List ℕ → Option ℕ) → SampleRow → Bool
is_next labels sample = is_above (labels (text_of sample)) sample.label

between : (o : Option ℕ) (label later : ℕ) → is_above o label ≡ true → nat_lt label later ≡ (is_above o later && not (nat_le later label))
between None label later h = grind (arith, nat_tests, common_steps)
between (Some before) label later h = grind (arith, nat_tests, common_steps)

regrouped : (f a d l : Bool) → (f && (d && (l && not a))) ≡ (f && ((not a && d) && l))
regrouped f a d l = grind (arith, common_steps)

stopped : (f x y : Bool) → ((f && false) && x) ≡ (f && (y && false))
stopped true x true = refl
stopped true x false = refl
stopped false x y = refl

and_true : (b : Bool) → (b && true) ≡ b
and_true true = refl
and_true false = refl

later_all : (s a n l m x : Bool) → x ≡ (s && not a) → l ≡ (m && not n) → (x && l) ≡ ((s && m) && not (a || n))
later_all s a n l m x e h = grind (arith, common_steps)

module _ (before after : List ℕ → Option ℕ) (sample : SampleRow)
    (more : (text : List ℕ) → after text ≡ cond (bytes_eq (text_of sample) text) (Some sample.label) (before text)) where
  next_alike : (other : SampleRow) (b : Bool) → bytes_eq (text_of sample) (text_of other) ≡ b → is_next before sample ≡ true
      → is_above (cond b (Some sample.label) (before (text_of other))) other.label
      ≡ (is_next before other && not (b && nat_le other.label sample.label))
  next_alike other true e up =
      between (before (text_of sample)) sample.label other.label up
      ∙ ap (λ (text : List ℕ). is_above (before text) other.label && not (nat_le other.label sample.label))
      ((bytes_eq-Decides (text_of sample) (text_of other)).0 e)
  next_alike other false e up = sym (and_true (is_next before other))

  next_one : (other : SampleRow) → is_next before sample ≡ true → is_next after other ≡ (is_next before other && not (are_labels_out_of_order sample other))
  next_one other up =
      ap (λ (o : Option ℕ). is_above o other.label) (more (text_of other))
      ∙ next_alike other (bytes_eq (text_of sample) (text_of other)) refl up
      ∙ ap (λ (b : Bool). is_next before other && not (b && nat_le other.label sample.label))
      (same_metric_text sample.pool other.pool sample.metric other.metric)

  next_all : is_next before sample ≡ true → (samples : List SampleRow)
      → list_all (is_next after) samples ≡ (list_all (is_next before) samples && not (list_any (are_labels_out_of_order sample) samples))
  next_all up [] = refl
  next_all up (other ∷ samples) =
      later_all (is_next before other) (are_labels_out_of_order sample other) (list_any (are_labels_out_of_order sample) samples)
      (list_all (is_next after) samples) (list_all (is_next before) samples) (is_next after other) (next_one other up) (next_all up samples)

-- what is known of the samples so far, and the samples that are left, say together whether all labels rise
abbrev pub Splits : Bool → (List ℕ → Option ℕ) → List SampleRow → List SampleRow → Type 0
Splits rising labels left all =
    (rising && (are_distinct are_labels_out_of_order left && list_all (is_next labels) left)) ≡ are_distinct are_labels_out_of_order all

none_before : (labels : List ℕ → Option ℕ) → ((text : List ℕ) → labels text ≡ None) → (samples : List SampleRow) → list_all (is_next labels) samples ≡ true
none_before labels none [] = refl
none_before labels none (sample ∷ samples) =
    ap (λ (o : Option ℕ). is_above o sample.label && list_all (is_next labels) samples) (none (text_of sample)) ∙ none_before labels none samples

pub splits_first : (labels : List ℕ → Option ℕ) (all : List SampleRow) → ((text : List ℕ) → labels text ≡ None) → Splits true labels all all
splits_first labels all none = ap (λ (b : Bool). are_distinct are_labels_out_of_order all && b) (none_before labels none all)
    ∙ and_true (are_distinct are_labels_out_of_order all)

pub splits_more : (before after : List ℕ → Option ℕ) (sample : SampleRow) (left all : List SampleRow) (rising above : Bool)
    → above ≡ is_next before sample
    → ((text : List ℕ) → after text ≡ cond (bytes_eq (text_of sample) text) (Some sample.label) (before text))
    → Splits rising before (sample ∷ left) all → Splits (rising && above) after left all
splits_more before after sample left all rising above e more h =
    by_next above (is_next before sample) e refl
  where
    by_next : (x y : Bool) → x ≡ y → is_next before sample ≡ y
        → ((rising && x) && (are_distinct are_labels_out_of_order left && list_all (is_next after) left)) ≡ are_distinct are_labels_out_of_order all
    by_next true true p q =
        ap (λ (b : Bool). (b && (are_distinct are_labels_out_of_order left && list_all (is_next after) left))) (and_true rising)
        ∙ ap (λ (b : Bool). rising && (are_distinct are_labels_out_of_order left && b)) (next_all before after sample more q left)
        ∙ regrouped rising (list_any (are_labels_out_of_order sample) left) (are_distinct are_labels_out_of_order left) (list_all (is_next before) left)
        ∙ ap (λ (b : Bool). rising
        && ((not (list_any (are_labels_out_of_order sample) left) && are_distinct are_labels_out_of_order left) && (b && list_all (is_next before) left)))
        (sym q)
        ∙ h
    by_next true false p q = cc
    by_next false true p q = cc
    by_next false false p q =
        stopped rising (are_distinct are_labels_out_of_order left && list_all (is_next after) left)
        (not (list_any (are_labels_out_of_order sample) left) && are_distinct are_labels_out_of_order left)
        ∙ ap (λ (b : Bool). rising
        && ((not (list_any (are_labels_out_of_order sample) left) && are_distinct are_labels_out_of_order left) && (b && list_all (is_next before) left)))
        (sym q)
        ∙ h

pub splits_all : (rising : Bool) (labels : List ℕ → Option ℕ) (all : List SampleRow) → Splits rising labels [] all
    → rising ≡ are_distinct are_labels_out_of_order all
splits_all true labels all h = h
splits_all false labels all h = h

-- the later of two
abbrev pub or_before : Option ℕ → Option ℕ → Option ℕ
or_before None before = before
or_before (Some label) before = Some label

-- the last labels so far, and those of the samples that are left, are together those of all
abbrev pub Follows : (List ℕ → Option ℕ) → List SampleRow → List SampleRow → Type 0
Follows labels left all = (text : List ℕ) → or_before (latest text left) (labels text) ≡ latest text all

no_before : (o : Option ℕ) → or_before o None ≡ o
no_before None = refl
no_before (Some n) = refl

pub follows_first : (labels : List ℕ → Option ℕ) (all : List SampleRow) → ((text : List ℕ) → labels text ≡ None) → Follows labels all all
follows_first labels all none text = ap (or_before (latest text all)) (none text) ∙ no_before (latest text all)

is_some_last : (sample : SampleRow) (samples : List SampleRow) (before : Option ℕ)
    → or_before (last_label (sample ∷ samples)) before ≡ last_label (sample ∷ samples)
is_some_last sample [] before = refl
is_some_last sample (other ∷ samples) before = is_some_last other samples before

last_more : (sample : SampleRow) (samples : List SampleRow) → last_label (sample ∷ samples) ≡ or_before (last_label samples) (Some sample.label)
last_more sample [] = refl
last_more sample (other ∷ samples) = sym (is_some_last other samples (Some sample.label))

follows_one : (b : Bool) (sample : SampleRow) (samples : List SampleRow) (before : Option ℕ)
    → or_before (last_label samples) (cond b (Some sample.label) before) ≡ or_before (last_label (cond b (sample ∷ samples) samples)) before
follows_one true sample samples before = sym (is_some_last sample samples before ∙ last_more sample samples)
follows_one false sample samples before = refl

pub follows_more : (before after : List ℕ → Option ℕ) (sample : SampleRow) (left all : List SampleRow)
    → ((text : List ℕ) → after text ≡ cond (bytes_eq (text_of sample) text) (Some sample.label) (before text))
    → Follows before (sample ∷ left) all → Follows after left all
follows_more before after sample left all more h text =
    ap (or_before (latest text left)) (more text)
    ∙ follows_one (bytes_eq (text_of sample) text) sample (filter (has_key metric_key text) left) (before text)
    ∙ h text
