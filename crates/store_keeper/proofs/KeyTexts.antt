-- Two keys are alike exactly if the keys of the rows are the same.
use Rattle.std.proofs.Common.{◌≡◌, ℕ, ◌^◌, ◌<◌, Bool, true, false, ◌&&◌, List, [], ◌∷◌, nat_eq, Option, Some, None, is_none}
use Rattle.std.proofs.Common.{get_or, refl, sym, ap, ◌∙◌, eq-eqb}
use Rattle.std.specs.Prelude.{not}
use Rattle.std.specs.Bool.{Decides}
use Rattle.std.specs.List.{list_all}
use Rattle.std.specs.Fmt.{decimal}
use Rattle.std.specs.Str.{bytes_eq}
use Rattle.std.specs.Cmp.Lexicographic.{bytes_decides}
use Rattle.std.proofs.lemmas.Bool.{ltb-true, and_parts}
use Rattle.std.proofs.lemmas.Bool.Decides.{same_from_decides, Decides-and, Decides-eqb, Decides-like}
use Rattle.std.proofs.lemmas.Fmt.{decimal_injective}
use Rattle.bt_base.specs.Ids.{same, lowered, id_fault, IsId}
use Rattle.bt_base.specs.declared.id.IdFault.{IdFault}
use Rattle.bt_base.specs.declared.pool_metric.Metric.{Metric}
use Rattle.bt_base.specs.declared.pool_metric.Metric.TheVariants as metrics
use Rattle.bt_rows.specs.Metrics.{place_of_metric, same_metric}
use Rattle.std.specs.Prelude.{Result, Ok, Err}
use Rattle.serde_json.specs.Data.{string}
use Rattle.variant_names.specs.UnitNames.{metric_name}
use Rattle.row_fields.specs.UnitEnums.{all_metrics, metric_in, metric_back}
use Rattle.row_fields.specs.declared.fault.RowFault.{RowFault}
use Rattle.store_keeper.specs.Keys.{joined, id_key, number_key, ids_key, id_number_key, label_key, is_id, is_number}
use Rattle.store_keeper.proofs.NoSlash.{NoSlash, parted, no_slash}

none_is : (fault : Option IdFault) → is_none fault ≡ true → fault ≡ None
none_is None h = refl
none_is (Some fault) h = absurd (cc)

pub id_is : (text : List ℕ) → is_id text ≡ true → IsId text
id_is text h = none_is (id_fault text) h

same_decides : (a b : List ℕ) → Decides (same a b) (lowered a ≡ lowered b)
unfolding same
same_decides a b = bytes_decides (lowered a) (lowered b)

pub ids_alike : (a b : List ℕ) → bytes_eq (id_key a) (id_key b) ≡ same a b
unfolding same
ids_alike a b = refl

number_decides : (m n : ℕ) → m < 2 ^ 64 → n < 2 ^ 64 → Decides (nat_eq m n) (decimal m ≡ decimal n)
number_decides m n p q = Decides-like (nat_eq m n) (ap decimal) (decimal_injective m n p q) (Decides-eqb m n)

pub numbers_alike : (m n : ℕ) → m < 2 ^ 64 → n < 2 ^ 64 → bytes_eq (number_key m) (number_key n) ≡ nat_eq m n
numbers_alike m n p q = same_from_decides (bytes_eq (decimal m) (decimal n)) (nat_eq m n) (bytes_decides (decimal m) (decimal n)) (number_decides m n p q)

-- two parts, of which the first ones have no `/`
parts_alike : (first second : Bool) (a b c d : List ℕ) → NoSlash a → NoSlash c → Decides first (a ≡ c) → Decides second (b ≡ d)
    → bytes_eq (joined a b) (joined c d) ≡ (first && second)
parts_alike first second a b c d p q one two =
    same_from_decides (bytes_eq (joined a b) (joined c d)) (first && second) (bytes_decides (joined a b) (joined c d))
    (Decides-like (first && second) (λ (e : (a ≡ c) × (b ≡ d)). let x = e.0 in let y = e.1 in cc) (parted a c b d p q) (Decides-and first second one two))

pub tasks_alike : (a b c d : List ℕ) → IsId a → IsId c → bytes_eq (ids_key a b) (ids_key c d) ≡ (same a c && same b d)
tasks_alike a b c d p q =
    parts_alike (same a c) (same b d) (lowered a) (lowered b) (lowered c) (lowered d) (no_slash a p) (no_slash c q) (same_decides a c) (same_decides b d)

pub preps_alike : (a c : List ℕ) (m n : ℕ) → IsId a → IsId c → m < 2 ^ 64 → n < 2 ^ 64
    → bytes_eq (id_number_key a m) (id_number_key c n) ≡ (same a c && nat_eq m n)
preps_alike a c m n p q r s =
    parts_alike (same a c) (nat_eq m n) (lowered a) (decimal m) (lowered c) (decimal n) (no_slash a p) (no_slash c q)
    (same_decides a c) (number_decides m n r s)

-- the metric that has this place
abbrev metric_at : ℕ → Metric
metric_at place = get_or all_metrics place metrics.CpuPercent

at_place : (m : Metric) → metric_at (place_of_metric m) ≡ m
at_place metrics.CpuPercent = refl
at_place metrics.ActiveTasks = refl
at_place metrics.RunningTasks = refl
at_place metrics.PendingTasks = refl
at_place metrics.SucceededTasks = refl
at_place metrics.FailedTasks = refl
at_place metrics.TaskSlotsPerNode = refl
at_place metrics.CurrentDedicatedNodes = refl
at_place metrics.CurrentLowPriorityNodes = refl
at_place metrics.PreemptedNodeCount = refl

-- the metric that was read
abbrev metric_or : Result Metric RowFault → Metric
metric_or (Ok metric) = metric
metric_or (Err e) = metrics.CpuPercent

-- the name of a metric is its own
name_is_own : (m n : Metric) → metric_name m ≡ metric_name n → m ≡ n
name_is_own m n h = ap metric_or (sym (metric_back m) ∙ ap (λ name. metric_in (string name)) h ∙ metric_back n)

place_is_own : (m n : Metric) → place_of_metric m ≡ place_of_metric n → m ≡ n
place_is_own m n h = sym (at_place m) ∙ ap metric_at h ∙ at_place n

metric_decides : (m n : Metric) → Decides (same_metric m n) (metric_name m ≡ metric_name n)
metric_decides m n =
    Decides-like (same_metric m n) (λ h. ap metric_name (place_is_own m n h)) (λ h. ap place_of_metric (name_is_own m n h))
    (Decides-eqb (place_of_metric m) (place_of_metric n))

no_slash_test : (b : Bool) → not b ≡ true → b ≡ false
no_slash_test true h = absurd (cc)
no_slash_test false h = refl

by_test : (xs : List ℕ) → list_all (λ b. not (nat_eq b 47)) xs ≡ true → NoSlash xs
by_test [] h = tt
by_test (x ∷ xs) h =
    let both = and_parts (not (nat_eq x 47)) (list_all (λ b. not (nat_eq b 47)) xs) h in (
      λ (e : x ≡ 47).
          let yes : nat_eq x 47 ≡ true = eq-eqb x 47 e in
          let none : nat_eq x 47 ≡ false = no_slash_test (nat_eq x 47) both.0 in
          cc,
      by_test xs both.1,
    )

metric_tests : (m : Metric) → list_all (λ b. not (nat_eq b 47)) (metric_name m) ≡ true
unfolding metric_name
metric_tests metrics.CpuPercent = refl
metric_tests metrics.ActiveTasks = refl
metric_tests metrics.RunningTasks = refl
metric_tests metrics.PendingTasks = refl
metric_tests metrics.SucceededTasks = refl
metric_tests metrics.FailedTasks = refl
metric_tests metrics.TaskSlotsPerNode = refl
metric_tests metrics.CurrentDedicatedNodes = refl
metric_tests metrics.CurrentLowPriorityNodes = refl
metric_tests metrics.PreemptedNodeCount = refl

turned : (a b c : Bool) → (a && (c && b)) ≡ ((a && b) && c)
turned true true true = refl
turned true true false = refl
turned true false true = refl
turned true false false = refl
turned false b c = refl

label_decides : (m n : Metric) (l k : ℕ) → l < 2 ^ 64 → k < 2 ^ 64
    → Decides (same_metric m n && nat_eq l k) (joined (metric_name m) (decimal l) ≡ joined (metric_name n) (decimal k))
label_decides m n l k r s =
    Decides-like (same_metric m n && nat_eq l k) (λ (e : (metric_name m ≡ metric_name n) × (decimal l ≡ decimal k)). let x = e.0 in let y = e.1 in cc)
    (parted (metric_name m) (metric_name n) (decimal l) (decimal k) (by_test (metric_name m) (metric_tests m)) (by_test (metric_name n) (metric_tests n)))
    (Decides-and (same_metric m n) (nat_eq l k) (metric_decides m n) (number_decides l k r s))

pub samples_alike : (a c : List ℕ) (m n : Metric) (l k : ℕ) → IsId a → IsId c → l < 2 ^ 64 → k < 2 ^ 64
    → bytes_eq (label_key a m l) (label_key c n k) ≡ (same a c && nat_eq l k && same_metric m n)
samples_alike a c m n l k p q r s =
    parts_alike (same a c) (same_metric m n && nat_eq l k) (lowered a) (joined (metric_name m) (decimal l)) (lowered c) (joined (metric_name n) (decimal k))
    (no_slash a p) (no_slash c q) (same_decides a c) (label_decides m n l k r s)
    ∙ turned (same a c) (nat_eq l k) (same_metric m n)

pub below : (n : ℕ) → is_number n ≡ true → n < 2 ^ 64
below n h = ltb-true n (2 ^ 64) h
