-- What rows whose keys have a text are.
use Rattle.std.proofs.Common.{◌≡◌, ℕ, Bool, true, false, ◌&&◌, cond, nat_eq, List, [], ◌∷◌, ◌++◌, length, Option, Some, None, refl, sym, ap, ◌∙◌, arith}
use Rattle.std.specs.Option.{option_map, option_map_or}
use Rattle.std.specs.Str.{bytes_eq}
use Rattle.bt_base.specs.Ids.{same}
use Rattle.kept_table.specs.Keys.{number_text, id_text, ids_text, number_id_text}
use Rattle.kept_table.proofs.KeyTexts.{same-id, same-ids, same-number, same-number_id, number_text_length}
use Rattle.bt_rows.specs.Metrics.{place_of_metric, same_metric}
use Rattle.row_keys.specs.Passes.{has_key, share_key}
use Rattle.batch_model.specs.Finding.{names}
use Rattle.batch_model.specs.Runs.{is_unended, is_start, is_preparation, is_main}
use Rattle.batch_model.specs.Tasks.{is_placed, is_placed_in}
use Rattle.batch_model.specs.Samples.{is_sample_of}
use Rattle.batch_model.specs.WellFormed.{is_unended_start_on, is_preparing, are_one_attempt}
use Rattle.batch_model.specs.Variants.{TaskRow, RunRow, PrepRow, Metric, SampleRow}
use Rattle.tables_check.specs.RowKeys.{start_key, preparation_key, attempt_text, text_of_attempt, attempt_key, placed_key, metric_text, metric_key}

and_swap : (a b : Bool) → (a && b) ≡ (b && a)
and_swap true true = refl
and_swap true false = refl
and_swap false true = refl
and_swap false false = refl

and_false : (b : Bool) → (b && false) ≡ false
and_false true = refl
and_false false = refl

and_joined : (a b c : Bool) → (a && (b && c)) ≡ ((a && b) && c)
and_joined true b c = refl
and_joined false b c = refl

starting : (b : Bool) (n m : ℕ) → option_map_or (λ own. bytes_eq own (number_text m)) (cond b (Some (number_text n)) None) false ≡ (b && nat_eq n m)
starting true n m = sym (same-number n m)
starting false n m = refl

pub start_test : (node : ℕ) (run : RunRow) → has_key start_key (number_text node) run ≡ is_unended_start_on node run
start_test node run = starting (is_start run.kind && is_unended run.state) run.node node

preparing : (b : Bool) (o : Option (List ℕ)) (n m : ℕ) (job : List ℕ)
    → option_map_or (λ own. bytes_eq own (number_id_text m job)) (cond b (option_map (number_id_text n) o) None) false ≡ ((b && names o job) && nat_eq n m)
preparing true None n m job = refl
preparing true (Some id) n m job = sym (same-number_id n m id job) ∙ and_swap (nat_eq n m) (same id job)
preparing false o n m job = refl

pub preparation_test : (prep : PrepRow) (run : RunRow) → has_key preparation_key (number_id_text prep.node prep.job) run ≡ is_preparing prep run
preparation_test prep run = preparing (is_preparation run.kind && is_unended run.state) run.job run.node prep.node prep.job

bytes_joined : (a b c d : List ℕ) → length a ≡ length b → bytes_eq (a ++ c) (b ++ d) ≡ (bytes_eq a b && bytes_eq c d)
bytes_joined [] [] c d l = refl
bytes_joined [] (y ∷ b) c d l = absurd (omega arith)
bytes_joined (x ∷ a) [] c d l = absurd (omega arith)
bytes_joined (x ∷ a) (y ∷ b) c d l =
    ap (λ (r : Bool). nat_eq x y && r) (bytes_joined a b c d (omega arith)) ∙ and_joined (nat_eq x y) (bytes_eq a b) (bytes_eq c d)

same_attempt : (job id other_job other_id : List ℕ) (n m : ℕ)
    → bytes_eq (attempt_text job id n) (attempt_text other_job other_id m) ≡ (nat_eq n m && (same job other_job && same id other_id))
same_attempt job id other_job other_id n m =
    bytes_joined (number_text n) (number_text m) (ids_text job id) (ids_text other_job other_id) (number_text_length n ∙ sym (number_text_length m))
    ∙ ap (λ (b : Bool). b && bytes_eq (ids_text job id) (ids_text other_job other_id)) (sym (same-number n m))
    ∙ ap (λ (b : Bool). nat_eq n m && b) (sym (same-ids job id other_job other_id))

never : {K : Type 0} (o : Option K) → option_map_or (λ k. false) o false ≡ false
never None = refl
never (Some k) = refl

one_attempt : (x y : Bool) (j t j2 t2 : Option (List ℕ)) (n m : ℕ)
    → option_map_or (λ text. option_map_or (λ own. bytes_eq own text) (cond x (text_of_attempt j t n) None) false) (cond y (text_of_attempt j2 t2 m) None) false
    ≡ (((x && y) && nat_eq n m) && (option_map_or (names j) j2 false && option_map_or (names t) t2 false))
one_attempt false y j t j2 t2 n m = never (cond y (text_of_attempt j2 t2 m) None)
one_attempt true false j t j2 t2 n m = refl
one_attempt true true j t None t2 n m = sym (and_false (nat_eq n m))
one_attempt true true j t (Some j2) None n m = sym (rw (and_false (names j j2), and_false (nat_eq n m)) refl)
one_attempt true true None t (Some j2) (Some t2) n m = sym (and_false (nat_eq n m))
one_attempt true true (Some j) None (Some j2) (Some t2) n m = sym (rw (and_false (same j j2), and_false (nat_eq n m)) refl)
one_attempt true true (Some j) (Some t) (Some j2) (Some t2) n m = same_attempt j t j2 t2 n m

pub attempt_test : (run other : RunRow) → share_key attempt_key run other ≡ are_one_attempt run other
attempt_test run other = one_attempt (is_main run.kind) (is_main other.kind) run.job run.task other.job other.task run.attempt other.attempt

placing : (b : Bool) (id job : List ℕ) → option_map_or (λ own. bytes_eq own (id_text job)) (cond b (Some (id_text id)) None) false ≡ (b && same id job)
placing true id job = sym (same-id id job)
placing false id job = refl

pub placed_test : (job : List ℕ) (task : TaskRow) → has_key placed_key (id_text job) task ≡ is_placed_in job task
placed_test job task = placing (is_placed task.stage) task.job job

pub same_metric_text : (a b : List ℕ) (m n : Metric) → bytes_eq (metric_text a m) (metric_text b n) ≡ (same a b && same_metric m n)
same_metric_text a b m n =
    ap (λ (r : Bool). nat_eq (place_of_metric m) (place_of_metric n) && r) (sym (same-id a b))
    ∙ and_swap (nat_eq (place_of_metric m) (place_of_metric n)) (same a b)

pub metric_test : (pool : List ℕ) (metric : Metric) (sample : SampleRow) → has_key metric_key (metric_text pool metric) sample ≡ is_sample_of pool metric sample
metric_test pool metric sample = same_metric_text sample.pool pool sample.metric metric
