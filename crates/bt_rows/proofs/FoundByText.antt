-- A row that is found by the text of a key is the one that is found by the key.
use Rattle.std.proofs.Common.{◌≡◌, ℕ, Bool, List, [], ◌∷◌, Option, refl, sym}
use Rattle.std.specs.List.{find}
use Rattle.kept_table.specs.Slots.{has_text, place_of}
use Rattle.kept_table.proofs.Closing.{place_of_alike}
use Rattle.kept_table.specs.Keys.{ids_text, number_id_text}
use Rattle.bt_base.specs.declared.pool_metric.Metric.{Metric}
use Rattle.bt_rows.specs.Keys.{task_has_ids, prep_has_ids, sample_has_label}
use Rattle.bt_rows.specs.Texts.{task_text, task_by_text, prep_text, prep_by_text, label_text, sample_text, sample_by_text}
use Rattle.bt_rows.specs.declared.task.TaskRow.{TaskRow}
use Rattle.bt_rows.specs.declared.prep.PrepRow.{PrepRow}
use Rattle.bt_rows.specs.declared.sample.SampleRow.{SampleRow}

-- tests that agree find the same row
pub find_alike : {R : Type 0} (p q : R → Bool) → ((x : R) → p x ≡ q x) → (xs : List R) → find p xs ≡ find q xs
find_alike p q agree [] = refl
find_alike p q agree (x ∷ xs) = rw (agree x, find_alike p q agree xs)

pub task_by_ids : (job id : List ℕ) (tasks : List TaskRow) → find (has_text task_text (ids_text job id)) tasks ≡ find (task_has_ids job id) tasks
task_by_ids job id tasks =
    find_alike (has_text task_text (ids_text job id)) (task_has_ids job id) (λ task. sym (task_by_text (record { job = job; id = id }) task)) tasks

pub prep_by_ids : (job : List ℕ) (node : ℕ) (preps : List PrepRow) → find (has_text prep_text (number_id_text node job)) preps ≡ find (prep_has_ids job node) preps
prep_by_ids job node preps =
    find_alike (has_text prep_text (number_id_text node job)) (prep_has_ids job node) (λ prep. sym (prep_by_text (record { job = job; node = node }) prep)) preps

pub sample_by_label : (pool : List ℕ) (metric : Metric) (label : ℕ) (samples : List SampleRow)
    → find (has_text sample_text (label_text metric label pool)) samples ≡ find (sample_has_label pool metric label) samples
sample_by_label pool metric label samples =
    find_alike (has_text sample_text (label_text metric label pool)) (sample_has_label pool metric label)
    (λ sample. sym (sample_by_text (record { pool = pool; metric = metric; label = label }) sample)) samples

pub place_by_ids : (job id : List ℕ) (slots : List (Option TaskRow)) → place_of (has_text task_text (ids_text job id)) slots ≡ place_of (task_has_ids job id) slots
place_by_ids job id slots =
    place_of_alike (has_text task_text (ids_text job id)) (task_has_ids job id) (λ task. sym (task_by_text (record { job = job; id = id }) task)) slots
