-- Rules that are decided by counts of keys.
use Rattle.std.proofs.Common.{◌≡◌, ℕ, ◌+◌, Bool, false, not, ◌&&◌, ◌||◌, nat_le, List, count_by, Option, sym, ap, ◌∙◌}
use Rattle.std.specs.Prelude.{nat_lt}
use Rattle.std.specs.Option.{option_map_or}
use Rattle.std.specs.List.{list_all}
use Rattle.std.proofs.lemmas.List.Sums.{length-filter}
use Rattle.kept_table.specs.Keys.{number_text, id_text, number_id_text}
use Rattle.bt_rows.specs.Metrics.{same_metric}
use Rattle.row_keys.specs.Numbers.{number_at, count_at}
use Rattle.row_keys.specs.Passes.{has_key}
use Rattle.batch_model.specs.Jobs.{is_quiet}
use Rattle.batch_model.specs.Tasks.{is_placed_in}
use Rattle.batch_model.specs.Samples.{sample_limit, is_sample_of, last_label}
use Rattle.batch_model.specs.WellFormed.{has_few_tries, has_few_preparations, is_unended_start_on, is_preparing, has_no_placed_if_quiet, is_covered, has_kept}
use Rattle.batch_model.specs.Variants.{State, NodeRow, JobRow, PrepRow, CpuPercent, ActiveTasks, SampleRow}
use Rattle.tables_check.specs.RowKeys.{start_key, preparation_key, placed_key, metric_text, metric_key}
use Rattle.tables_check.specs.Latest.{latest}
use Rattle.tables_check.proofs.Matching.{any_counted, all_alike, count_alike, filter_alike}
use Rattle.tables_check.proofs.KeyTests.{start_test, preparation_test, placed_test, metric_test}

-- the map has the counts of the keys of these rows
abbrev pub AreCounts : {R : Type 0} → (R → Option (List ℕ)) → List (List ℕ × ℕ) → List R → Type 0
AreCounts key counts rows = (text : List ℕ) → count_at counts text ≡ count_by (has_key key text) rows

pub few_tries : (s : State) (starts : List (List ℕ × ℕ)) → AreCounts start_key starts s.runs
    → list_all (λ (node : NodeRow). nat_lt (node.tries + count_at starts (number_text node.number)) s.next_run) s.nodes ≡ list_all (has_few_tries s) s.nodes
few_tries s starts h =
    all_alike (λ (node : NodeRow). nat_lt (node.tries + count_at starts (number_text node.number)) s.next_run) (has_few_tries s)
    (λ node. ap (λ (n : ℕ). nat_lt (node.tries + n) s.next_run)
    (h (number_text node.number) ∙ count_alike (has_key start_key (number_text node.number)) (is_unended_start_on node.number) (start_test node.number) s.runs))
    s.nodes

pub few_preparations : (s : State) (runs : List (List ℕ × ℕ)) → AreCounts preparation_key runs s.runs
    → list_all (λ (prep : PrepRow). nat_lt (prep.tries + count_at runs (number_id_text prep.node prep.job)) s.next_run) s.preps
    ≡ list_all (has_few_preparations s) s.preps
few_preparations s runs h =
    all_alike (λ (prep : PrepRow). nat_lt (prep.tries + count_at runs (number_id_text prep.node prep.job)) s.next_run) (has_few_preparations s)
    (λ prep. ap (λ (n : ℕ). nat_lt (prep.tries + n) s.next_run)
    (h (number_id_text prep.node prep.job)
    ∙ count_alike (has_key preparation_key (number_id_text prep.node prep.job)) (is_preparing prep) (preparation_test prep) s.runs))
    s.preps

pub quiet_jobs : (s : State) (placed : List (List ℕ × ℕ)) → AreCounts placed_key placed s.tasks
    → list_all (λ (job : JobRow). not (is_quiet job.state && nat_lt 0 (count_at placed (id_text job.id)))) s.jobs ≡ list_all (has_no_placed_if_quiet s) s.jobs
quiet_jobs s placed h =
    all_alike (λ (job : JobRow). not (is_quiet job.state && nat_lt 0 (count_at placed (id_text job.id)))) (has_no_placed_if_quiet s)
    (λ job. ap (λ (b : Bool). not (is_quiet job.state && b))
    (ap (nat_lt 0) (h (id_text job.id) ∙ count_alike (has_key placed_key (id_text job.id)) (is_placed_in job.id) (placed_test job.id) s.tasks)
    ∙ any_counted (is_placed_in job.id) s.tasks))
    s.jobs

pub few_samples : (s : State) (counts : List (List ℕ × ℕ)) → AreCounts metric_key counts s.samples
    → list_all (λ (sample : SampleRow). nat_le (count_at counts (metric_text sample.pool sample.metric)) sample_limit) s.samples
    ≡ list_all (has_kept s) s.samples
few_samples s counts h =
    all_alike (λ (sample : SampleRow). nat_le (count_at counts (metric_text sample.pool sample.metric)) sample_limit) (has_kept s)
    (λ sample. ap (λ (n : ℕ). nat_le n sample_limit)
    (h (metric_text sample.pool sample.metric)
    ∙ count_alike (has_key metric_key (metric_text sample.pool sample.metric)) (is_sample_of sample.pool sample.metric)
    (metric_test sample.pool sample.metric) s.samples
    ∙ sym (length-filter (is_sample_of sample.pool sample.metric) s.samples)))
    s.samples

pub covered_samples : (s : State) (labels : List (List ℕ × ℕ)) → ((text : List ℕ) → number_at labels text ≡ latest text s.samples)
    → list_all (λ (sample : SampleRow). same_metric sample.metric CpuPercent
    || option_map_or (nat_le sample.label) (number_at labels (metric_text sample.pool ActiveTasks)) false) s.samples
    ≡ list_all (is_covered s) s.samples
covered_samples s labels h =
    all_alike (λ (sample : SampleRow). same_metric sample.metric CpuPercent
    || option_map_or (nat_le sample.label) (number_at labels (metric_text sample.pool ActiveTasks)) false)
    (is_covered s)
    (λ sample. ap (λ (o : Option ℕ). same_metric sample.metric CpuPercent || option_map_or (nat_le sample.label) o false)
    (h (metric_text sample.pool ActiveTasks)
    ∙ ap last_label (filter_alike (has_key metric_key (metric_text sample.pool ActiveTasks)) (is_sample_of sample.pool ActiveTasks)
    (metric_test sample.pool ActiveTasks) s.samples)))
    s.samples
