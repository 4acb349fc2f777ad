-- Tests of whole scripts: after each step the tables are sound, and each due step lowers the numbers that due steps lower.
-- The tests of soundness are those of `batch_model`, which computes here.
use Rattle.std.specs.Prelude.{ℕ, zero, suc, ◌+◌, Bool, true, false, not, ◌&&◌, nat_lt, nat_le, List, [], ◌∷◌, length, Some, None}
use Rattle.std.specs.List.{list_any, list_all}
use Rattle.bt_base.proofs.Turns.{lex_lt}
use Rattle.bt_base.specs.Moments.{last_moment}
use Rattle.bt_rows.specs.Ranges.{is_from_to}
use Rattle.bt_rows.specs.Keys.{same_pool, same_node, same_job, same_task, same_run, same_prep, same_sample, same_scale}
use Rattle.batch_model.specs.Variants.{State, empty_state, NodeRow, RunRow, PrepRow, SampleRow, ScaleRow}
use Rattle.batch_model.specs.Runs.{is_coordination, is_unended}
use Rattle.batch_model.specs.WellFormed as well
use Rattle.batch_model.specs.Sound as sound
use Rattle.batch_model.specs.Finding.{last_number}
use Rattle.batch_model.specs.Limits.{pool_limit, job_limit, task_limit}
use Rattle.batch_model.specs.Opening.{opening}
use Rattle.batch_model.specs.Measure.{rank}
use Rattle.batch_model.specs.Steps.{DueStep}
use Rattle.batch_model.specs.Dues.{due_step}
use Rattle.batch_model.specs.Events.{event_step}
use Rattle.model_scripts.specs.Scripts.{Call, seat_count, state_after}

-- no two rows are related
abbrev pub are_distinct : {R : Type 0} → (R → R → Bool) → List R → Bool
are_distinct related [] = true
are_distinct related (row ∷ rows) = not (list_any (related row) rows) && are_distinct related rows

-- all of these
abbrev pub all_of : List Bool → Bool
all_of [] = true
all_of (test ∷ tests) = test && all_of tests

-- no two rows of a kind have the same key
abbrev pub has_distinct_keys : State → Bool
has_distinct_keys s = all_of
    (are_distinct same_pool s.pools
    ∷ are_distinct same_node s.nodes
    ∷ are_distinct same_job s.jobs
    ∷ are_distinct same_task s.tasks
    ∷ are_distinct same_run s.runs
    ∷ are_distinct same_prep s.preps
    ∷ are_distinct same_sample s.samples
    ∷ are_distinct same_scale s.scales
    ∷ [])

-- no number is given twice, and nodes stand in the order of their numbers
abbrev pub has_new_numbers : State → Bool
has_new_numbers s = all_of
    (nat_lt 0 s.next_run
    ∷ list_all (λ (run : RunRow). nat_lt run.number s.next_run) s.runs
    ∷ list_all (λ (node : NodeRow). nat_lt node.number s.next_node) s.nodes
    ∷ list_all (λ (run : RunRow). nat_lt run.node s.next_node) s.runs
    ∷ are_distinct sound.are_out_of_order s.nodes
    ∷ [])

-- tasks fit their stages, and rows that others name are there
abbrev pub has_fitting_rows : State → Bool
has_fitting_rows s = all_of
    (list_all well.has_fitting_marks s.tasks
    ∷ list_all well.is_closed_if_completed s.tasks
    ∷ list_all (λ task. nat_lt task.attempt s.next_run) s.tasks
    ∷ list_all (λ task. well.has_job_row s task.job) s.tasks
    ∷ list_all (well.has_named_job s) s.runs
    ∷ list_all (well.has_named_task s) s.runs
    ∷ are_distinct well.are_one_attempt s.runs
    ∷ [])

-- nodes sit on distinct seats and hold no more slots than their pools have, and runs are where they belong
abbrev pub has_fitting_nodes : State → Bool
has_fitting_nodes s = all_of
    (are_distinct sound.share_seat s.nodes
    ∷ list_all (λ node. is_from_to 1 seat_count node.seat) s.nodes
    ∷ list_all (λ node. well.has_pool_row s node.pool) s.nodes
    ∷ list_all (sound.has_slots_for s) s.nodes
    ∷ list_all (sound.has_node_while_unended s) s.runs
    ∷ list_all (sound.belongs s) s.runs
    ∷ list_all (sound.fits_nodes s) s.runs
    ∷ list_all sound.names_no_task s.runs
    ∷ list_all (λ run. not (is_coordination run.kind && is_unended run.state)) s.runs
    ∷ list_all (sound.can_be_settled s) s.tasks
    ∷ [])

-- values are in their ranges, and moments are past
abbrev pub has_valid_rows : State → Bool
has_valid_rows s = all_of
    (nat_le s.moment last_moment
    ∷ list_all (well.is_pool_valid s.moment) s.pools
    ∷ list_all well.is_node_in_range s.nodes
    ∷ list_all (well.is_job_valid s.moment) s.jobs
    ∷ list_all (well.is_task_valid s.moment) s.tasks
    ∷ list_all (well.is_run_valid s.moment) s.runs
    ∷ list_all (well.is_sample_valid s.moment) s.samples
    ∷ list_all well.is_scale_in_range s.scales
    ∷ [])

-- no more rows than the tables take, and counters in their ranges
abbrev pub has_counts_in_range : State → Bool
has_counts_in_range s = all_of
    (nat_le (length s.pools) pool_limit
    ∷ nat_le (length s.jobs) job_limit
    ∷ nat_le (length s.tasks) task_limit
    ∷ is_from_to 1 (last_number + 1) s.next_node
    ∷ is_from_to 1 (last_number + 64) s.next_run
    ∷ [])

-- quiet jobs place nothing and completed ones rest, and pools, formulas and samples fit each other
abbrev pub has_fitting_pools : State → Bool
has_fitting_pools s = all_of
    (list_all (well.has_no_placed_if_quiet s) s.jobs
    ∷ list_all (sound.is_at_rest s) s.jobs
    ∷ list_all (well.is_deleting_whole s) s.pools
    ∷ list_all (λ (scale : ScaleRow). well.has_pool_row s scale.pool) s.scales
    ∷ list_all (λ (sample : SampleRow). well.has_pool_row s sample.pool) s.samples
    ∷ list_all well.has_label s.samples
    ∷ are_distinct well.are_labels_out_of_order s.samples
    ∷ list_all (well.is_covered s) s.samples
    ∷ list_all (well.has_kept s) s.samples
    ∷ [])

-- the rows fit each other
abbrev pub is_consistent : State → Bool
is_consistent s = has_distinct_keys s && has_new_numbers s && has_fitting_rows s && has_fitting_nodes s

-- the values of the rows are such as the service makes
abbrev pub is_within_limits : State → Bool
is_within_limits s = has_valid_rows s && has_counts_in_range s && has_fitting_pools s

-- usable nodes have begun as their pools ask, and failures of start tasks are few
abbrev pub has_sound_starts : State → Bool
has_sound_starts s = list_all (sound.has_usable_start s) s.nodes && list_all (well.has_few_tries s) s.nodes

-- preparations fit jobs, nodes and runs, and release runs are made once
abbrev pub has_sound_preparations : State → Bool
has_sound_preparations s = all_of
    (list_all (λ (prep : PrepRow). well.has_job_row s prep.job) s.preps
    ∷ list_all (λ (prep : PrepRow). sound.has_node_row s prep.node) s.preps
    ∷ list_all (sound.has_running_prep s) s.runs
    ∷ are_distinct sound.prepare_the_same s.runs
    ∷ list_all (sound.is_prepared_run s) s.runs
    ∷ list_all (sound.has_known_release s) s.runs
    ∷ list_all (well.has_few_preparations s) s.preps
    ∷ [])

-- all of these, and runs that have not ended have no moment at which they ended
abbrev pub is_sound : State → Bool
is_sound s =
    is_consistent s && is_within_limits s && list_all sound.has_no_end_yet s.runs && has_sound_starts s && has_sound_preparations s

-- the tables after due steps to rest, and whether each of these steps was good
pub record Tested : Type 0 where
  pub good : Bool
  pub state : State

abbrev pub with_test : Bool → Tested → Tested
with_test test tested = record { good = test && tested.good; state = tested.state }

-- the tables after the step are sound, and their numbers are below those before
abbrev pub is_good_step : State → DueStep → Bool
is_good_step s step = is_sound step.state && lex_lt (rank step.state) (rank s)

-- due steps to rest, in less than so many
abbrev pub tested_rest : ℕ → State → Tested
tested_rest zero s = record { good = false; state = s }
tested_rest (suc most) s =
    elim (due_step seat_count s) [ None ↦ record { good = true; state = s } | Some step ↦ with_test (is_good_step s step) (tested_rest most step.state) ]

-- each event of the calls leaves sound tables, and good steps to rest follow
abbrev pub are_good_from : State → List Call → Bool
are_good_from s [] = true
are_good_from s (call ∷ calls) =
    let after = (event_step call.moment call.event s).state in
    let tested = tested_rest 40 after in
    is_sound after && tested.good && are_good_from tested.state calls

-- so from empty tables
abbrev pub is_good : List Call → Bool
is_good calls = are_good_from empty_state calls

-- the tables that the earlier calls leave are sound once they are opened, and the calls are good from there
abbrev pub is_good_opened : List Call → List Call → Bool
is_good_opened earlier calls = is_sound (opening (state_after earlier)) && are_good_from (opening (state_after earlier)) calls
