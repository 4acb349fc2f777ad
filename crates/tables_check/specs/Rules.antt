-- The rules of well-formed tables, each as a test.
use Rattle.std.specs.Prelude.{Bool, ◌+◌, ◌&&◌, nat_lt, nat_le, length}
use Rattle.std.specs.List.{list_all}
use Rattle.bt_base.specs.Moments.{last_moment}
use Rattle.bt_rows.specs.Keys.{same_pool, same_node, same_job, same_task, same_run, same_prep, same_sample, same_scale}
use Rattle.row_keys.specs.Passes.{are_distinct}
use Rattle.batch_model.specs.Finding.{last_number}
use Rattle.batch_model.specs.Limits.{pool_limit, job_limit, task_limit}
use Rattle.batch_model.specs.WellFormed.{is_pool_valid, is_node_in_range, is_job_valid, is_task_valid, is_run_valid, is_sample_valid, is_scale_in_range}
use Rattle.batch_model.specs.WellFormed.{has_fitting_marks, is_closed_if_completed, has_few_tries, has_few_preparations}
use Rattle.batch_model.specs.WellFormed.{has_pool_row, has_job_row, has_named_job, has_named_task, are_one_attempt, has_no_placed_if_quiet}
use Rattle.batch_model.specs.WellFormed.{is_deleting_whole, has_label, are_labels_out_of_order, is_covered, has_kept}
use Rattle.batch_model.specs.Variants.{State, NodeRow, TaskRow, RunRow, PrepRow, SampleRow, ScaleRow}

abbrev pub keys_are_distinct : State → Bool
keys_are_distinct s =
    (are_distinct same_pool s.pools && (are_distinct same_node s.nodes && (are_distinct same_job s.jobs && are_distinct same_task s.tasks)))
    && (are_distinct same_run s.runs && (are_distinct same_prep s.preps && (are_distinct same_sample s.samples && are_distinct same_scale s.scales)))

abbrev pub rows_are_valid : State → Bool
rows_are_valid s =
    (nat_le s.moment last_moment
    && (list_all (is_pool_valid s.moment) s.pools && (list_all is_node_in_range s.nodes && list_all (is_job_valid s.moment) s.jobs)))
    && (list_all (is_task_valid s.moment) s.tasks
    && (list_all (is_run_valid s.moment) s.runs && (list_all (is_sample_valid s.moment) s.samples && list_all is_scale_in_range s.scales)))

abbrev pub counts_are_in_range : State → Bool
counts_are_in_range s =
    (nat_le (length s.pools) pool_limit && (nat_le (length s.jobs) job_limit && nat_le (length s.tasks) task_limit))
    && ((nat_le 1 s.next_node && nat_le s.next_node (last_number + 1)) && (nat_le 1 s.next_run && nat_le s.next_run (last_number + 64)))

abbrev pub counters_are_above : State → Bool
counters_are_above s =
    (list_all (λ (run : RunRow). nat_lt run.number s.next_run) s.runs && list_all (λ (node : NodeRow). nat_lt node.number s.next_node) s.nodes)
    && (list_all (λ (run : RunRow). nat_lt run.node s.next_node) s.runs && list_all (λ (prep : PrepRow). nat_lt prep.node s.next_node) s.preps)

abbrev pub tasks_are_fitting : State → Bool
tasks_are_fitting s =
    list_all has_fitting_marks s.tasks
    && (list_all is_closed_if_completed s.tasks && list_all (λ (task : TaskRow). nat_lt task.attempt s.next_run) s.tasks)

abbrev pub tries_are_below : State → Bool
tries_are_below s = list_all (has_few_tries s) s.nodes && list_all (has_few_preparations s) s.preps

abbrev pub named_rows_are_there : State → Bool
named_rows_are_there s =
    (list_all (λ (task : TaskRow). has_job_row s task.job) s.tasks && list_all (has_named_job s) s.runs)
    && (list_all (has_named_task s) s.runs && are_distinct are_one_attempt s.runs)

abbrev pub quiet_jobs_place_nothing : State → Bool
quiet_jobs_place_nothing s = list_all (has_no_placed_if_quiet s) s.jobs

abbrev pub pools_are_fitting : State → Bool
pools_are_fitting s =
    (list_all (is_deleting_whole s) s.pools
    && (list_all (λ (scale : ScaleRow). has_pool_row s scale.pool) s.scales && list_all (λ (sample : SampleRow). has_pool_row s sample.pool) s.samples))
    && ((list_all has_label s.samples && are_distinct are_labels_out_of_order s.samples)
    && (list_all (is_covered s) s.samples && list_all (has_kept s) s.samples))

-- all of these
abbrev pub is_well_formed : State → Bool
is_well_formed s =
    (keys_are_distinct s && (rows_are_valid s && (counts_are_in_range s && (counters_are_above s && tasks_are_fitting s))))
    && (tries_are_below s && (named_rows_are_there s && (quiet_jobs_place_nothing s && pools_are_fitting s)))
