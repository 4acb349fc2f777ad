-- Well-formed tables: what a keeper may load, and what every step leaves. Each part has a name of its own.
-- Source: this project's own.
use Rattle.std.specs.Prelude.{ℕ, ◌+◌, ◌%◌, ◌≤◌, Bool, true, false, not, ◌&&◌, ◌||◌, nat_eq, nat_lt, nat_le, List, length, count_by, sum_by, Option, is_some}
use Rattle.std.specs.Prelude.{is_none}
use Rattle.std.specs.Option.{option_map_or}
use Rattle.std.specs.List.{list_any, list_all}
use Rattle.bt_base.specs.Ids.{same}
use Rattle.bt_base.specs.Moments.{last_moment}
use Rattle.bt_rows.specs.declared.limits.TheConstants.{DEPENDENCY_RANGE_LIMIT}
use Rattle.bt_rows.specs.Lists.{AreDistinct}
use Rattle.bt_rows.specs.Keys.{same_pool, same_node, same_job, same_task, same_run, same_prep, same_sample, same_scale}
use Rattle.bt_rows.specs.Metrics.{same_metric}
use Rattle.bt_rows.specs.Ranges.{is_from_to, passes_if_some, is_duration, is_retry_limit, is_resize_timeout, is_target, is_slot_count, is_interval}
use Rattle.bt_rows.specs.Ranges.{is_formula_text, is_start_in_range, is_priority, is_parallel, is_release_in_range, is_reason, is_span_in_range}
use Rattle.bt_rows.specs.Ranges.{is_multi_in_range, is_percentage}
use Rattle.batch_model.specs.Finding.{Each, names, last_number}
use Rattle.batch_model.specs.Rows.{is_pool, is_job}
use Rattle.batch_model.specs.Runs.{is_unended, is_start, is_preparation, is_main, is_run_of_task}
use Rattle.batch_model.specs.Tasks.{is_placed, is_completed, is_placed_in, is_undisturbed}
use Rattle.batch_model.specs.Jobs.{is_quiet}
use Rattle.batch_model.specs.Pools.{is_resizing}
use Rattle.batch_model.specs.Samples.{sample_limit, samples_of, newest_label}
use Rattle.batch_model.specs.Limits.{seat_limit, pool_limit, job_limit, task_limit, needs_limit}
use Rattle.batch_model.specs.Variants.{State, PoolRow, NodeRow, JobRow, TaskRow, Closed, RunRow, PrepRow, CpuPercent, ActiveTasks, SampleRow, ScaleRow}

-- no two rows of a kind have the same key
pub record KeysAreDistinct (s : State) : Type 0 where
  pub pools : AreDistinct same_pool s.pools
  pub nodes : AreDistinct same_node s.nodes
  pub jobs : AreDistinct same_job s.jobs
  pub tasks : AreDistinct same_task s.tasks
  pub runs : AreDistinct same_run s.runs
  pub preps : AreDistinct same_prep s.preps
  pub samples : AreDistinct same_sample s.samples
  pub scales : AreDistinct same_scale s.scales

-- values in their ranges; that ids and command lines are such is a fact of their types

-- 1 to 8 slots, at most 1,000 nodes, and none of low priority
abbrev pub is_pool_in_range : PoolRow → Bool
is_pool_in_range pool =
    is_slot_count pool.slots && is_target pool.dedicated && nat_eq pool.low 0
    && is_resize_timeout pool.usual_timeout && is_resize_timeout pool.timeout && passes_if_some is_start_in_range pool.start

-- numbers of nodes begin at 1
abbrev pub is_node_number : ℕ → Bool
is_node_number number = is_from_to 1 last_number number

-- on one of the 32 seats that a machine may have
abbrev pub is_node_in_range : NodeRow → Bool
is_node_in_range node = is_node_number node.number && is_from_to 1 seat_limit node.seat

-- a release task comes with a preparation task only
abbrev pub is_job_in_range : JobRow → Bool
is_job_in_range job =
    is_priority job.priority && is_parallel job.parallel && is_retry_limit job.retries && passes_if_some is_duration job.wall
    && passes_if_some is_start_in_range job.prep && passes_if_some is_release_in_range job.release
    && (is_none job.release || is_some job.prep) && passes_if_some is_reason job.reason

-- how many characters the ids that a task depends on have together
abbrev pub needs_length : List (List ℕ) → ℕ
needs_length needs = sum_by length needs

-- 1 to 8 slots, and dependencies within their limits
abbrev pub is_task_in_range : TaskRow → Bool
is_task_in_range task =
    is_slot_count task.slots && passes_if_some is_retry_limit task.retries && passes_if_some is_duration task.wall
    && passes_if_some is_duration task.retention && passes_if_some is_multi_in_range task.multi
    && nat_le (needs_length task.needs) needs_limit && nat_le (length task.spans) DEPENDENCY_RANGE_LIMIT && list_all is_span_in_range task.spans

-- a placing that begins at the last number may end 63 above it
abbrev pub is_run_in_range : RunRow → Bool
is_run_in_range run = is_from_to 1 (last_number + 63) run.number && nat_le run.slots 8 && is_node_number run.node

-- at most 8,192 bytes, evaluated every 5 minutes to every 168 hours
abbrev pub is_scale_in_range : ScaleRow → Bool
is_scale_in_range scale = is_formula_text scale.formula && is_interval scale.interval

-- the processors' metric is a percentage
abbrev pub is_sample_in_range : SampleRow → Bool
is_sample_in_range sample = not (same_metric sample.metric CpuPercent) || is_percentage sample.value

-- no moment of a row is after the last one, but for those at which formulas are next evaluated

-- not after now, if there is a moment
abbrev pub is_past_if_some : ℕ → Option ℕ → Bool
is_past_if_some now at = passes_if_some (λ moment. nat_le moment now) at

-- the beginning of its resize, and the last call that made it scale
abbrev pub is_pool_past : ℕ → PoolRow → Bool
is_pool_past now pool = nat_le pool.began now && is_past_if_some now pool.enabled

-- closed not after now
abbrev pub is_closed_past : ℕ → Closed → Bool
is_closed_past now closed = nat_le closed.at now

-- started and closed not after now
abbrev pub is_task_past : ℕ → TaskRow → Bool
is_task_past now task = is_past_if_some now task.started && passes_if_some (is_closed_past now) task.closed

-- made, taken and ended not after now
abbrev pub is_run_past : ℕ → RunRow → Bool
is_run_past now run = nat_le run.made now && is_past_if_some now run.taken && is_past_if_some now run.ended

-- made and taken not after it ended
abbrev pub is_ended_in_order : RunRow → ℕ → Bool
is_ended_in_order run ended = nat_le run.made ended && is_past_if_some ended run.taken

-- made, then taken, then ended
abbrev pub is_run_in_order : RunRow → Bool
is_run_in_order run = passes_if_some (nat_le run.made) run.taken && passes_if_some (is_ended_in_order run) run.ended

-- a task fails at most once in each attempt, and in the present one not yet
abbrev pub has_fitting_failures : TaskRow → Bool
has_fitting_failures task = nat_le task.failures task.attempt && not (is_placed task.stage && nat_le task.attempt task.failures)

-- each row is so, at the last moment

abbrev pub is_pool_valid : ℕ → PoolRow → Bool
is_pool_valid now pool = is_pool_in_range pool && is_pool_past now pool

abbrev pub is_job_valid : ℕ → JobRow → Bool
is_job_valid now job = is_job_in_range job && nat_le job.created now

abbrev pub is_task_valid : ℕ → TaskRow → Bool
is_task_valid now task = is_task_in_range task && is_task_past now task && has_fitting_failures task

abbrev pub is_run_valid : ℕ → RunRow → Bool
is_run_valid now run = is_run_in_range run && is_run_past now run && is_run_in_order run

abbrev pub is_sample_valid : ℕ → SampleRow → Bool
is_sample_valid now sample = is_sample_in_range sample && nat_le sample.label now

-- values are in their ranges, and moments are past
pub record RowsAreValid (s : State) : Type 0 where
  pub moment : s.moment ≤ last_moment
  pub pools : Each (is_pool_valid s.moment) s.pools
  pub nodes : Each is_node_in_range s.nodes
  pub jobs : Each (is_job_valid s.moment) s.jobs
  pub tasks : Each (is_task_valid s.moment) s.tasks
  pub runs : Each (is_run_valid s.moment) s.runs
  pub samples : Each (is_sample_valid s.moment) s.samples
  pub scales : Each is_scale_in_range s.scales

-- tables hold no more rows than they take, and counters are from 1 to just above the greatest numbers
pub record CountsAreInRange (s : State) : Type 0 where
  pub pools : length s.pools ≤ pool_limit
  pub jobs : length s.jobs ≤ job_limit
  pub tasks : length s.tasks ≤ task_limit
  pub first_node : 1 ≤ s.next_node
  pub next_node : s.next_node ≤ last_number + 1
  pub first_run : 1 ≤ s.next_run
  pub next_run : s.next_run ≤ last_number + 64

-- no number is given twice
pub record CountersAreAbove (s : State) : Type 0 where
  pub runs : Each (λ run. nat_lt run.number s.next_run) s.runs
  pub nodes : Each (λ node. nat_lt node.number s.next_node) s.nodes
  pub nodes_of_runs : Each (λ run. nat_lt run.node s.next_node) s.runs
  pub nodes_of_preps : Each (λ prep. nat_lt prep.node s.next_node) s.preps

-- tasks

-- only a placed task has a wanted end, an ending in place of its main command's, or a moment at which it started
abbrev pub has_fitting_marks : TaskRow → Bool
has_fitting_marks task = is_placed task.stage || (is_undisturbed task && is_none task.started)

-- exactly a completed task is closed
abbrev pub is_closed_if_completed : TaskRow → Bool
is_closed_if_completed task = (is_completed task.stage && is_some task.closed) || (not (is_completed task.stage) && is_none task.closed)

-- marks and closing fit the stage, and fewer attempts than runs were made
pub record TasksAreFitting (s : State) : Type 0 where
  pub marks : Each has_fitting_marks s.tasks
  pub closing : Each is_closed_if_completed s.tasks
  pub attempts : Each (λ task. nat_lt task.attempt s.next_run) s.tasks

-- failures of start and preparation tasks are fewer than the runs that were made

-- an unended start run on the node
abbrev pub is_unended_start_on : ℕ → RunRow → Bool
is_unended_start_on node run = is_start run.kind && is_unended run.state && nat_eq run.node node

-- failures and unended start runs of a node together
abbrev pub has_few_tries : State → NodeRow → Bool
has_few_tries s node = nat_lt (node.tries + count_by (is_unended_start_on node.number) s.runs) s.next_run

-- an unended preparation run of the row's job on its node
abbrev pub is_preparing : PrepRow → RunRow → Bool
is_preparing prep run = is_preparation run.kind && is_unended run.state && names run.job prep.job && nat_eq run.node prep.node

-- failures and unended runs of a preparation together
abbrev pub has_few_preparations : State → PrepRow → Bool
has_few_preparations s prep = nat_lt (prep.tries + count_by (is_preparing prep) s.runs) s.next_run

-- both of these
pub record TriesAreBelow (s : State) : Type 0 where
  pub nodes : Each (has_few_tries s) s.nodes
  pub preps : Each (has_few_preparations s) s.preps

-- rows that others name

-- the pool has a row
abbrev pub has_pool_row : State → List ℕ → Bool
has_pool_row s pool = list_any (is_pool pool) s.pools

-- the job has a row
abbrev pub has_job_row : State → List ℕ → Bool
has_job_row s job = list_any (is_job job) s.jobs

-- the job that the run names has a row, if it names one
abbrev pub has_named_job : State → RunRow → Bool
has_named_job s run = option_map_or (has_job_row s) run.job true

-- the task of the run, among whose attempts the run's is
abbrev pub is_task_of_attempt : RunRow → TaskRow → Bool
is_task_of_attempt run task = is_run_of_task task.job task.id run && nat_le run.attempt task.attempt

-- the task that the run names has a row, among whose attempts the run's is, if it names one
abbrev pub has_named_task : State → RunRow → Bool
has_named_task s run = is_none run.task || list_any (is_task_of_attempt run) s.tasks

-- the run names this job and this task
abbrev pub names_the_same : RunRow → RunRow → Bool
names_the_same run other = option_map_or (names run.job) other.job false && option_map_or (names run.task) other.task false

-- two main runs of the same attempt of a task
abbrev pub are_one_attempt : RunRow → RunRow → Bool
are_one_attempt run other = is_main run.kind && is_main other.kind && nat_eq run.attempt other.attempt && names_the_same run other

-- rows that others name have rows, and an attempt has one main run
pub record NamedRowsAreThere (s : State) : Type 0 where
  pub jobs_of_tasks : Each (λ task. has_job_row s task.job) s.tasks
  pub jobs_of_runs : Each (has_named_job s) s.runs
  pub tasks_of_runs : Each (has_named_task s) s.runs
  pub main_runs : AreDistinct are_one_attempt s.runs

-- no task of the job is placed, if the job is disabled, enabling or completed
abbrev pub has_no_placed_if_quiet : State → JobRow → Bool
has_no_placed_if_quiet s job = not (is_quiet job.state && list_any (is_placed_in job.id) s.tasks)

-- a disabled, enabling or completed job has no placed task
abbrev pub QuietJobsPlaceNothing : State → Type 0
QuietJobsPlaceNothing s = Each (has_no_placed_if_quiet s) s.jobs

-- pools and their samples

-- the pool scales automatically
abbrev pub scales : State → List ℕ → Bool
scales s pool = list_any (λ (scale : ScaleRow). same scale.pool pool) s.scales

-- a pool that is being deleted resizes to nothing and does not scale
abbrev pub is_deleting_whole : State → PoolRow → Bool
is_deleting_whole s pool = not pool.deleting || (is_resizing pool.alloc && nat_eq pool.dedicated 0 && nat_eq pool.low 0 && not (scales s pool.id))

-- of one pool and metric, in the wrong order
abbrev pub are_labels_out_of_order : SampleRow → SampleRow → Bool
are_labels_out_of_order sample later = same sample.pool later.pool && same_metric sample.metric later.metric && nat_le later.label sample.label

-- a sample of another metric than the processors' is not above the newest label of the active tasks
abbrev pub is_covered : State → SampleRow → Bool
is_covered s sample = same_metric sample.metric CpuPercent || option_map_or (nat_le sample.label) (newest_label s sample.pool ActiveTasks) false

-- a label is a multiple of 30 seconds
abbrev pub has_label : SampleRow → Bool
has_label sample = nat_eq (sample.label % 30000) 0

-- no more samples of its pool and metric are kept than the limit
abbrev pub has_kept : State → SampleRow → Bool
has_kept s sample = nat_le (length (samples_of s sample.pool sample.metric)) sample_limit

-- pools that are being deleted, and what formulas and samples name
pub record PoolsAreFitting (s : State) : Type 0 where
  pub deleting : Each (is_deleting_whole s) s.pools
  pub pools_of_scales : Each (λ (scale : ScaleRow). has_pool_row s scale.pool) s.scales
  pub pools_of_samples : Each (λ (sample : SampleRow). has_pool_row s sample.pool) s.samples
  pub labels : Each has_label s.samples
  pub order : AreDistinct are_labels_out_of_order s.samples
  pub covered : Each (is_covered s) s.samples
  pub kept : Each (has_kept s) s.samples

-- all of these
pub record IsWellFormed (s : State) : Type 0 where
  pub keys : KeysAreDistinct s
  pub rows : RowsAreValid s
  pub counts : CountsAreInRange s
  pub counters : CountersAreAbove s
  pub fitting : TasksAreFitting s
  pub tries : TriesAreBelow s
  pub named : NamedRowsAreThere s
  pub quiet : QuietJobsPlaceNothing s
  pub pools : PoolsAreFitting s
