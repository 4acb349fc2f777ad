-- The ranges of values that come from outside.
use Rattle.std.specs.Prelude.{ℕ, ◌^◌, Bool, true, false, not, ◌&&◌, ◌||◌, nat_eq, nat_lt, nat_le, int_le, ℤ, pos, negsuc, List, [], ◌∷◌, length, Option, is_some, is_none}
use Rattle.std.specs.Option.{option_map_or}
use Rattle.std.specs.List.{list_all}
use Rattle.bt_rows.specs.declared.limits.TheConstants.{DEPENDENCY_RANGE_LIMIT, TARGET_LIMIT, SLOT_LIMIT, INSTANCE_LIMIT, RETRY_LIMIT, LEAST_PRIORITY, GREATEST_PRIORITY, DURATION_LIMIT, LEAST_RESIZE_TIMEOUT, GREATEST_RESIZE_TIMEOUT}
use Rattle.bt_rows.specs.declared.limits.TheConstants.{LEAST_INTERVAL, GREATEST_INTERVAL, RELEASE_TIME_LIMIT, FORMULA_LIMIT, REASON_LIMIT}
use Rattle.bt_rows.specs.declared.pool.StartTask.{StartTask}
use Rattle.bt_rows.specs.declared.job.ReleaseTask.{ReleaseTask}
use Rattle.bt_rows.specs.declared.task.Multi.{Multi}
use Rattle.bt_rows.specs.declared.event.Scaling.{Scaling}
use Rattle.bt_rows.specs.declared.event.PoolSpec.{PoolSpec}
use Rattle.bt_rows.specs.declared.event.ResizeSpec.{ResizeSpec}
use Rattle.bt_rows.specs.declared.event.ScaleSpec.{ScaleSpec}
use Rattle.bt_rows.specs.declared.event.JobSpec.{JobSpec}
use Rattle.bt_rows.specs.declared.event.Limits.{Limits}
use Rattle.bt_rows.specs.declared.event.JobPatch.{JobPatch}
use Rattle.bt_rows.specs.declared.event.TaskSpec.{TaskSpec}
use Rattle.bt_rows.specs.declared.event.EventKind.{EventKind}
use Rattle.bt_rows.specs.declared.event.EventKind.TheVariants.{AddPool, DeletePool, Resize, StopResize, EnableAutoscale, DisableAutoscale, EvaluateAutoscale, AddJob, PatchJob, DisableJob, EnableJob, TerminateJob, DeleteJob, AddTask, AddTasks, DeleteTask, TerminateTask, ReactivateTask, Take, End, Sample, Tick}

-- from the least to the greatest
abbrev pub is_from_to : ℕ → ℕ → ℕ → Bool
is_from_to least greatest n = nat_le least n && nat_le n greatest

-- from the least to the greatest
abbrev pub is_int_from_to : ℤ → ℤ → ℤ → Bool
is_int_from_to least greatest n = int_le least n && int_le n greatest

-- if there is a value it passes
abbrev pub passes_if_some : {A : Type 0} → (A → Bool) → Option A → Bool
passes_if_some test value = option_map_or test value true

-- at most 36,500 days, in milliseconds
abbrev pub is_duration : ℕ → Bool
is_duration span = nat_le span DURATION_LIMIT

-- -1 for no limit, and at most a million
abbrev pub is_retry_limit : ℤ → Bool
is_retry_limit n = is_int_from_to (negsuc 0) RETRY_LIMIT n

-- from 5 minutes to 10 days
abbrev pub is_resize_timeout : ℕ → Bool
is_resize_timeout span = is_from_to LEAST_RESIZE_TIMEOUT GREATEST_RESIZE_TIMEOUT span

-- at most 1,000 nodes
abbrev pub is_target : ℕ → Bool
is_target n = nat_le n TARGET_LIMIT

-- 1 to 8 slots
abbrev pub is_slot_count : ℕ → Bool
is_slot_count n = is_from_to 1 SLOT_LIMIT n

-- from 5 minutes to 168 hours
abbrev pub is_interval : ℕ → Bool
is_interval span = is_from_to LEAST_INTERVAL GREATEST_INTERVAL span

-- at most 8,192 bytes
abbrev pub is_formula_text : List ℕ → Bool
is_formula_text text = nat_le (length text) FORMULA_LIMIT

-- a start or preparation task
abbrev pub is_start_in_range : StartTask → Bool
is_start_in_range start = is_retry_limit start.retries

-- a formula and its interval
abbrev pub is_scaling_in_range : Scaling → Bool
is_scaling_in_range scaling = is_formula_text scaling.formula && is_interval scaling.interval

-- 1 to 8 slots, at most 1,000 nodes, none of low priority, and none at first if the pool scales automatically
abbrev pub is_pool_spec_in_range : PoolSpec → Bool
is_pool_spec_in_range spec =
    is_target spec.dedicated && nat_eq spec.low 0 && is_slot_count spec.slots && is_resize_timeout spec.timeout
    && passes_if_some is_start_in_range spec.start && passes_if_some is_scaling_in_range spec.scale
    && (is_none spec.scale || nat_eq spec.dedicated 0)

-- the targets of a resize, one of which is given
abbrev pub is_resize_spec_in_range : ResizeSpec → Bool
is_resize_spec_in_range spec =
    passes_if_some is_target spec.dedicated && passes_if_some (nat_eq 0) spec.low && is_resize_timeout spec.timeout
    && (is_some spec.dedicated || is_some spec.low)

-- a formula and an interval, if they are given
abbrev pub is_scale_spec_in_range : ScaleSpec → Bool
is_scale_spec_in_range spec = passes_if_some is_formula_text spec.formula && passes_if_some is_interval spec.interval

-- -1,000 to 1,000
abbrev pub is_priority : ℤ → Bool
is_priority n = is_int_from_to LEAST_PRIORITY GREATEST_PRIORITY n

-- -1 for no limit of placed tasks, or a number from 1 on
abbrev pub is_parallel : ℤ → Bool
is_parallel n = is_int_from_to (negsuc 0) (pos 2147483647) n && not (int_le n (pos 0) && int_le (pos 0) n)

-- at most 15 minutes
abbrev pub is_release_in_range : ReleaseTask → Bool
is_release_in_range release = nat_le release.wall RELEASE_TIME_LIMIT

-- a release task comes with a preparation task only
abbrev pub is_job_spec_in_range : JobSpec → Bool
is_job_spec_in_range spec =
    is_priority spec.priority && is_parallel spec.parallel && is_retry_limit spec.retries && passes_if_some is_duration spec.wall
    && passes_if_some is_start_in_range spec.prep && passes_if_some is_release_in_range spec.release
    && (is_none spec.release || is_some spec.prep)

-- the limits of a job
abbrev pub are_limits_in_range : Limits → Bool
are_limits_in_range limits = is_retry_limit limits.retries && passes_if_some is_duration limits.wall

-- the values that are given
abbrev pub is_patch_in_range : JobPatch → Bool
is_patch_in_range patch =
    passes_if_some is_priority patch.priority && passes_if_some is_parallel patch.parallel && passes_if_some are_limits_in_range patch.limits

-- the bytes begin a character from U+0080 to U+009F, whose first is 194
abbrev pub begins_control : ℕ → List ℕ → Bool
begins_control byte [] = false
begins_control byte (next ∷ bytes) = nat_eq byte 194 && nat_lt next 160

-- the text has a control character: one below U+0020, U+007F, or one from U+0080 to U+009F
abbrev pub has_control : List ℕ → Bool
has_control [] = false
has_control (byte ∷ bytes) = nat_lt byte 32 || nat_eq byte 127 || begins_control byte bytes || has_control bytes

-- 1 to 256 bytes, without control characters
abbrev pub is_reason : List ℕ → Bool
is_reason reason = is_from_to 1 REASON_LIMIT (length reason) && not (has_control reason)

-- from a number to one that is not below it
abbrev pub is_span_in_range : ℕ × ℕ → Bool
is_span_in_range span = nat_le span.0 span.1 && nat_lt span.1 (2 ^ 32)

-- 1 to 32 instances
abbrev pub is_multi_in_range : Multi → Bool
is_multi_in_range multi = is_from_to 1 INSTANCE_LIMIT multi.count

-- 1 to 8 slots, and at most 64 ranges; how many ids a task may name is the job's to refuse
abbrev pub is_task_spec_in_range : TaskSpec → Bool
is_task_spec_in_range spec =
    is_slot_count spec.slots && passes_if_some is_retry_limit spec.retries && passes_if_some is_duration spec.wall
    && passes_if_some is_duration spec.retention && passes_if_some is_multi_in_range spec.multi
    && nat_le (length spec.spans) DEPENDENCY_RANGE_LIMIT && list_all is_span_in_range spec.spans

-- a percentage, in millionths
abbrev pub is_percentage : ℤ → Bool
is_percentage n = is_int_from_to (pos 0) (pos 100000000) n

-- the values of an event are in their ranges
abbrev pub is_event_in_range : EventKind → Bool
is_event_in_range (AddPool spec) = is_pool_spec_in_range spec
is_event_in_range (DeletePool pool) = true
is_event_in_range (Resize pool spec) = is_resize_spec_in_range spec
is_event_in_range (StopResize pool) = true
is_event_in_range (EnableAutoscale pool spec) = is_scale_spec_in_range spec
is_event_in_range (DisableAutoscale pool) = true
is_event_in_range (EvaluateAutoscale pool formula) = is_formula_text formula
is_event_in_range (AddJob job spec) = is_job_spec_in_range spec
is_event_in_range (PatchJob job patch) = is_patch_in_range patch
is_event_in_range (DisableJob job option) = true
is_event_in_range (EnableJob job) = true
is_event_in_range (TerminateJob job reason) = passes_if_some is_reason reason
is_event_in_range (DeleteJob job) = true
is_event_in_range (AddTask job spec) = is_task_spec_in_range spec
is_event_in_range (AddTasks job specs) = list_all is_task_spec_in_range specs
is_event_in_range (DeleteTask job task) = true
is_event_in_range (TerminateTask job task) = true
is_event_in_range (ReactivateTask job task) = true
is_event_in_range (Take run) = true
is_event_in_range (End run ending) = true
is_event_in_range (Sample pool percentage) = is_percentage percentage
is_event_in_range Tick = true
