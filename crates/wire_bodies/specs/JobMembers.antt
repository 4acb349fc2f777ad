-- Members that the bodies of `add-job` and `patch-job` share. Each is None if it is absent.
use Rattle.std.specs.Prelude.{ℤ, pos, negsuc, Bool, Option, Some, None, Result, Ok, Err, option_map, if◌then◌else◌}
use Rattle.serde_json.specs.Data.{Data}
use Rattle.bt_base.specs.Fails.{◌>>=◌}
use Rattle.bt_rows.specs.declared.limits.TheConstants.{LEAST_PRIORITY, GREATEST_PRIORITY, RETRY_LIMIT}
use Rattle.bt_rows.specs.declared.member.Member.TheVariants as names
use Rattle.bt_rows.specs.declared.event.Limits.{Limits}
use Rattle.bt_rows.specs.declared.refusal.Refusal.{Refusal}
use Rattle.bt_rows.specs.declared.refusal.Refusal.TheVariants.{InvalidPropertyValue}
use Rattle.bt_rows.specs.Ranges.{passes_if_some, is_parallel}
use Rattle.wire_members.specs.Durations.{duration_member}
use Rattle.wire_members.specs.Members.{signed_if, signed_member, word_if, object_member}
use Rattle.wire_members.specs.Words.{all_tasks_word, failure_word, is_terminating, is_performing}

-- a priority, -1,000 to 1,000
abbrev pub priority_if : Data → Result (Option ℤ) Refusal
priority_if d = signed_if (Some d) names.Priority LEAST_PRIORITY GREATEST_PRIORITY

-- 0 is refused
abbrev pub unless_zero : Option ℤ → Result (Option ℤ) Refusal
unless_zero limit = if passes_if_some is_parallel limit then Ok limit else Err (InvalidPropertyValue names.MaxParallelTasks)

-- the greatest number of placed tasks, 1 to 2,147,483,647, or -1 for no limit
unfoldable pub parallel_if : Data → Result (Option ℤ) Refusal
parallel_if d = do
  limit ← signed_if (Some d) names.MaxParallelTasks (negsuc 0) (pos 2147483647)
  unless_zero limit

-- the limits that the members of an object are: a wall time, by default none, and retries, by default none
unfoldable pub limits_in : Data → Result Limits Refusal
limits_in d = do
  wall ← duration_member (Some d) names.MaxWallClockTime None
  retries ← signed_member (Some d) names.MaxTaskRetryCount (negsuc 0) RETRY_LIMIT (pos 0)
  Ok (record { retries = retries; wall = wall })

-- limits, if their object is there
unfoldable pub limits_of : Option Data → Result (Option Limits) Refusal
limits_of None = Ok None
limits_of (Some d) = do
  limits ← limits_in d
  Ok (Some limits)

-- the limits of the job
unfoldable pub limits_if : Data → Result (Option Limits) Refusal
limits_if d = do
  part ← object_member (Some d) names.Constraints
  limits_of part

-- whether the job is terminated once all its tasks are completed
unfoldable pub on_all_if : Data → Result (Option Bool) Refusal
on_all_if d = do
  action ← word_if all_tasks_word (Some d) names.OnAllTasksComplete
  Ok (option_map is_terminating action)

-- whether the job takes the actions of its tasks' exit options
unfoldable pub on_fail_if : Data → Result (Option Bool) Refusal
on_fail_if d = do
  action ← word_if failure_word (Some d) names.OnTaskFailure
  Ok (option_map is_performing action)
