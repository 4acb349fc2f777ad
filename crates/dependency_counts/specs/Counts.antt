-- What contracts see of the live tasks of a job, in the order of adding, and the tables that their dependencies are counted in.
use Rattle.std.specs.Prelude.{ℕ, ◌+◌, Bool, true, false, not, ◌&&◌, nat_eq, nat_lt, nat_le, List, [], ◌∷◌, ◌++◌, length, filter, map, drop}
use Rattle.std.specs.Prelude.{Option, Some, None, if◌then◌else◌}
use Rattle.std.specs.Option.{option_map, option_map_or}
use Rattle.std.specs.List.{find, list_any, list_all, position}
use Rattle.bt_base.specs.Ids.{same}
use Rattle.bt_rows.specs.declared.limits.TheConstants.{DEPENDENCY_RANGE_LIMIT}
use Rattle.batch_model.specs.Finding.{change_where}
use Rattle.batch_model.specs.Readiness.{is_unblocked, waiting_count}
use Rattle.batch_model.specs.Variants.{State, empty_state, TaskRow, Active, Completed, Closed, ByTermination}
-- a live task is a task with its key, and with whether it satisfies the tasks that depend on it
pub use Rattle.dependency_counts.specs.declared.live.Live.{Live}
pub use Rattle.dependency_counts.specs.declared.live.CountKey.{CountKey}

-- the tables of live tasks

-- an end that satisfies
abbrev pub satisfying_end : Closed
satisfying_end = record { how = ByTermination; success = false; satisfies = true; at = 0 }

-- the task as a table has it: completed if it satisfies, and otherwise active
abbrev pub counted : Live → TaskRow
counted live = record live.task {
  stage = if live.satisfies then Completed else Active;
  closed = if live.satisfies then Some satisfying_end else None;
}

-- tables with just these tasks
abbrev pub state_of : List Live → State
state_of lives = record empty_state { tasks = map counted lives }

-- the live task with a key

abbrev pub has_key : CountKey → Live → Bool
has_key key live = nat_eq live.key.number key.number

-- the key is one of a live task
abbrev pub is_live : List Live → CountKey → Bool
is_live lives key = list_any (has_key key) lives

-- the number of ids, and of numbers of ranges, that the task names and that are not satisfied
abbrev pub waiting_at : List Live → CountKey → ℕ
waiting_at lives key = option_map_or (λ (live : Live). waiting_count (state_of lives) live.task) (find (has_key key) lives) 0

-- all that the task names is satisfied
abbrev pub is_unblocked_in : List Live → Live → Bool
is_unblocked_in lives live = is_unblocked (state_of lives) live.task

abbrev pub is_ready_at : List Live → CountKey → Bool
is_ready_at lives key = option_map_or (is_unblocked_in lives) (find (has_key key) lives) false

-- the tasks that were added after the one with the key
abbrev pub after_key : CountKey → List Live → List Live
after_key key lives = option_map_or (λ place. drop (place + 1) lives) (position (has_key key) lives) []

-- the tasks after the one with the key, or all of them without one
abbrev pub after : Option CountKey → List Live → List Live
after None lives = lives
after (Some key) lives = after_key key lives

-- the first ready task after the one with the key
abbrev pub first_ready : List Live → Option CountKey → Option CountKey
first_ready lives key = option_map (λ (live : Live). live.key) (find (is_unblocked_in lives) (after key lives))

-- which tasks may be added

-- each live task is of the job
abbrev pub are_of_job : List Live → List ℕ → Bool
are_of_job lives job = list_all (λ (live : Live). same live.task.job job) lives

-- a live task has the id
abbrev pub has_id : List Live → List ℕ → Bool
has_id lives id = list_any (λ (live : Live). same live.task.id id) lives

-- the task names no more ranges than a task may
abbrev pub has_few_ranges : TaskRow → Bool
has_few_ranges task = nat_le (length task.spans) DEPENDENCY_RANGE_LIMIT

-- the key comes after those of the live tasks
abbrev pub is_below : ℕ → Live → Bool
is_below number live = nat_lt live.key.number number

abbrev pub is_new : List Live → CountKey → Bool
is_new lives key = list_all (is_below key.number) lives

-- the live tasks after each call

abbrev pub with_task : List Live → CountKey → TaskRow → List Live
with_task lives number row = lives ++ record { key = number; task = row; satisfies = false } ∷ []

abbrev pub without_task : List Live → CountKey → List Live
without_task lives key = filter (λ live. not (has_key key live)) lives

abbrev pub with_satisfied : List Live → CountKey → Bool → List Live
with_satisfied lives key value = change_where (has_key key) (λ live. record live { satisfies = value }) lives

-- what holds of each live task: its key comes before the next one, and it names few ranges
abbrev pub is_kept : ℕ → Live → Bool
is_kept next live = is_below next live && has_few_ranges live.task
