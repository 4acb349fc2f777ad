-- When a schedule is due, and when it may fire (Azure: schedule of a job schedule).
use Rattle.std.specs.Prelude.{◌≡◌, ◌≤◌, ℕ, ◌+◌, ◌-◌, ◌*◌, ◌/◌, Bool, true, false, ◌&&◌, ◌||◌, nat_lt, nat_le, Option, Some, None, is_none, is_some}
use Rattle.std.specs.Prelude.{if◌then◌else◌}
use Rattle.std.specs.Option.{option_map_or}
use Rattle.schedule_rows.specs.Rows.{Schedule}
use Rattle.schedule_rows.specs.declared.stage.ScheduleState.{ScheduleState}
use Rattle.schedule_rows.specs.declared.stage.ScheduleState.TheVariants.{Active, Disabled, Completed}
use Rattle.schedule_rows.specs.declared.stage.Stage.{Stage}
use Rattle.schedule_rows.specs.declared.stage.Stage.TheVariants.{Idle, Tasks, Patch}
use Rattle.schedule_rows.specs.declared.limits.TheConstants.{LAST_JOB_NUMBER}

-- occurrence k of a schedule with this interval; without one there is occurrence 0 alone
abbrev pub occurrence : ℕ → Option ℕ → ℕ → ℕ
occurrence first None k = first
occurrence first (Some interval) k = first + k * interval

-- there is such an occurrence
abbrev pub IsOccurrence : Option ℕ → ℕ → Type 0
IsOccurrence None k = k ≡ 0
IsOccurrence (Some interval) k = Unit {0}

-- the number of whole intervals in a time; 0 without an interval
abbrev pub passed_intervals : Option ℕ → ℕ → ℕ
passed_intervals None time = 0
passed_intervals (Some interval) time = time / interval

-- the number of the greatest occurrence at or before the moment
abbrev pub due_at : ℕ → Option ℕ → ℕ → Option ℕ
due_at first interval now = if nat_le first now then Some (passed_intervals interval (now - first)) else None

-- it is an occurrence at or before the moment, and no later one is
pub record IsGreatestDue (first : ℕ) (interval : Option ℕ) (now k : ℕ) : Type 0 where
  pub there : IsOccurrence interval k
  pub due : occurrence first interval k ≤ now
  pub greatest : (j : ℕ) → IsOccurrence interval j → occurrence first interval j ≤ now → j ≤ k

-- no occurrence is at or before the moment
abbrev pub HasNoDue : ℕ → Option ℕ → ℕ → Type 0
HasNoDue first interval now = (j : ℕ) → IsOccurrence interval j → nat_le (occurrence first interval j) now ≡ false

-- it is the greatest occurrence at or before the moment, or there is none
abbrev pub IsDue : ℕ → Option ℕ → ℕ → Option ℕ → Type 0
IsDue first interval now None = HasNoDue first interval now
IsDue first interval now (Some k) = IsGreatestDue first interval now k

abbrev pub is_active : ScheduleState → Bool
is_active Active = true
is_active Disabled = false
is_active Completed = false

abbrev pub is_disabled : ScheduleState → Bool
is_disabled Active = false
is_disabled Disabled = true
is_disabled Completed = false

abbrev pub is_completed : ScheduleState → Bool
is_completed Active = false
is_completed Disabled = false
is_completed Completed = true

abbrev pub is_idle : Stage → Bool
is_idle Idle = true
is_idle Tasks = false
is_idle Patch = false

-- the occurrence is after the last one for which a job was requested
abbrev pub is_new : Option ℕ → ℕ → Bool
is_new last k = option_map_or (λ l. nat_lt l k) last true

-- this time after an occurrence is within the window
abbrev pub is_within : Option ℕ → ℕ → Bool
is_within window since = option_map_or (λ w. nat_lt since w) window true

-- the moment is within the window that starts at the occurrence
abbrev pub is_in_window : Schedule → ℕ → ℕ → Bool
is_in_window s now k = option_map_or (λ w. nat_lt now (occurrence s.first s.interval k + w)) s.window true

-- the moment is before the schedule's end
abbrev pub is_before_end : Option ℕ → ℕ → Bool
is_before_end until now = option_map_or (λ end. nat_lt now end) until true

-- it has a job number left
abbrev pub has_numbers : Schedule → Bool
has_numbers s = nat_lt s.number LAST_JOB_NUMBER

-- the schedule may fire for the occurrence
abbrev pub may_fire_for : Schedule → ℕ → ℕ → Bool
may_fire_for s now k = is_new s.last k && is_in_window s now k && is_before_end s.until now

-- the due occurrence, if the schedule may fire for it
abbrev pub due_to_fire : Schedule → ℕ → Option ℕ → Option ℕ
due_to_fire s now None = None
due_to_fire s now (Some k) = if may_fire_for s now k then Some k else None

-- the occurrence for which an active schedule with nothing left to request is to fire if its previous job is over
abbrev pub firing_at : ℕ → Schedule → Option ℕ
firing_at now s =
    if is_active s.state && is_idle s.stage && has_numbers s then due_to_fire s now (due_at s.first s.interval now) else None

-- it will never fire again
abbrev pub is_over : ℕ → Schedule → Bool
is_over now s = is_none s.interval && is_some s.last || option_map_or (λ end. nat_le end now) s.until false || nat_le LAST_JOB_NUMBER s.number

-- completed if it will never fire again and nothing remains to be requested
abbrev pub completed_at : ℕ → Schedule → Schedule
completed_at now s = if is_idle s.stage && is_over now s then record s { state = Completed } else s
