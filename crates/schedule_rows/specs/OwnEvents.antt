-- Events on the schedules of a calendar: they are added, deleted, disabled and enabled.
use Rattle.std.specs.Prelude.{ℕ, Bool, List, [], ◌∷◌, ◌++◌, map, find, remove, length, option_map, nat_le, Option, Some, None, if◌then◌else◌}
use Rattle.std.specs.List.{list_any, position}
use Rattle.bt_base.specs.Ids.{same}
use Rattle.schedule_rows.specs.Rows.{Schedule, added_at}
use Rattle.schedule_rows.specs.declared.limits.TheConstants.{SCHEDULE_LIMIT}
use Rattle.schedule_rows.specs.declared.event.CalEvent.{CalEvent}
use Rattle.schedule_rows.specs.declared.event.CalEvent.TheVariants.{Add, Delete, Disable, Enable, Inner}
use Rattle.schedule_rows.specs.declared.refusal.CalRefusal.{CalRefusal}
use Rattle.schedule_rows.specs.declared.refusal.CalRefusal.TheVariants.{SchedulesFull, ScheduleNotFound, ScheduleExists, ScheduleStateRefuses}
use Rattle.schedule_rows.specs.declared.stage.ScheduleState.{ScheduleState}
use Rattle.schedule_rows.specs.declared.stage.ScheduleState.TheVariants.{Active, Disabled, Completed}

-- the schedule has the id; case is ignored
abbrev pub has_id : List ℕ → Schedule → Bool
has_id id s = same s.id id

-- the schedule with the id
abbrev pub schedule_of : List Schedule → List ℕ → Option Schedule
schedule_of rows id = find (has_id id) rows

-- why a schedule is not added
abbrev pub adding_refusal : List Schedule → List ℕ → Option CalRefusal
adding_refusal rows id =
    if list_any (has_id id) rows then Some ScheduleExists
    else if nat_le SCHEDULE_LIMIT (length rows) then Some SchedulesFull
    else None

-- the place of the schedule with the id
abbrev pub place_of : List Schedule → List ℕ → Option ℕ
place_of rows id = position (has_id id) rows

-- no schedule has the id
abbrev pub missing_refusal : Option ℕ → Option CalRefusal
missing_refusal None = Some ScheduleNotFound
missing_refusal (Some place) = None

-- the state of the schedule with the id
abbrev pub state_of : List Schedule → List ℕ → Option ScheduleState
state_of rows id = option_map (λ (s : Schedule). s.state) (schedule_of rows id)

-- the schedule is not there, or not active
abbrev pub disabling_refusal : Option ScheduleState → Option CalRefusal
disabling_refusal None = Some ScheduleNotFound
disabling_refusal (Some Active) = None
disabling_refusal (Some Disabled) = Some (ScheduleStateRefuses Disabled)
disabling_refusal (Some Completed) = Some (ScheduleStateRefuses Completed)

-- the schedule is not there, or not disabled
abbrev pub enabling_refusal : Option ScheduleState → Option CalRefusal
enabling_refusal None = Some ScheduleNotFound
enabling_refusal (Some Active) = Some (ScheduleStateRefuses Active)
enabling_refusal (Some Disabled) = None
enabling_refusal (Some Completed) = Some (ScheduleStateRefuses Completed)

-- why an event on the schedules is refused
abbrev pub own_refusal : List Schedule → CalEvent → Option CalRefusal
own_refusal rows (Add s) = adding_refusal rows s.id
own_refusal rows (Delete id) = missing_refusal (place_of rows id)
own_refusal rows (Disable id) = disabling_refusal (state_of rows id)
own_refusal rows (Enable id) = enabling_refusal (state_of rows id)
own_refusal rows (Inner event) = None

-- the schedule, in this state if it has the id
abbrev pub put_state : List ℕ → ScheduleState → Schedule → Schedule
put_state id state s = if has_id id s then record s { state = state } else s

-- the schedules, with this state for the one with the id
abbrev pub with_state : List ℕ → ScheduleState → List Schedule → List Schedule
with_state id state rows = map (put_state id state) rows

-- the schedules without the one at the place
abbrev pub without : Option ℕ → List Schedule → List Schedule
without None rows = rows
without (Some place) rows = remove rows place

-- the schedules after an event that is not refused
abbrev pub after_own : ℕ → List Schedule → CalEvent → List Schedule
after_own now rows (Add s) = rows ++ added_at now s ∷ []
after_own now rows (Delete id) = without (place_of rows id) rows
after_own now rows (Disable id) = with_state id Disabled rows
after_own now rows (Enable id) = with_state id Active rows
after_own now rows (Inner event) = rows

-- its HTTP status
abbrev pub own_status : CalEvent → ℕ
own_status (Add s) = 201
own_status (Delete id) = 202
own_status (Disable id) = 204
own_status (Enable id) = 204
own_status (Inner event) = 200
