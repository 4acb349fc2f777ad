-- The date and time in UTC of an instant, which is given in units of 100 ns since 1970-01-01T00:00:00Z.
use Rattle.std.specs.Prelude.{ℕ, zero, suc, ◌+◌, ◌-◌, ◌/◌, ◌%◌, ℤ, pos, ◌≤ℤ◌, nat_lt, if◌then◌else◌}
use Rattle.jiff_core.specs.Calendar.{days_in_year, days_in_month, weekday_number}
use Rattle.bt_times.specs.declared.parts.Civil.{Civil}

-- an instant from 1970 to the end of the year 9999
abbrev pub IsInstant : ℤ → Type 0
IsInstant t = (pos 0 ≤ℤ t) × (t ≤ℤ pos 2534023007999999999)

-- the year in which the given count of days after the beginning of this year ends, and the days of it that are over; years
-- are counted off one by one, at most the given number
unfoldable pub year_after : ℕ → ℕ → ℕ → ℕ × ℕ
year_after zero year days = (year, days)
year_after (suc more) year days =
    if nat_lt days (days_in_year (pos year)) then (year, days)
    else year_after more (year + 1) (days - days_in_year (pos year))

-- the month and its day, both counted from 1, the given count of days after the beginning of this month of the year; months
-- are counted off one by one, at most the given number
unfoldable pub month_after : ℕ → ℤ → ℕ → ℕ → ℕ × ℕ
month_after zero year month days = (month, days + 1)
month_after (suc more) year month days =
    if nat_lt days (days_in_month year month) then (month, days + 1)
    else month_after more year (month + 1) (days - days_in_month year month)

-- the date this many days after 1970-01-01, with the time this many seconds after midnight; Monday is 1
unfoldable pub civil_at : ℕ → ℕ → Civil
civil_at days seconds =
    let year = year_after 8029 1970 days in
    let month = month_after 11 (pos year.0) 1 year.1 in
    record {
      year = year.0;
      month = month.0;
      day = month.1;
      weekday = weekday_number (pos days) + 1;
      hour = seconds / 3600;
      minute = seconds / 60 % 60;
      second = seconds % 60;
    }

-- the date and time of the second in which an instant lies
abbrev pub civil_of : ℕ → Civil
civil_of t = civil_at (t / 10000000 / 86400) (t / 10000000 % 86400)
