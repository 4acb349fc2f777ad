-- Instants in texts, in units of 100 ns since 1970-01-01T00:00:00Z.
use Rattle.std.specs.Prelude.{ℕ, ◌==◌, Bool, false, ◌||◌, ℤ, pos, ◌*ℤ◌, int_lt, List, length, Option, Some, None, option_map, Result, Ok, Err, if◌then◌else◌}
use Rattle.std.specs.Int.RustNames.{int_div}
use Rattle.std.specs.Result.{result_ok}
use Rattle.jiff_core.specs.Calendar.{days_from_civil}
use Rattle.jiff_fmt.specs.Temporal.{parse_timestamp, parse_date, DateParts}
use Rattle.jiff_fmt.specs.Rfc2822.{timestamp}
use Rattle.bt_base.specs.declared.fail.Fail.{Fail}
use Rattle.bt_base.specs.declared.fail.Fail.TheVariants.{Why}
use Rattle.bt_times.specs.declared.instants.TheConstants.{LAST_INSTANT_NS}
use Rattle.bt_times.specs.declared.fault.TimeFault.{TimeFault}
use Rattle.bt_times.specs.declared.fault.TimeFault.TheVariants.{BadText, OutOfRange}

-- the nanoseconds since 1970 of a timestamp of ISO 8601
unfoldable pub timestamp_nanos : List ℕ → Option ℤ
timestamp_nanos text = result_ok (parse_timestamp text)

-- a date's midnight in UTC
abbrev pub midnight_nanos : DateParts → ℤ
midnight_nanos date = days_from_civil date.year date.month date.day *ℤ pos 86400000000000

-- a date of ten bytes, as its midnight in UTC
unfoldable pub date_nanos : List ℕ → Option ℤ
date_nanos text = if length text == 10 then option_map midnight_nanos (result_ok (parse_date text)) else None

-- a date of RFC 2822, whose weekday must be the date's own
unfoldable pub mail_nanos : List ℕ → Option ℤ
mail_nanos text = result_ok (timestamp false text)

-- the first of two, if there is one
abbrev pub or_else : Option ℤ → Option ℤ → Option ℤ
or_else None other = other
or_else (Some n) other = Some n

-- the nanoseconds of the text, by the first of three readers that accepts it
unfoldable pub nanos_shown : List ℕ → Option ℤ
nanos_shown text = or_else (timestamp_nanos text) (or_else (date_nanos text) (mail_nanos text))

-- an instant before 1970 or after the year 9999
abbrev pub is_out_of_range : ℤ → Bool
is_out_of_range nanos = int_lt nanos (pos 0) || int_lt LAST_INSTANT_NS nanos

-- the instant of these nanoseconds, in units of 100 ns, if it is in the range
abbrev pub in_range : Option ℤ → Result ℤ (Fail TimeFault)
in_range None = Err (Why BadText)
in_range (Some nanos) = if is_out_of_range nanos then Err (Why OutOfRange) else Ok (int_div nanos (pos 100))

-- the instant of a text, or why it has none
abbrev pub read_instant : List ℕ → Result ℤ (Fail TimeFault)
read_instant text = in_range (nanos_shown text)
