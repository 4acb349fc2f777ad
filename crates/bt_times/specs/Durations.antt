-- Durations in texts, in milliseconds.
use Rattle.std.specs.Prelude.{ℕ, ◌+◌, ◌*◌, ◌/◌, ◌==◌, Bool, false, ◌&&◌, nat_lt, codes, List, [], ◌∷◌, slice_index, Option, Some, None, Result, Ok, Err, if◌then◌else◌}
use Rattle.std.specs.Str.{bytes_eq}
use Rattle.std.specs.Result.{result_ok}
use Rattle.jiff_fmt.specs.Temporal.{parse_span}
use Rattle.bt_base.specs.declared.fail.Fail.{Fail}
use Rattle.bt_base.specs.declared.fail.Fail.TheVariants.{Why}
use Rattle.bt_times.specs.declared.durations.TheConstants.{MAX_DURATION_MS}
use Rattle.bt_times.specs.declared.fault.TimeFault.{TimeFault}
use Rattle.bt_times.specs.declared.fault.TimeFault.TheVariants.{BadText, OutOfRange}

-- the duration that stands for no limit
unfoldable pub no_limit : List ℕ
no_limit = codes "P10675199DT2H48M5.4775807S"

-- a text begins with `P`
abbrev pub begins_with_p : List ℕ → Bool
begins_with_p [] = false
begins_with_p (b ∷ text) = b == 80

-- the parts of a span's text: 1 if it is below zero, else 0, and the numbers of its years, months, weeks, days, hours, minutes, seconds,
-- milliseconds, microseconds and nanoseconds
unfoldable pub span_shown : List ℕ → Option (List ℕ)
span_shown text = if begins_with_p text then result_ok (parse_span text) else None

-- a span that is not below zero, without years and months
unfoldable pub is_duration : List ℕ → Bool
is_duration parts = slice_index parts 0 == 0 && slice_index parts 1 == 0 && slice_index parts 2 == 0

-- its nanoseconds; a week has 7 days, and a day 24 hours
unfoldable pub span_nanos : List ℕ → ℕ
span_nanos parts =
    let days = 7 * slice_index parts 3 + slice_index parts 4 in
    let minutes = 60 * (24 * days + slice_index parts 5) + slice_index parts 6 in
    let milliseconds = 1000 * (60 * minutes + slice_index parts 7) + slice_index parts 8 in
    1000 * (1000 * milliseconds + slice_index parts 9) + slice_index parts 10

-- the longest duration, in milliseconds: 36,500 days
abbrev pub longest : ℕ
longest = MAX_DURATION_MS

-- whole milliseconds, up to 36,500 days
abbrev pub within_longest : ℕ → Result (Option ℕ) (Fail TimeFault)
within_longest ms = if nat_lt longest ms then Err (Why OutOfRange) else Ok (Some ms)

-- the duration of these parts of a span
abbrev pub duration_of : Option (List ℕ) → Result (Option ℕ) (Fail TimeFault)
duration_of None = Err (Why BadText)
duration_of (Some parts) = if is_duration parts then within_longest (span_nanos parts / 1000000) else Err (Why BadText)

-- the duration of a text, or why it has none
unfoldable pub read_duration : List ℕ → Result (Option ℕ) (Fail TimeFault)
read_duration text = if bytes_eq text no_limit then Ok None else duration_of (span_shown text)
