-- The ranges of timestamps and timeintervals, in units of 100 ns.
use Rattle.std.specs.Prelude.{Bool, ◌&&◌, ℤ, pos, int_le, ◌≤ℤ◌, Option, Some, None, if◌then◌else◌}
use Rattle.formula_values.specs.declared.times.TheConstants.{LAST, LONGEST, SHORTEST}

-- from the beginning of 1970 to the end of the year 9999, in UTC
abbrev pub is_timestamp : ℤ → Bool
is_timestamp t = int_le (pos 0) t && int_le t LAST

-- of magnitude at most 3,650,000 days
abbrev pub is_interval : ℤ → Bool
is_interval t = int_le SHORTEST t && int_le t LONGEST

-- the same as a fact
abbrev pub IsInterval : ℤ → Type 0
IsInterval t = (SHORTEST ≤ℤ t) × (t ≤ℤ LONGEST)

-- the timestamp, if it is one
abbrev pub timestamp_of : ℤ → Option ℤ
timestamp_of t = if is_timestamp t then Some t else None

-- the timeinterval, if it is one
abbrev pub interval_of : ℤ → Option ℤ
interval_of t = if is_interval t then Some t else None
