-- The members of timestamps.
use Rattle.std.specs.Prelude.{ℕ, unsigned_abs}
use Rattle.bt_times.specs.declared.parts.Civil.{Civil}
use Rattle.bt_times.specs.Civils.{civil_of}
use Rattle.formula_trees.specs.declared.names.Member.{Member}
use Rattle.formula_trees.specs.declared.names.Member.TheVariants.{Year, Month, Day, Weekday, Hour, Minute, Second}
use Rattle.formula_values.specs.declared.value.Value.{Value}
use Rattle.formula_values.specs.declared.value.Value.TheVariants.{Timestamp}
use Rattle.formula_values.specs.Values.{whole_value}

-- the part of what calendars and clocks show that has this name
abbrev pub member_of : Member → Civil → ℕ
member_of Year shown = shown.year
member_of Month shown = shown.month
member_of Day shown = shown.day
member_of Weekday shown = shown.weekday
member_of Hour shown = shown.hour
member_of Minute shown = shown.minute
member_of Second shown = shown.second

-- the value of a member of a timestamp, in UTC. Other values have no members in any formula; here theirs are 0.
abbrev pub member_value : Member → Value → Value
member_value member (Timestamp t) = whole_value (member_of member (civil_of (unsigned_abs t)))
member_value member _ = whole_value 0
