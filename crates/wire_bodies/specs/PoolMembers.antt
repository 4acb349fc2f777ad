-- Members that the bodies of `add-pool` and `resize` share.
use Rattle.std.specs.Prelude.{ℕ, Some, Result}
use Rattle.serde_json.specs.Data.{Data}
use Rattle.bt_rows.specs.declared.limits.TheConstants.{LEAST_RESIZE_TIMEOUT, GREATEST_RESIZE_TIMEOUT, DEFAULT_RESIZE_TIMEOUT}
use Rattle.bt_rows.specs.declared.member.Member.TheVariants as names
use Rattle.bt_rows.specs.declared.refusal.Refusal.{Refusal}
use Rattle.wire_members.specs.Durations.{limited_duration_member}

-- the timeout of a resize, 5 minutes to 10 days, by default 15 minutes
abbrev pub resize_timeout : Data → Result ℕ Refusal
resize_timeout d = limited_duration_member (Some d) names.ResizeTimeout LEAST_RESIZE_TIMEOUT GREATEST_RESIZE_TIMEOUT DEFAULT_RESIZE_TIMEOUT
