-- Members that are durations.
use Rattle.std.specs.Prelude.{ℕ, Option, Some, None, Result, option_and_then, if◌then◌else◌}
use Rattle.std.specs.Result.{result_ok}
use Rattle.serde_json.specs.Data.{Data}
use Rattle.serde_json.specs.Find.{as_str}
use Rattle.bt_base.specs.Ids.{within}
use Rattle.bt_rows.specs.declared.member.Member.{Member}
use Rattle.bt_rows.specs.declared.refusal.Refusal.{Refusal}
use Rattle.bt_times.specs.Durations.{read_duration}
use Rattle.wire_members.specs.Members.{optional, there}

-- a duration in milliseconds; None in it stands for no limit
abbrev pub duration_in : Data → Option (Option ℕ)
duration_in d = option_and_then (λ text. result_ok (read_duration text)) (as_str d)

-- a duration in milliseconds, or no limit, with a default
abbrev pub duration_member : Option Data → Member → Option ℕ → Result (Option ℕ) Refusal
duration_member part name default = optional duration_in default part name

-- a duration from low to high; no limit is longer
abbrev pub if_within : ℕ → ℕ → Option ℕ → Option ℕ
if_within low high None = None
if_within low high (Some duration) = if within low high duration then Some duration else None

-- a duration from low to high, in milliseconds
abbrev pub limited_duration_in : ℕ → ℕ → Data → Option ℕ
limited_duration_in low high d = option_and_then (if_within low high) (duration_in d)

-- such a duration; None if it is absent
abbrev pub limited_duration_if : Option Data → Member → ℕ → ℕ → Result (Option ℕ) Refusal
limited_duration_if part name low high = optional (λ d. there (limited_duration_in low high d)) None part name

-- such a duration, with a default
abbrev pub limited_duration_member : Option Data → Member → ℕ → ℕ → ℕ → Result ℕ Refusal
limited_duration_member part name low high default = optional (limited_duration_in low high) default part name
