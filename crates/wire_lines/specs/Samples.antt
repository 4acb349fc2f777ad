-- Samples in a line.
use Rattle.std.specs.Prelude.{ℕ, ℤ, List, Option, Some, None, option_and_then, Result, Ok, if◌then◌else◌}
use Rattle.std.specs.Result.{result_ok}
use Rattle.bt_base.specs.Fails.{◌>>=◌}
use Rattle.bt_base.specs.Utf8.{utf8_text}
use Rattle.bt_base.specs.Numbers.{read_number}
use Rattle.bt_rows.specs.declared.member.Member.TheVariants as names
use Rattle.bt_rows.specs.declared.refusal.Refusal.{Refusal}
use Rattle.bt_rows.specs.Ranges.{is_percentage}
use Rattle.wire_members.specs.Members.{or_invalid}
use Rattle.wire_lines.specs.Arguments.{or_unreadable, id_argument}
use Rattle.wire_lines.specs.Parts.{just_two}

-- the number, if it is from 0 to 100
abbrev pub if_percentage : ℤ → Option ℤ
if_percentage number = if is_percentage number then Some number else None

-- a number from 0 to 100, in millionths; decimals after the sixth are cut off
abbrev pub percentage_in : List ℕ → Option ℤ
percentage_in bytes = option_and_then if_percentage (option_and_then (λ text. result_ok (read_number text)) (utf8_text bytes))

-- the id of a pool and a percentage, which are the only arguments of a line
unfoldable pub pool_and_percentage : List ℕ → Result (List ℕ × ℤ) Refusal
pool_and_percentage text = do
  parts ← or_unreadable (just_two text)
  pool ← id_argument parts.0
  percentage ← or_invalid names.Value (percentage_in parts.1)
  Ok (pool, percentage)
