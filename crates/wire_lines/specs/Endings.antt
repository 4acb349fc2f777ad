-- Moments and endings in a line.
use Rattle.std.specs.Prelude.{ℕ, ◌^◌, ℤ, pos, neg_ℤ, List, drop, slice_index, Option, Some, None, option_map, option_and_then, nat_lt, nat_le, ◌==◌, codes, if◌then◌else◌}
use Rattle.std.specs.Str.{bytes_eq}
use Rattle.bt_base.specs.Moments.{moment_of}
use Rattle.bt_rows.specs.declared.run.Ending.{Ending}
use Rattle.bt_rows.specs.declared.run.Ending.TheVariants.{Code, NoCode, NotStarted}
use Rattle.bt_base.specs.Digits.{number_in}

-- digits, up to the end of the year 9999
abbrev pub moment_in : List ℕ → Option ℕ
moment_in text = option_and_then moment_of (number_in text)

-- an exit code with a minus sign before the number
abbrev pub code_below : ℕ → Option ℤ
code_below n = if nat_le n (2 ^ 31) then Some (neg_ℤ (pos n)) else None

-- an exit code without a sign
abbrev pub code_above : ℕ → Option ℤ
code_above n = if nat_lt n (2 ^ 31) then Some (pos n) else None

-- digits with at most one minus sign before them, of 32 bits
abbrev pub code_in : List ℕ → Option ℤ
code_in text =
    if slice_index text 0 == 45 then option_and_then code_below (number_in (drop 1 text))
    else option_and_then code_above (number_in text)

-- `none`, `notstarted` or a code
unfoldable pub ending_in : List ℕ → Option Ending
ending_in text =
    if bytes_eq text (codes "none") then Some NoCode
    else if bytes_eq text (codes "notstarted") then Some NotStarted
    else option_map (λ code. Code code) (code_in text)
