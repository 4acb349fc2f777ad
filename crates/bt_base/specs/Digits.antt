-- Numbers as decimal digits.
use Rattle.std.specs.Prelude.{ℕ, ◌^◌, List, length, Option, Some, None, nat_lt, ◌&&◌, if◌then◌else◌}
use Rattle.std.specs.List.{list_all}
use Rattle.std.specs.Char.{is_ascii_digit}
use Rattle.std.specs.Str.Parse.{digits_value}

-- one digit or more, with a value of 64 bits
unfoldable pub number_in : List ℕ → Option ℕ
number_in text =
    if list_all is_ascii_digit text && nat_lt 0 (length text) && nat_lt (digits_value 10 text) (2 ^ 64) then Some (digits_value 10 text)
    else None
