-- Numbers and truth values as JSON.
use Rattle.std.proofs.Common.{ℕ, ℤ, pos, negsuc, Bool, Some, None, Result, refl, arith}
use Rattle.std.specs.Prelude.{nat_le, int_le, ◌&&◌, option_and_then, if◌then◌else◌}
use Rattle.serde_json.specs.Data.{Data, boolean, number, unsigned}
use Rattle.serde_json.specs.Find.{as_number, as_u64, as_i64, as_bool, of_integer}
use Rattle.bt_base.specs.Fails.{◌>>=◌}
use Rattle.bt_base.specs.Numbers.{in_bounds}
use Rattle.row_fields.specs.declared.fault.RowFault.{RowFault}
use Rattle.row_fields.specs.Fields.{IsPlain, or_not_a_row}

-- a number that is not below zero
abbrev pub count_data : ℕ → Data
count_data n = number (unsigned n)

-- a number of at most 64 bits
abbrev pub count_in : Data → Result ℕ RowFault
count_in d = or_not_a_row (option_and_then as_u64 (as_number d))

-- the number, if it is at most the greatest
abbrev pub up_to : ℕ → ℕ → Result ℕ RowFault
up_to greatest n = or_not_a_row (if nat_le n greatest then Some n else None)

-- a number of at most 8 bits
abbrev pub u8_in : Data → Result ℕ RowFault
u8_in d = count_in d >>= up_to 255

-- a number of at most 32 bits
abbrev pub u32_in : Data → Result ℕ RowFault
u32_in d = count_in d >>= up_to 4294967295

-- a number with a sign
abbrev pub whole_data : ℤ → Data
whole_data z = number (of_integer z)

-- a number with a sign, of at most 64 bits
abbrev pub whole_in : Data → Result ℤ RowFault
whole_in d = or_not_a_row (option_and_then as_i64 (as_number d))

-- a number with a sign, of at most 32 bits
abbrev pub i32_in : Data → Result ℤ RowFault
i32_in d =
    whole_in d >>= λ z. or_not_a_row (if int_le (negsuc 2147483647) z && int_le z (pos 2147483647) then Some z else None)

-- the millionths of a number within its bounds
abbrev pub num_in : Data → Result ℤ RowFault
num_in d = whole_in d >>= λ z. or_not_a_row (in_bounds z)

-- a truth value
abbrev pub flag_in : Data → Result Bool RowFault
flag_in d = or_not_a_row (as_bool d)

pub count_plain : (n : ℕ) → IsPlain 0 (count_data n)
count_plain n = record { not_null = refl; no_float = refl; nests = omega arith }

pub whole_plain : (z : ℤ) → IsPlain 0 (whole_data z)
whole_plain (pos n) = record { not_null = refl; no_float = refl; nests = omega arith }
whole_plain (negsuc n) = record { not_null = refl; no_float = refl; nests = omega arith }

pub flag_plain : (b : Bool) → IsPlain 0 (boolean b)
flag_plain b = record { not_null = refl; no_float = refl; nests = omega arith }
