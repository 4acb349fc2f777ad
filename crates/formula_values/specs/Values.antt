-- Values: doubles in millionths, times in units of 100 ns.
use Rattle.std.specs.Prelude.{ℕ, ◌*◌, Bool, true, false, not, ℤ, pos, Result, Ok, Err, if◌then◌else◌}
use Rattle.std.specs.Ordering.{int_eq}
use Rattle.bt_base.specs.declared.number.NumFault.{NumFault}
use Rattle.bt_base.specs.declared.number.NumFault.TheVariants as numbers
use Rattle.formula_values.specs.declared.fault.ValueFault.{ValueFault}
use Rattle.formula_values.specs.declared.fault.ValueFault.TheVariants.{DivideByZero, TooLarge, TimeOutOfRange}
use Rattle.formula_values.specs.declared.value.Value.{Value}
use Rattle.formula_values.specs.declared.value.Value.TheVariants.{Double, Timestamp, TimeInterval}
use Rattle.formula_values.specs.Times.{is_timestamp, is_interval}

-- the double that is this whole number
abbrev pub whole_value : ℕ → Value
whole_value n = Double (pos (n * 1000000))

-- 1 for what holds, 0 for what does not
abbrev pub truth : Bool → Value
truth true = whole_value 1
truth false = whole_value 0

-- what is not 0 is true
abbrev pub is_true : Value → Bool
is_true (Double a) = not (int_eq a (pos 0))
is_true _ = false

-- the fault of a number
abbrev pub of_number : NumFault → ValueFault
of_number numbers.DivideByZero = DivideByZero
of_number numbers.TooLarge = TooLarge
of_number numbers.NotANumber = TooLarge

-- a number as a double, or its fault
abbrev pub double_of : Result ℤ NumFault → Result Value ValueFault
double_of (Ok n) = Ok (Double n)
double_of (Err fault) = Err (of_number fault)

-- a timestamp, which is out of range before 1970 and after the year 9999
abbrev pub timestamp_value : ℤ → Result Value ValueFault
timestamp_value t = if is_timestamp t then Ok (Timestamp t) else Err TimeOutOfRange

-- a timeinterval, which is out of range past 3,650,000 days
abbrev pub interval_value : ℤ → Result Value ValueFault
interval_value t = if is_interval t then Ok (TimeInterval t) else Err TimeOutOfRange

-- A value in place of one that does not exist: of operands and arguments that do not go together, and of names that are not set. No formula has
-- them, since each of its expressions has a type.
abbrev pub no_value : Result Value ValueFault
no_value = Ok (whole_value 0)
