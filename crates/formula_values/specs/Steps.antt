-- The four operations on doubles.
use Rattle.std.specs.Prelude.{ℤ, Result}
use Rattle.bt_base.specs.Numbers.{sum_of, difference_of, product_of, quotient_of}
use Rattle.bt_base.specs.declared.number.NumFault.{NumFault}
use Rattle.formula_values.specs.declared.arithmetic.Arithmetic.{Arithmetic}
use Rattle.formula_values.specs.declared.arithmetic.Arithmetic.TheVariants.{Add, Subtract, Multiply, Divide}

-- the operation as a function
abbrev pub step_of : Arithmetic → ℤ → ℤ → Result ℤ NumFault
step_of Add a b = sum_of a b
step_of Subtract a b = difference_of a b
step_of Multiply a b = product_of a b
step_of Divide a b = quotient_of a b
