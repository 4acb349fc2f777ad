-- The names of faults.
use Rattle.std.specs.Prelude.{ℕ, List, codes}
use Rattle.formula_values.specs.declared.fault.ValueFault.{ValueFault}
use Rattle.formula_values.specs.declared.fault.ValueFault.TheVariants.{DivideByZero, TooLarge, EmptyVector, IndexOutOfRange, LengthsDiffer, NotEnoughSamples}
use Rattle.formula_values.specs.declared.fault.ValueFault.TheVariants.{NegativeTarget, TargetTooLarge, NotAnOption, BadTimeText, TimeOutOfRange}

abbrev pub fault_name : ValueFault → List ℕ
fault_name DivideByZero = codes "DivideByZero"
fault_name TooLarge = codes "TooLarge"
fault_name EmptyVector = codes "EmptyVector"
fault_name IndexOutOfRange = codes "IndexOutOfRange"
fault_name LengthsDiffer = codes "LengthsDiffer"
fault_name (NotEnoughSamples have want) = codes "NotEnoughSamples"
fault_name NegativeTarget = codes "NegativeTarget"
fault_name TargetTooLarge = codes "TargetTooLarge"
fault_name NotAnOption = codes "NotAnOption"
fault_name BadTimeText = codes "BadTimeText"
fault_name TimeOutOfRange = codes "TimeOutOfRange"
