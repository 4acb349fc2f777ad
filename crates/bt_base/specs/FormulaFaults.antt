-- The names and places of the faults of a formula's text.
use Rattle.std.specs.Prelude.{ℕ, List, codes}
use Rattle.bt_base.specs.declared.formula_fault.FormulaFault.{FormulaFault}
use Rattle.bt_base.specs.declared.formula_fault.FormulaFault.TheVariants.{
  BadCharacter,
  OpenString,
  NumberTooLarge,
  UnexpectedToken,
  UnknownName,
  TypeMismatch,
  ReadOnly,
  WrongArguments,
  TooDeep,
}

-- in bytes of the text from 0
abbrev pub place_of : FormulaFault → ℕ
place_of (BadCharacter p) = p
place_of (OpenString p) = p
place_of (NumberTooLarge p) = p
place_of (UnexpectedToken p) = p
place_of (UnknownName p) = p
place_of (TypeMismatch p) = p
place_of (ReadOnly p) = p
place_of (WrongArguments p) = p
place_of (TooDeep p) = p

-- as a reply shows it
abbrev pub name_of : FormulaFault → List ℕ
name_of (BadCharacter p) = codes "BadCharacter"
name_of (OpenString p) = codes "OpenString"
name_of (NumberTooLarge p) = codes "NumberTooLarge"
name_of (UnexpectedToken p) = codes "UnexpectedToken"
name_of (UnknownName p) = codes "UnknownName"
name_of (TypeMismatch p) = codes "TypeMismatch"
name_of (ReadOnly p) = codes "ReadOnly"
name_of (WrongArguments p) = codes "WrongArguments"
name_of (TooDeep p) = codes "TooDeep"
