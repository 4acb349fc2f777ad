-- The one reading of the tokens, and the first fault of a text.
use Rattle.std.specs.Prelude.{◌≡◌, ℕ, List, [], Option}
use Rattle.formula_trees.specs.declared.token.Token.{Token}
use Rattle.formula_trees.specs.declared.fault.SyntaxFault.{SyntaxFault}
use Rattle.formula_trees.specs.Formula.{StatementTree, ReadsFormula}
use Rattle.formula_trees.specs.Table.{Start, first_fault}

-- the tokens are read as these statements, and as no others
pub record IsTheFormula (ts : List Token) (ss : List StatementTree) : Type 0 where
  pub reads : ReadsFormula ts ss
  pub only : (other : List StatementTree) → ReadsFormula ts other → other ≡ ss

-- the first fault of the tokens of a text of that length
abbrev pub fault_in : List Token → ℕ → Option SyntaxFault
fault_in ts end = first_fault end ts (Start, [])
