-- What a text is as a formula, computed: its tokens, then its statements, then the types of their expressions, or the first fault of
-- these. `Compiled` says the same by the grammar and by the rules of types.
use Rattle.std.specs.Prelude.{◌≡◌, ℕ, List, [], length, Result, Ok, Err}
use Rattle.bt_base.specs.Fails.{◌>>=◌}
use Rattle.bt_base.specs.declared.formula_fault.FormulaFault.{FormulaFault}
use Rattle.formula_trees.specs.declared.token.Token.{Token}
use Rattle.formula_trees.specs.Lexing.{lexed}
use Rattle.formula_trees.specs.Formula.{StatementTree}
use Rattle.formula_syntax.specs.Whole.{Between, parsed}
use Rattle.formula_types.specs.Scopes.{nothing}
use Rattle.formula_types.specs.Typing.{typed}
use Rattle.formula_types.specs.Compiled.{of_lexical, of_syntax, of_type, IsFormula, HasFault}

-- a result whose fault is one of a formula
abbrev pub or_fault : {X F : Type 0} → (F → FormulaFault) → Result X F → Result X FormulaFault
or_fault of (Ok x) = Ok x
or_fault of (Err fault) = Err (of fault)

-- the statements of the tokens of a text of that length
abbrev pub statements_of_tokens : ℕ → List Token → Result (List StatementTree) FormulaFault
statements_of_tokens end tokens = or_fault of_syntax (parsed end tokens (Between []))

-- the statements, if each of their expressions has a type
abbrev pub with_types : List ℕ → List StatementTree → Result (List StatementTree) FormulaFault
with_types text ss = or_fault of_type (typed text nothing ss) >>= (λ set. Ok ss)

-- the statements of a text, or its first fault
unfoldable pub compiled : List ℕ → Result (List StatementTree) FormulaFault
compiled text = or_fault of_lexical (lexed text) >>= (λ tokens. statements_of_tokens (length text) tokens >>= with_types text)

-- what is computed of a text is its formula, or its first fault
pub record ComputesFormulas : Type 0 where
  pub formulas : (text : List ℕ) (ss : List StatementTree) → compiled text ≡ Ok ss → IsFormula text ss
  pub faults : (text : List ℕ) (fault : FormulaFault) → compiled text ≡ Err fault → HasFault text fault
