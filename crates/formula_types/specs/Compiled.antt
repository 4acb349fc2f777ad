-- What a text is as a formula: its statements, which have types, or its first fault. The text is lexed whole, then read, then typed.
use Rattle.std.specs.Prelude.{◌≡◌, ℕ, Bool, true, List, length, Some, None, Result, Ok, Err, is_ok}
use Rattle.bt_base.specs.declared.fail.Fail.{Fail}
use Rattle.bt_base.specs.declared.fail.Fail.TheVariants.{Memory, Why}
use Rattle.formula_trees.specs.declared.lex_fault.LexFault.{LexFault}
use Rattle.formula_trees.specs.declared.lex_fault.LexFault.TheVariants as lexical
use Rattle.formula_trees.specs.declared.token.Token.{Token}
use Rattle.formula_trees.specs.Lexing.{lexed}
use Rattle.formula_trees.specs.declared.fault.SyntaxFault.{SyntaxFault}
use Rattle.formula_trees.specs.declared.fault.SyntaxFault.TheVariants as syntactic
use Rattle.formula_trees.specs.Formula.{StatementTree}
use Rattle.formula_trees.specs.TheFormula.{IsTheFormula, fault_in}
use Rattle.formula_types.specs.Scopes.{nothing}
use Rattle.formula_types.specs.declared.fault.TypeFault.{TypeFault}
use Rattle.formula_types.specs.declared.fault.TypeFault.TheVariants as types
use Rattle.bt_base.specs.declared.formula_fault.FormulaFault.{FormulaFault}
use Rattle.bt_base.specs.declared.formula_fault.FormulaFault.TheVariants.{BadCharacter, OpenString, NumberTooLarge, UnexpectedToken, UnknownName, TypeMismatch}
use Rattle.bt_base.specs.declared.formula_fault.FormulaFault.TheVariants.{ReadOnly, WrongArguments, TooDeep}
use Rattle.formula_types.specs.Typing.{typed}

-- a fault of the tokens
abbrev pub of_lexical : LexFault → FormulaFault
of_lexical (lexical.BadCharacter p) = BadCharacter p
of_lexical (lexical.OpenString p) = OpenString p
of_lexical (lexical.NumberTooLarge p) = NumberTooLarge p

-- a fault of the syntax
abbrev pub of_syntax : SyntaxFault → FormulaFault
of_syntax (syntactic.UnexpectedToken p) = UnexpectedToken p
of_syntax (syntactic.TooDeep p) = TooDeep p

-- a fault of the types
abbrev pub of_type : TypeFault → FormulaFault
of_type (types.UnknownName p) = UnknownName p
of_type (types.TypeMismatch p) = TypeMismatch p
of_type (types.ReadOnly p) = ReadOnly p
of_type (types.WrongArguments p) = WrongArguments p

-- the tokens of a text without lexical faults or faults of syntax, read as these statements
pub record IsRead (text : List ℕ) (tokens : List Token) (ss : List StatementTree) : Type 0 where
  pub lexes : lexed text ≡ Ok tokens
  pub reads : fault_in tokens (length text) ≡ None
  pub only : IsTheFormula tokens ss

-- each expression of these statements has a type
abbrev pub have_types : List ℕ → List StatementTree → Bool
have_types text ss = is_ok (typed text nothing ss)

-- the text is the formula of these statements
pub record IsFormula (text : List ℕ) (ss : List StatementTree) : Type 0 where
  pub tokens : List Token
  pub read : IsRead text tokens ss
  pub types : have_types text ss ≡ true

-- the text is not a formula, and this is its first fault
pub data HasFault : List ℕ → FormulaFault → Type 0 where
  in_tokens : {text : List ℕ} (f : LexFault) → lexed text ≡ Err f → HasFault text (of_lexical f)
  in_syntax : {text : List ℕ} {tokens : List Token} (f : SyntaxFault) → lexed text ≡ Ok tokens → fault_in tokens (length text) ≡ Some f →
      HasFault text (of_syntax f)
  in_types : {text : List ℕ} {tokens : List Token} {ss : List StatementTree} (f : TypeFault) → IsRead text tokens ss → typed text nothing ss ≡ Err f →
      HasFault text (of_type f)

-- the result is a value with this property, or the text's first fault, or out of memory
abbrev pub OrFault : {X : Type 0} → List ℕ → (X → Type 0) → Result X (Fail FormulaFault) → Type 0
OrFault text P (Ok x) = P x
OrFault text P (Err Memory) = Unit {0}
OrFault text P (Err (Why f)) = HasFault text f
