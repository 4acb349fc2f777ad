-- A text is one formula, or it has one first fault.
use Rattle.std.proofs.Common.{◌≡◌, ◌⊎◌, ℕ, List, length, Option, Some, None, Result, Ok, Err, inl, inr, is_ok, refl, ap}
use Rattle.formula_trees.specs.declared.token.Token.{Token}
use Rattle.formula_trees.specs.declared.lex_fault.LexFault.{LexFault}
use Rattle.formula_trees.specs.Lexing.{lexed}
use Rattle.formula_trees.specs.declared.fault.SyntaxFault.{SyntaxFault}
use Rattle.formula_trees.specs.Formula.{StatementTree}
use Rattle.formula_trees.specs.TheFormula.{fault_in}
use Rattle.formula_syntax.proofs.Main.{one_reading}
use Rattle.formula_types.specs.declared.fault.TypeFault.{TypeFault}
use Rattle.bt_base.specs.declared.formula_fault.FormulaFault.{FormulaFault}
use Rattle.formula_types.specs.Scopes.{Variables, nothing}
use Rattle.formula_types.specs.Typing.{typed}
use Rattle.formula_types.specs.Compiled.{IsRead, IsFormula, HasFault, in_tokens, in_syntax, in_types, of_lexical, of_syntax, of_type}

abbrev pub Answer : List ℕ → Type 0
Answer text = ((ss : List StatementTree) × IsFormula text ss) ⊎ ((fault : FormulaFault) × HasFault text fault)

by_types : (text : List ℕ) (tokens : List Token) (ss : List StatementTree) (read : IsRead text tokens ss) (r : Result Variables TypeFault) →
    typed text nothing ss ≡ r → Answer text
by_types text tokens ss read (Ok set) e = inl (ss, record { tokens = tokens; read = read; types = ap is_ok e })
by_types text tokens ss read (Err f) e = inr (of_type f, in_types f read e)

by_syntax : (text : List ℕ) (tokens : List Token) (lexes : lexed text ≡ Ok tokens) (o : Option SyntaxFault) → fault_in tokens (length text) ≡ o → Answer text
by_syntax text tokens lexes (Some f) e = inr (of_syntax f, in_syntax f lexes e)
by_syntax text tokens lexes None e =
    let reading = one_reading tokens (length text) e in
    by_types text tokens reading.0 (record { lexes = lexes; reads = e; only = reading.1 }) (typed text nothing reading.0) refl

by_tokens : (text : List ℕ) (r : Result (List Token) LexFault) → lexed text ≡ r → Answer text
by_tokens text (Err f) e = inr (of_lexical f, in_tokens f e)
by_tokens text (Ok tokens) e = by_syntax text tokens e (fault_in tokens (length text)) refl

-- it has one of both
pub formula_or_fault : (text : List ℕ) → Answer text
formula_or_fault text = by_tokens text (lexed text) refl
