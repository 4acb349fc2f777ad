-- What is computed of a text is its formula, or its first fault.
use Rattle.std.proofs.Common.{◌≡◌, ℕ, true, [], List, length, Some, None, Result, Ok, Err, inl, inr, is_ok, refl, sym, ap, ◌∙◌, subst}
use Rattle.bt_base.specs.Fails.{◌>>=◌, GivesAs}
use Rattle.bt_base.specs.declared.fail.Fail.{Fail}
use Rattle.bt_base.specs.declared.fail.Fail.TheVariants.{Memory, Why}
use Rattle.bt_base.specs.declared.formula_fault.FormulaFault.{FormulaFault}
use Rattle.formula_trees.specs.declared.token.Token.{Token}
use Rattle.formula_trees.specs.Lexing.{lexed}
use Rattle.formula_trees.specs.declared.fault.SyntaxFault.{SyntaxFault}
use Rattle.formula_trees.specs.Formula.{StatementTree}
use Rattle.formula_trees.specs.TheFormula.{fault_in}
use Rattle.formula_trees.specs.View.{statements_of}
use Rattle.formula_syntax.specs.Whole.{Between, parsed}
use Rattle.formula_syntax.proofs.Agrees.{fault_of}
use Rattle.formula_syntax.proofs.Main.{the_formula, fault_of_parsed}
use Rattle.formula_types.specs.declared.fault.TypeFault.{TypeFault}
use Rattle.formula_types.specs.declared.formula.Formula.{Formula}
use Rattle.formula_types.specs.Scopes.{Variables, nothing}
use Rattle.formula_types.specs.Typing.{typed}
use Rattle.formula_types.specs.Compiled.{IsRead, IsFormula, HasFault, in_tokens, in_syntax, in_types, of_lexical, of_syntax, of_type, OrFault}
use Rattle.formula_types.specs.Compiling.{or_fault, statements_of_tokens, with_types, compiled, ComputesFormulas}
use Rattle.formula_types.proofs.OneAnswer.{Answer, formula_or_fault}

-- a result of the parser with a fault
faulty : (r : Result (List StatementTree) SyntaxFault) (f : SyntaxFault) → fault_of r ≡ Some f → r ≡ Err f
faulty (Ok ss) f e = cc
faulty (Err g) f e = let same : g ≡ f = cc in ap Err same

-- a result of the parser without a fault, which can be only these statements
faultless : (r : Result (List StatementTree) SyntaxFault) (ss : List StatementTree) → fault_of r ≡ None →
    ((other : List StatementTree) → r ≡ Ok other → other ≡ ss) → r ≡ Ok ss
faultless (Ok other) ss e only = ap Ok (only other refl)
faultless (Err f) ss e only = cc

-- what the parser computes of tokens that have a fault
parsed_fault : (tokens : List Token) (end : ℕ) (f : SyntaxFault) → fault_in tokens end ≡ Some f → parsed end tokens (Between []) ≡ Err f
parsed_fault tokens end f e = faulty (parsed end tokens (Between [])) f (sym (fault_of_parsed tokens end) ∙ e)

-- what the parser computes of tokens that are read as these statements
parsed_read : {text : List ℕ} {tokens : List Token} {ss : List StatementTree} → IsRead text tokens ss → parsed (length text) tokens (Between []) ≡ Ok ss
parsed_read {text} {tokens} {ss} read =
    faultless (parsed (length text) tokens (Between [])) ss (sym (fault_of_parsed tokens (length text)) ∙ read.reads)
    (λ other e. read.only.only other (the_formula tokens (length text) other e).reads)

-- what is computed of a text that has tokens
of_tokens : (text : List ℕ) (tokens : List Token) (r : Result (List StatementTree) FormulaFault) → lexed text ≡ Ok tokens →
    (statements_of_tokens (length text) tokens >>= with_types text) ≡ r → compiled text ≡ r
unfolding compiled
of_tokens text tokens r lexes e = ap (λ x. or_fault of_lexical x >>= (λ ts. statements_of_tokens (length text) ts >>= with_types text)) lexes ∙ e

-- what is computed of a text that is read
of_read : {text : List ℕ} {tokens : List Token} {ss : List StatementTree} (r : Result (List StatementTree) FormulaFault) → IsRead text tokens ss →
    with_types text ss ≡ r → compiled text ≡ r
of_read {text} {tokens} r read e = of_tokens text tokens r read.lexes (ap (λ x. or_fault of_syntax x >>= with_types text) (parsed_read read) ∙ e)

-- the statements, if they have types
typed_read : (ss : List StatementTree) (r : Result Variables TypeFault) → is_ok r ≡ true → (or_fault of_type r >>= (λ set. Ok ss)) ≡ Ok ss
typed_read ss (Ok set) e = refl
typed_read ss (Err f) e = cc

-- the formula of a text is what is computed of it
pub computed_formula : {text : List ℕ} {ss : List StatementTree} → IsFormula text ss → compiled text ≡ Ok ss
computed_formula {text} {ss} formula = of_read (Ok ss) formula.read (typed_read ss (typed text nothing ss) formula.types)

-- the first fault of a text is what is computed of it
pub computed_fault : {text : List ℕ} {fault : FormulaFault} → HasFault text fault → compiled text ≡ Err fault
unfolding compiled
computed_fault {text} (in_tokens f e) = ap (λ x. or_fault of_lexical x >>= (λ ts. statements_of_tokens (length text) ts >>= with_types text)) e
computed_fault {text} (in_syntax {tokens = tokens} f lexes e) =
    of_tokens text tokens (Err (of_syntax f)) lexes (ap (λ x. or_fault of_syntax x >>= with_types text) (parsed_fault tokens (length text) f e))
computed_fault {text} (in_types {ss = ss} f read e) = of_read (Err (of_type f)) read (ap (λ x. or_fault of_type x >>= (λ set. Ok ss)) e)

formula_by : (text : List ℕ) (ss : List StatementTree) → compiled text ≡ Ok ss → Answer text → IsFormula text ss
formula_by text ss e (inl (other, formula)) = let is = computed_formula formula in let same : other ≡ ss = cc in subst (IsFormula text) same formula
formula_by text ss e (inr (fault, has)) = let other = computed_fault has in absurd (cc)

fault_by : (text : List ℕ) (fault : FormulaFault) → compiled text ≡ Err fault → Answer text → HasFault text fault
fault_by text fault e (inl (ss, formula)) = let other = computed_formula formula in absurd (cc)
fault_by text fault e (inr (other, has)) = let is = computed_fault has in let same : other ≡ fault = cc in subst (HasFault text) same has

-- a function that returns the formula of a text or its first fault returns what is computed
pub gives_computed : (text : List ℕ) (r : Result Formula (Fail FormulaFault)) →
    OrFault text (λ formula. (formula.text ≡ text) × IsFormula text (statements_of formula.statements.items)) r →
    GivesAs (λ formula. statements_of formula.statements.items) r (compiled text)
gives_computed text (Ok formula) is = computed_formula is.1
gives_computed text (Err Memory) is = tt
gives_computed text (Err (Why fault)) has = computed_fault has

-- what is computed of a text is its formula, or its first fault
pub computes_formulas : ComputesFormulas
computes_formulas = record {
  formulas = λ text ss e. formula_by text ss e (formula_or_fault text);
  faults = λ text fault e. fault_by text fault e (formula_or_fault text);
}
