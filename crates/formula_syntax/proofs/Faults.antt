-- The faults of the parser are those of the table.
use Rattle.std.proofs.Common.{◌≡◌, ℕ, suc, ◌<◌, length, get_or, drop, drop-cons, List, [], ◌∷◌, Option, Some, None, Result, Ok, Err, cond, refl, sym, ap, ◌∙◌}
use Rattle.std.proofs.Common.{subst}
use Rattle.formula_trees.specs.declared.token.Span.{Span}
use Rattle.formula_trees.specs.Spans.{span_of}
use Rattle.formula_trees.specs.declared.token.Token.{Token}
use Rattle.formula_trees.specs.declared.tree.Statement.{Statement}
use Rattle.formula_trees.specs.declared.fault.SyntaxFault.{SyntaxFault}
use Rattle.formula_trees.specs.declared.fault.SyntaxFault.TheVariants.{TooDeep}
use Rattle.bt_base.specs.declared.fail.Fail.{Fail}
use Rattle.bt_base.specs.declared.fail.Fail.TheVariants.{Memory, Why}
use Rattle.formula_trees.specs.Formula.{StatementTree}
use Rattle.formula_trees.specs.TheFormula.{fault_in}
use Rattle.std.specs.Option.{option_map}
use Rattle.formula_trees.specs.declared.token.Kind.{Kind}
use Rattle.formula_trees.specs.declared.token.Kind.TheVariants.{Semicolon}
use Rattle.formula_syntax.specs.Parser.{State, step}
use Rattle.formula_syntax.specs.Whole.{Whole, Between, Inside, Target, inside_whole, step_whole, on_token, parsed}
use Rattle.formula_syntax.specs.Wholes.{FaultAt, TakesShallow, AnswersParsed}
use Rattle.formula_syntax.proofs.Agrees.{fault_of}
use Rattle.formula_syntax.proofs.Main.{fault_of_parsed}

pub fault_here : (f : SyntaxFault) (p : ℕ) (o : Option Whole) (go : Whole → Result (List StatementTree) SyntaxFault) → FaultAt f p o → on_token p go o ≡ Err f
fault_here f p None go h = ap Err (sym h)
fault_here f p (Some w) go h = ap (λ b. cond b (Err (TooDeep p)) (go w)) h.0 ∙ ap Err (sym h.1)

-- a fault at a token of the loop is the text's
pub fault_there : (e : (Fail SyntaxFault)) (ss : List Statement) (done : List StatementTree) (t : Token) (ts : List Token) (end : ℕ) (w : Whole)
    (all : Result (List StatementTree) SyntaxFault) → TakesShallow done (Err e) t.from (step_whole w t.kind (span_of t)) → parsed end (t ∷ ts) w ≡ all →
    AnswersParsed ss (Err e) all
fault_there Memory ss done t ts end w all h e = tt
fault_there (Why f) ss done t ts end w all h e = sym e ∙ fault_here f t.from (step_whole w t.kind (span_of t)) (parsed end ts) h

pub fault_by : (e : (Fail SyntaxFault)) (ss : List Statement) (ts : List Token) (end : ℕ) → AnswersParsed ss (Err e) (parsed end ts (Between [])) →
    (f : SyntaxFault) → e ≡ Why f → fault_in ts end ≡ Some f
fault_by Memory ss ts end h f e = cc
fault_by (Why g) ss ts end h f e = let i : g ≡ f = cc in fault_of_parsed ts end ∙ ap fault_of h ∙ ap Some i

pub none_by : (ss : List StatementTree) (ts : List Token) (end : ℕ) → parsed end ts (Between []) ≡ Ok ss → fault_in ts end ≡ None
none_by ss ts end h = fault_of_parsed ts end ∙ ap fault_of h

pub inside_as : (k : Kind) (p : Span) (done : List StatementTree) (target : Target) (q : State) → (k ≡ Semicolon → ⊥) →
    option_map (Inside done target) (step q k p) ≡ inside_whole done target q k p
inside_as Semicolon p done target q other = absurd (other refl)
inside_as _ p done target q other = refl

pub fault_in_loop : (e : Fail SyntaxFault) (ss : List Statement) (done : List StatementTree) (ts : List Token) (i : ℕ) (t : Token) (end : ℕ) (w : Whole)
    (all : Result (List StatementTree) SyntaxFault) → t ≡ get_or ts i t → i < length ts → TakesShallow done (Err e) t.from (step_whole w t.kind (span_of t)) →
    parsed end (drop i ts) w ≡ all → AnswersParsed ss (Err e) all
fault_in_loop e ss done ts i t end w all same lt h f =
    let here = subst (λ (x : Token). TakesShallow done (Err e) x.from (step_whole w x.kind (span_of x))) same h in
    fault_there e ss done (get_or ts i t) (drop (suc i) ts) end w all here (ap (λ x. parsed end x w) (sym (drop-cons ts i t lt)) ∙ f)
