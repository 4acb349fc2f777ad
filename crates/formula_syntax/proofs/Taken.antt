-- What the grammar reads, the table takes, unless more than `DEEPEST` marks are open.
use Rattle.std.proofs.Common.{◌≡◌, ◌⊎◌, ℕ, Bool, true, false, List, [], ◌∷◌, Option, Some, None, Result, Err, cond, inl, inr, ⊎_elim, refl, ap, ◌∙◌}
use Rattle.std.specs.Prelude.{nat_lt}
use Rattle.std.proofs.lemmas.Option.{same_Some}
use Rattle.formula_trees.specs.Spans.{span_of}
use Rattle.formula_trees.specs.declared.token.Token.{Token}
use Rattle.formula_trees.specs.declared.fault.SyntaxFault.{SyntaxFault}
use Rattle.formula_trees.specs.declared.fault.TheConstants.{DEEPEST}
use Rattle.formula_trees.specs.declared.fault.SyntaxFault.TheVariants.{TooDeep}
use Rattle.formula_trees.specs.Formula.{StatementTree, ReadsFormula}
use Rattle.formula_trees.specs.TheFormula.{fault_in}
use Rattle.formula_syntax.specs.Whole.{Whole, Between, finished, step_whole, depth_in, at_end, on_token, parsed, and_run_whole, run_whole}
use Rattle.formula_syntax.proofs.ReachesFormula.{reaches_formula}
use Rattle.formula_syntax.proofs.Agrees.{fault_of}
use Rattle.formula_syntax.proofs.Main.{fault_of_parsed}

-- there is no fault, or too many marks are open
abbrev pub NoneOrDeep : Option SyntaxFault → Type 0
NoneOrDeep o = (o ≡ None) ⊎ ((place : ℕ) × (o ≡ Some (TooDeep place)))

by_cond : (b : Bool) (p : ℕ) (r : Result (List StatementTree) SyntaxFault) → NoneOrDeep (fault_of r) → NoneOrDeep (fault_of (cond b (Err (TooDeep p)) r))
by_cond true p r h = inr (p, refl)
by_cond false p r h = h

by_token : (o : Option Whole) (p end : ℕ) (xs : List Token) (r : Whole) → ((w : Whole) → run_whole xs w ≡ Some r → NoneOrDeep (fault_of (parsed end xs w))) →
    and_run_whole o (run_whole xs) ≡ Some r → NoneOrDeep (fault_of (on_token p (parsed end xs) o))
by_token None p end xs r h e = cc
by_token (Some w) p end xs r h e = by_cond (nat_lt DEEPEST (depth_in w)) p (parsed end xs w) (h w e)

none_or_deep : (xs : List Token) (end : ℕ) (w r : Whole) (ss : List StatementTree) → run_whole xs w ≡ Some r → finished r ≡ Some ss →
    NoneOrDeep (fault_of (parsed end xs w))
none_or_deep [] end w r ss e f = inl (ap (λ o. fault_of (at_end end o)) (ap finished (same_Some _ _ e) ∙ f))
none_or_deep (x ∷ xs) end w r ss e f = by_token (step_whole w x.kind (span_of x)) x.from end xs r (λ v g. none_or_deep xs end v r ss g f) e

pub taken : (xs : List Token) (end : ℕ) (ss : List StatementTree) → ReadsFormula xs ss → NoneOrDeep (fault_in xs end)
taken xs end ss read =
    let a = reaches_formula read [] in
    let e = fault_of_parsed xs end in
    ⊎_elim
    (λ h. inl (e ∙ h))
    (λ h. inr (h.0, e ∙ h.1))
    (none_or_deep xs end (Between []) a.whole ss a.runs a.ends)
