-- The same bytes have one output at a moment and with a number of nodes.
use Rattle.std.proofs.Common.{◌≡◌, ◌<◌, ℕ, List, None, Result, Ok, Err, IsSome, codes, sym, ap, ◌∙◌, subst, arith}
use Rattle.formula_trees.specs.Formula.{StatementTree}
use Rattle.bt_base.specs.declared.formula_fault.FormulaFault.{FormulaFault}
use Rattle.formula_types.specs.Compiled.{IsFormula, HasFault}
use Rattle.bt_base.specs.FormulaFaults.{name_of, place_of}
use Rattle.formula_values.specs.Faults.{fault_name}
use Rattle.formula_metrics.specs.Parts.{blank_metrics}
use Rattle.formula_eval.specs.declared.fault.EvalFault.{EvalFault}
use Rattle.formula_eval.specs.declared.outcome.Outcome.{Outcome}
use Rattle.formula_eval.specs.Statements.{evaluated}
use Rattle.cli_formula.specs.Showing.{IsLongestText, Shows, no_text, no_formula, fails, gives, ShownFault, fault_at, results_line, targets_of}

none_longer : (bytes : List ℕ) (n m : ℕ) → IsLongestText bytes n → IsLongestText bytes m → n < m → ⊥
none_longer bytes n m one other less =
    let none : IsSome {T = List ℕ} None = subst IsSome (one.longest m less other.within) other.text in
    absurd (cc)

one_longest : (bytes : List ℕ) (n m : ℕ) → IsLongestText bytes n → IsLongestText bytes m → n ≡ m
one_longest bytes n m one other =
    let above : n < m → ⊥ = none_longer bytes n m one other in
    let below : m < n → ⊥ = none_longer bytes m n other one in
    omega (arith, above, below)

-- an evaluation has one result
one_result : (now nodes : ℕ) (bytes : List ℕ) (ss other : List StatementTree) (r q : Result Outcome EvalFault) → ss ≡ other →
    evaluated bytes ss blank_metrics now (targets_of nodes) ≡ r → evaluated bytes other blank_metrics now (targets_of nodes) ≡ q → r ≡ q
one_result now nodes bytes ss other r q same e f = sym e ∙ ap (λ s. evaluated bytes s blank_metrics now (targets_of nodes)) same ∙ f

-- a text is one formula, or has one first fault
pub record IsOne (bytes : List ℕ) : Type 0 where
  pub not_both : (ss : List StatementTree) (fault : FormulaFault) → IsFormula bytes ss → HasFault bytes fault → ⊥
  pub formula : (ss other : List StatementTree) → IsFormula bytes ss → IsFormula bytes other → ss ≡ other
  pub fault : (fault other : FormulaFault) → HasFault bytes fault → HasFault bytes other → fault ≡ other

pub one_shown : {now nodes : ℕ} {bytes : List ℕ} {one other : Result (List ℕ) ShownFault} → IsOne bytes → Shows now nodes bytes one →
    Shows now nodes bytes other → one ≡ other
one_shown {now} {nodes} {bytes} only (no_text n t l) (no_text m u k) = ap (λ p. Err (fault_at (codes "BadCharacter") p)) (one_longest bytes n m l k)
one_shown only (no_text n t l) (no_formula f u h) = absurd (cc)
one_shown only (no_text n t l) (fails ss f u h e) = absurd (cc)
one_shown only (no_text n t l) (gives ss o u h e) = absurd (cc)
one_shown only (no_formula f t h) (no_text m u k) = absurd (cc)
one_shown only (no_formula f t h) (no_formula g u k) = ap (λ x. Err (fault_at (name_of x) (place_of x))) (only.fault f g h k)
one_shown only (no_formula f t h) (fails ss g u k e) = absurd (only.not_both ss f k h)
one_shown only (no_formula f t h) (gives ss o u k e) = absurd (only.not_both ss f k h)
one_shown only (fails ss f t h e) (no_text m u k) = absurd (cc)
one_shown only (fails ss f t h e) (no_formula g u k) = absurd (only.not_both ss g h k)
one_shown {now} {nodes} {bytes} only (fails ss f t h e) (fails other g u k d) =
    let same = one_result now nodes bytes ss other (Err f) (Err g) (only.formula ss other h k) e d in
    let fault : f ≡ g = cc in
    ap (λ x. Err (fault_at (fault_name x.fault) x.place)) fault
one_shown {now} {nodes} {bytes} only (fails ss f t h e) (gives other o u k d) =
    let same = one_result now nodes bytes ss other (Err f) (Ok o) (only.formula ss other h k) e d in
    absurd (cc)
one_shown only (gives ss o t h e) (no_text m u k) = absurd (cc)
one_shown only (gives ss o t h e) (no_formula g u k) = absurd (only.not_both ss g h k)
one_shown {now} {nodes} {bytes} only (gives ss o t h e) (fails other g u k d) =
    let same = one_result now nodes bytes ss other (Ok o) (Err g) (only.formula ss other h k) e d in
    absurd (cc)
one_shown {now} {nodes} {bytes} only (gives ss o t h e) (gives other p u k d) =
    let same = one_result now nodes bytes ss other (Ok o) (Ok p) (only.formula ss other h k) e d in
    let outcome : o ≡ p = cc in
    ap (λ x. Ok (results_line x)) outcome
