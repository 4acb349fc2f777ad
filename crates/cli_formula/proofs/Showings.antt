-- The output of bytes: of texts, and of bytes that are not UTF-8.
use Rattle.std.proofs.Common.{◌≡◌, ℕ, List, Some, Result, Ok, Err, IsSome, codes, take, refl, sym, ap, ◌∙◌, subst, arith, rules}
use Rattle.std.specs.Str.{IsValidUpTo, IsUtf8}
use Rattle.bt_base.specs.Utf8.{utf8_text}
use Rattle.bt_base.proofs.Utf8Texts.{of_text, of_no_text}
use Rattle.formula_trees.specs.Formula.{StatementTree}
use Rattle.bt_base.specs.declared.formula_fault.FormulaFault.{FormulaFault}
use Rattle.formula_types.specs.Compiled.{IsFormula, HasFault}
use Rattle.bt_base.specs.FormulaFaults.{name_of, place_of}
use Rattle.formula_metrics.specs.Parts.{blank_metrics}
use Rattle.formula_eval.specs.declared.fault.EvalFault.{EvalFault}
use Rattle.formula_eval.specs.declared.outcome.Outcome.{Outcome}
use Rattle.formula_eval.specs.Statements.{evaluated}
use Rattle.cli_formula.specs.Showing.{IsLongestText, Shows, no_text, no_formula, gives, fails, ShownFault, fault_at, targets_of}
use Rattle.cli_formula.specs.Shown.{evaluation_shown}

by_result : (now nodes : ℕ) (bytes : List ℕ) (ss : List StatementTree) (r : Result Outcome EvalFault) → utf8_text bytes ≡ Some bytes → IsFormula bytes ss →
    evaluated bytes ss blank_metrics now (targets_of nodes) ≡ r → Shows now nodes bytes (evaluation_shown r)
by_result now nodes bytes ss (Ok outcome) text formula e = gives ss outcome text formula e
by_result now nodes bytes ss (Err fault) text formula e = fails ss fault text formula e

-- the output of a formula that is kept with a copy of its text is that of its evaluation
pub shows_formula : (now nodes : ℕ) (bytes copy : List ℕ) (ss : List StatementTree) (shown : Result (List ℕ) ShownFault) → utf8_text bytes ≡ Some bytes →
    copy ≡ bytes → IsFormula bytes ss → shown ≡ evaluation_shown (evaluated copy ss blank_metrics now (targets_of nodes)) → Shows now nodes bytes shown
shows_formula now nodes bytes copy ss shown text same formula e =
    let shown_is : shown ≡ evaluation_shown (evaluated bytes ss blank_metrics now (targets_of nodes)) = e
    ∙ ap (λ t. evaluation_shown (evaluated t ss blank_metrics now (targets_of nodes))) same in
    subst (Shows now nodes bytes) (sym shown_is) (by_result now nodes bytes ss (evaluated bytes ss blank_metrics now (targets_of nodes)) text formula refl)

-- the longest valid prefix is the longest prefix that is a text
pub longest_text : (bytes : List ℕ) (count : ℕ) → IsValidUpTo bytes count → IsLongestText bytes count
longest_text bytes count valid =
    let short = valid.short in
    let whole : utf8_text (take count bytes) ≡ Some (take count bytes) = of_text (take count bytes) valid.front in
    record {
      within = omega arith;
      text = subst IsSome (sym whole) (search rules);
      longest = λ more above within. of_no_text (take more bytes) (valid.longest more above);
    }

-- the output of a text that is not a formula is its fault
pub shows_fault : (now nodes : ℕ) (bytes : List ℕ) (fault : FormulaFault) (name : List ℕ) (place : ℕ) (shown : Result (List ℕ) ShownFault) →
    utf8_text bytes ≡ Some bytes → HasFault bytes fault → name ≡ name_of fault → place ≡ place_of fault → shown ≡ Err (fault_at name place) →
    Shows now nodes bytes shown
shows_fault now nodes bytes fault name place shown text h name_is place_is e =
    let shown_is : shown ≡ Err (fault_at (name_of fault) (place_of fault)) = e ∙ ap (λ n. Err (fault_at n place)) name_is
    ∙ ap (λ p. Err (fault_at (name_of fault) p)) place_is in
    subst (Shows now nodes bytes) (sym shown_is) (no_formula fault text h)

-- the output of bytes that are not UTF-8 is a fault at the end of their longest valid prefix
pub shows_no_text : (now nodes : ℕ) (bytes : List ℕ) (count place : ℕ) (shown : Result (List ℕ) ShownFault) → (IsUtf8 bytes → ⊥) → IsValidUpTo bytes count →
    place ≡ count → shown ≡ Err (fault_at (codes "BadCharacter") place) → Shows now nodes bytes shown
shows_no_text now nodes bytes count place shown never valid place_is e =
    let shown_is : shown ≡ Err (fault_at (codes "BadCharacter") count) = e ∙ ap (λ p. Err (fault_at (codes "BadCharacter") p)) place_is in
    subst (Shows now nodes bytes) (sym shown_is) (no_text count (of_no_text bytes never) (longest_text bytes count valid))
