-- What functions that compile and evaluate formulas return.
use Rattle.std.specs.Prelude.{◌≡◌, ℕ, List, Option, Some, None, Result, Ok, Err}
use Rattle.bt_base.specs.declared.fail.Fail.{Fail}
use Rattle.bt_base.specs.declared.fail.Fail.TheVariants.{Memory, Why}
use Rattle.bt_rows.specs.declared.refusal.Refusal.{Refusal}
use Rattle.formula_trees.specs.View.{statements_of}
use Rattle.formula_types.specs.Compiling.{compiled}
use Rattle.formula_types.specs.declared.formula.Formula.{Formula}
use Rattle.formula_eval.specs.declared.outcome.Outcome.{Outcome}
use Rattle.batch_model.specs.Formulas.{ran_text, formula_refusal}
use Rattle.batch_model.specs.Scaling.{given_by}
use Rattle.pool_scaling.specs.declared.evaluation.Ran.{Ran}

-- no refusal, or this one, unless memory ran out
abbrev pub IsChecked : Option Refusal → Result (Unit {0}) (Fail Refusal) → Type 0
IsChecked refusal (Ok checked) = refusal ≡ None
IsChecked refusal (Err Memory) = Unit {0}
IsChecked refusal (Err (Why told)) = refusal ≡ Some told

-- the formula of the text, or its refusal, unless memory ran out
abbrev pub IsCompiled : List ℕ → Result Formula (Fail Refusal) → Type 0
IsCompiled text (Ok formula) = (formula.text ≡ text) × (compiled text ≡ Ok (statements_of formula.statements.items))
IsCompiled text (Err Memory) = Unit {0}
IsCompiled text (Err (Why refusal)) = formula_refusal text ≡ Some refusal

-- the text of an evaluation, and the targets and the option that it gave
abbrev pub ran_of : Result Outcome (List ℕ) → Ran
ran_of ran = record { text = ran_text ran; given = given_by ran }
