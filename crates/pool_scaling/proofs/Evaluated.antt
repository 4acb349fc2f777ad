-- What an evaluation gives, by what the text is compiled to.
use Rattle.std.proofs.Common.{◌≡◌, ℕ, List, Some, None, Ok, Err, sym, ap}
use Rattle.bt_base.specs.FormulaFaults.{name_of, place_of}
use Rattle.bt_base.specs.declared.formula_fault.FormulaFault.{FormulaFault}
use Rattle.bt_rows.specs.declared.refusal.Refusal.TheVariants.{FormulaRefused}
use Rattle.formula_trees.specs.Formula.{StatementTree}
use Rattle.formula_types.specs.Compiling.{compiled}
use Rattle.formula_eval.specs.Results.{error_text}
use Rattle.formula_eval.specs.Statements.{evaluated}
use Rattle.batch_model.specs.Formulas.{formula_ran, formula_refusal, or_error, pool_metrics, refused_fault, start_targets, statements_ran}
use Rattle.batch_model.specs.Variants.{State, PoolRow}
use Rattle.machine_plans.specs.Plans.{with_moment}

-- what statements give is what the text gives that is compiled to them
pub ran_if_compiled : (s : State) (pool : PoolRow) (text : List ℕ) (ss : List StatementTree) → compiled text ≡ Ok ss
    → or_error (evaluated text ss (pool_metrics s pool) s.moment (start_targets pool)) ≡ formula_ran s pool text
unfolding formula_ran
ran_if_compiled s pool text ss e = ap (statements_ran s pool text) (sym e)

-- also at another moment, of which the metrics know nothing
pub ran_over : (s : State) (now : ℕ) (pool : PoolRow) (text : List ℕ) (ss : List StatementTree) → compiled text ≡ Ok ss
    → or_error (evaluated text ss (pool_metrics s pool) now (start_targets pool)) ≡ formula_ran (with_moment now s) pool text
ran_over s now pool text ss e = ran_if_compiled (with_moment now s) pool text ss e

-- and a fault gives its text
pub ran_if_fault : (s : State) (pool : PoolRow) (text : List ℕ) (fault : FormulaFault) → compiled text ≡ Err fault
    → formula_ran s pool text ≡ Err (error_text (name_of fault) (place_of fault))
unfolding formula_ran
ran_if_fault s pool text fault e = ap (statements_ran s pool text) e

-- a text that is compiled is not refused
pub taken_if_compiled : (text : List ℕ) (ss : List StatementTree) → compiled text ≡ Ok ss → formula_refusal text ≡ None
unfolding formula_refusal
taken_if_compiled text ss e = ap refused_fault e

-- and one with a fault is
pub refused_if_fault : (text : List ℕ) (fault : FormulaFault) → compiled text ≡ Err fault → formula_refusal text ≡ Some (FormulaRefused fault)
unfolding formula_refusal
refused_if_fault text fault e = ap refused_fault e
