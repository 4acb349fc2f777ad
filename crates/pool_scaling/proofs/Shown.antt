-- What `evaluate-autoscale` answers.
use Rattle.std.proofs.Common.{◌≡◌, ℕ, Bool, true, false, not, List, [], ◌∷◌, ◌++◌, Option, Some, None, Result, Ok, Err, refl, sym, ◌∙◌, ap}
use Rattle.std.specs.Option.{option_map_or}
use Rattle.std.specs.Prelude.{IfOk}
use Rattle.bt_base.specs.declared.fail.Fail.{Fail}
use Rattle.bt_base.specs.declared.fail.Fail.TheVariants.{Memory, Why}
use Rattle.bt_base.specs.declared.memory.NoMemory.{NoMemory}
use Rattle.bt_rows.specs.Changes.{apply_changes}
use Rattle.bt_rows.specs.declared.plan.Plan.{Plan}
use Rattle.bt_rows.specs.declared.refusal.Refusal.{Refusal}
use Rattle.bt_rows.specs.declared.refusal.Refusal.TheVariants.{PoolBeingDeleted, PoolDoesNotScale}
use Rattle.bt_rows.specs.declared.reply.Reply.TheVariants.{Results}
use Rattle.bt_rows.specs.declared.tables.Change.{Change}
use Rattle.formula_trees.specs.Formula.{StatementTree}
use Rattle.formula_types.specs.Compiling.{compiled}
use Rattle.formula_eval.specs.Statements.{evaluated}
use Rattle.batch_model.specs.Answers.{refuse}
use Rattle.batch_model.specs.Finding.{first_of}
use Rattle.batch_model.specs.Formulas.{formula_refusal, or_error, pool_metrics, ran_text, start_targets}
use Rattle.batch_model.specs.Scaling.{evaluate_autoscale, formula_shown}
use Rattle.batch_model.specs.Steps.{Answered, refuse_if}
use Rattle.batch_model.specs.WellFormed.{scales}
use Rattle.batch_model.specs.Variants.{State, PoolRow}
use Rattle.machine_plans.specs.Plans.{IsAnswer, IsPlanOf, moved_to, with_moment}
use Rattle.machine_plans.proofs.Moves.{moved_plan}
use Rattle.pool_scaling.specs.Evaluations.{IsCompiled}
use Rattle.pool_scaling.proofs.Evaluated.{ran_if_compiled, taken_if_compiled}

-- a text, and no change but that of the last moment
abbrev pub text_shown : ℕ → State → List ℕ → Answered
text_shown now s text = record { reply = Results text; state = with_moment now s }

pub shows : (result : Result Plan NoMemory) (now : ℕ) (s : State) (text told : List ℕ) (more : List Change) → told ≡ text → more ≡ []
    → IfOk result (λ plan. plan.reply ≡ Results told) → IfOk result (λ plan. plan.changes ≡ moved_to now s ++ more)
    → IfOk result (IsPlanOf (text_shown now s text) s)
shows result now s text told more same none reply made =
    moved_plan result now (text_shown now s text) s more (λ refusal e. none) (rw (← same) reply) made (ap (λ changes. apply_changes changes (with_moment now s)) none)

module _ (now : ℕ) (s : State) (text : List ℕ) (pool : PoolRow) where
  -- the answer by what refuses
  answered : (deleting scaling : Bool) (checked : Option Refusal) → pool.deleting ≡ deleting → scales s pool.id ≡ scaling → formula_refusal text ≡ checked
      → evaluate_autoscale (with_moment now s) text pool
      ≡ option_map_or (λ refusal. refuse refusal (with_moment now s))
      (first_of (refuse_if deleting PoolBeingDeleted ∷ refuse_if (not scaling) PoolDoesNotScale ∷ checked ∷ []))
      (formula_shown (with_moment now s) text pool)
  answered deleting scaling checked a b e = rw (← a, ← b, ← e) refl

  module _ (not_deleted : pool.deleting ≡ false) (scaling : scales s pool.id ≡ true) where
    -- a text that is not a formula is refused
    pub refused_by : (fail : Fail Refusal) → IsCompiled text (Err fail) → IsAnswer now (evaluate_autoscale (with_moment now s) text pool) s (Err fail)
    refused_by Memory h = tt
    refused_by (Why refusal) h = answered false true (Some refusal) not_deleted scaling h

    -- and a formula is evaluated
    pub shown : (formula : List ℕ) (ss : List StatementTree) → (formula ≡ text) × (compiled text ≡ Ok ss)
        → text_shown now s (ran_text (or_error (evaluated formula ss (pool_metrics s pool) now (start_targets pool))))
        ≡ evaluate_autoscale (with_moment now s) text pool
    shown formula ss h =
        rw (h.0)
        (ap (λ ran. text_shown now s (ran_text ran)) (ran_if_compiled (with_moment now s) pool text ss h.1)
        ∙ sym (answered false true None not_deleted scaling (taken_if_compiled text ss h.1)))
