-- What is set once statements are evaluated one after the other, without a stop and without a fault.
use Rattle.std.specs.Prelude.{◌≡◌, ℕ, List, [], ◌∷◌, Ok}
use Rattle.formula_trees.specs.Formula.{StatementTree}
use Rattle.formula_values.specs.declared.value.Value.{Value}
use Rattle.formula_metrics.specs.declared.metrics.Metrics.{Metrics}
use Rattle.formula_eval.specs.declared.outcome.Outcome.{Outcome}
use Rattle.formula_eval.specs.Evaluation.{value_of}
use Rattle.formula_eval.specs.Statements.{expression_of, settled}

pub data Reaches : List ℕ → Metrics → ℕ → Outcome → List StatementTree → Outcome → Type 0 where
  there : {text : List ℕ} {metrics : Metrics} {now : ℕ} {set : Outcome} → Reaches text metrics now set [] set
  on : {text : List ℕ} {metrics : Metrics} {now : ℕ} {set next end : Outcome} {s : StatementTree} {ss : List StatementTree} (known : Value) →
      value_of text metrics now set (expression_of s) ≡ Ok known → settled text set s known ≡ Ok next → Reaches text metrics now next ss end →
      Reaches text metrics now set (s ∷ ss) end
