-- Statements that are reached, and those among which an evaluation ends.
use Rattle.std.proofs.Common.{◌≡◌, ◌⊎◌, inl, inr, ℕ, List, [], ◌∷◌, ◌++◌, Result, Ok, Err, refl, sym, ap, ◌∙◌}
use Rattle.bt_base.specs.Fails.{◌>>=◌}
use Rattle.formula_trees.specs.Formula.{StatementTree}
use Rattle.formula_values.specs.declared.value.Value.{Value}
use Rattle.formula_metrics.specs.declared.metrics.Metrics.{Metrics}
use Rattle.formula_eval.specs.declared.fault.EvalFault.{EvalFault}
use Rattle.formula_eval.specs.declared.fault.Interrupt.{Interrupt}
use Rattle.formula_eval.specs.declared.fault.Interrupt.TheVariants.{Stop, Fault}
use Rattle.formula_eval.specs.declared.outcome.Outcome.{Outcome}
use Rattle.formula_eval.specs.Evaluation.{value_of}
use Rattle.formula_eval.specs.Statements.{expression_of, settled, unless_interrupted, statements_done}
use Rattle.formula_laws.specs.Reaching.{Reaches, there, on}

-- one statement that is done is before those after it
one_on : (text : List ℕ) (metrics : Metrics) (now : ℕ) (set next : Outcome) (s : StatementTree) (ss : List StatementTree) (known : Value) →
    value_of text metrics now set (expression_of s) ≡ Ok known → settled text set s known ≡ Ok next →
    statements_done text metrics now set (s ∷ ss) ≡ statements_done text metrics now next ss
one_on text metrics now set next s ss known value done =
    ap (unless_interrupted set (λ known. settled text set s known >>= (λ next. statements_done text metrics now next ss))) value
    ∙ ap (λ r. r >>= (λ next. statements_done text metrics now next ss)) done

pub reached_on : (text : List ℕ) (metrics : Metrics) (now : ℕ) (set end : Outcome) (front rest : List StatementTree) → Reaches text metrics now set front end →
    statements_done text metrics now set (front ++ rest) ≡ statements_done text metrics now end rest
reached_on _ _ _ _ _ _ rest there = refl
reached_on _ _ _ _ _ _ rest (on {text = text} {metrics = metrics} {now = now} {set = set} {next = next} {end = end} {s = s} {ss = ss} known value done later) =
    one_on text metrics now set next s (ss ++ rest) known value done ∙ reached_on text metrics now next end ss rest later

abbrev ReachedOrEnded : List ℕ → Metrics → ℕ → Outcome → List StatementTree → Type 0
ReachedOrEnded text metrics now set front =
    ((end : Outcome) × Reaches text metrics now set front end)
    ⊎ ((rest : List StatementTree) → statements_done text metrics now set (front ++ rest) ≡ statements_done text metrics now set front)

-- a stop or a fault ends the evaluation
ended : (text : List ℕ) (metrics : Metrics) (now : ℕ) (set : Outcome) (s : StatementTree) (ss : List StatementTree) (halt : Interrupt) →
    value_of text metrics now set (expression_of s) ≡ Err halt → ReachedOrEnded text metrics now set (s ∷ ss)
ended text metrics now set s ss Stop e =
    inr (λ rest. ap (unless_interrupted set (λ known. settled text set s known >>= (λ next. statements_done text metrics now next (ss ++ rest)))) e
    ∙ sym (ap (unless_interrupted set (λ known. settled text set s known >>= (λ next. statements_done text metrics now next ss))) e))
ended text metrics now set s ss (Fault why) e =
    inr (λ rest. ap (unless_interrupted set (λ known. settled text set s known >>= (λ next. statements_done text metrics now next (ss ++ rest)))) e
    ∙ sym (ap (unless_interrupted set (λ known. settled text set s known >>= (λ next. statements_done text metrics now next ss))) e))

-- a setting that is refused ends it too
refused : (text : List ℕ) (metrics : Metrics) (now : ℕ) (set : Outcome) (s : StatementTree) (ss : List StatementTree) (known : Value) (why : EvalFault) →
    value_of text metrics now set (expression_of s) ≡ Ok known → settled text set s known ≡ Err why → ReachedOrEnded text metrics now set (s ∷ ss)
refused text metrics now set s ss known why value done = inr (λ rest. fails (ss ++ rest) ∙ sym (fails ss))
  where
    fails : (later : List StatementTree) → statements_done text metrics now set (s ∷ later) ≡ Err why
    fails later =
        ap (unless_interrupted set (λ known. settled text set s known >>= (λ next. statements_done text metrics now next later))) value
        ∙ ap (λ r. r >>= (λ next. statements_done text metrics now next later)) done

-- after a statement that is done
done_then : (text : List ℕ) (metrics : Metrics) (now : ℕ) (set next : Outcome) (s : StatementTree) (ss : List StatementTree) (known : Value) →
    value_of text metrics now set (expression_of s) ≡ Ok known → settled text set s known ≡ Ok next → ReachedOrEnded text metrics now next ss →
    ReachedOrEnded text metrics now set (s ∷ ss)
done_then text metrics now set next s ss known value done (inl x) = inl (x.0, on known value done x.1)
done_then text metrics now set next s ss known value done (inr h) =
    inr (λ rest. one_on text metrics now set next s (ss ++ rest) known value done ∙ h rest ∙ sym (one_on text metrics now set next s ss known value done))

settled_then : (text : List ℕ) (metrics : Metrics) (now : ℕ) (set : Outcome) (s : StatementTree) (ss : List StatementTree) (known : Value)
    (r : Result Outcome EvalFault) → value_of text metrics now set (expression_of s) ≡ Ok known → settled text set s known ≡ r →
    ((next : Outcome) → ReachedOrEnded text metrics now next ss) → ReachedOrEnded text metrics now set (s ∷ ss)
settled_then text metrics now set s ss known (Ok next) value done later = done_then text metrics now set next s ss known value done (later next)
settled_then text metrics now set s ss known (Err why) value done later = refused text metrics now set s ss known why value done

valued_then : (text : List ℕ) (metrics : Metrics) (now : ℕ) (set : Outcome) (s : StatementTree) (ss : List StatementTree) (r : Result Value Interrupt) →
    value_of text metrics now set (expression_of s) ≡ r → ((next : Outcome) → ReachedOrEnded text metrics now next ss) →
    ReachedOrEnded text metrics now set (s ∷ ss)
valued_then text metrics now set s ss (Ok known) value later = settled_then text metrics now set s ss known (settled text set s known) value refl later
valued_then text metrics now set s ss (Err halt) value later = ended text metrics now set s ss halt value

pub reached_or_ended : (text : List ℕ) (metrics : Metrics) (now : ℕ) (set : Outcome) (front : List StatementTree) → ReachedOrEnded text metrics now set front
reached_or_ended text metrics now set [] = inl (set, there)
reached_or_ended text metrics now set (s ∷ ss) =
    valued_then text metrics now set s ss (value_of text metrics now set (expression_of s)) refl (λ next. reached_or_ended text metrics now next ss)
