-- The results of a formula have targets within the limits, as those that the pool has before.
use Rattle.std.proofs.Common.{◌≡◌, ℕ, ℤ, pos, negsuc, Bool, true, false, ◌&&◌, nat_eq, nat_le, List, [], ◌∷◌, Option, Some, None, Result, Ok, Err, cond, refl, subst, arith}
use Rattle.std.proofs.lemmas.Bool.Decides.{nat_tests}
use Rattle.bt_base.specs.Fails.{◌>>=◌}
use Rattle.bt_base.specs.declared.dealloc_option.Dealloc.{Dealloc}
use Rattle.bt_base.specs.declared.formula_fault.FormulaFault.{FormulaFault}
use Rattle.bt_base.specs.DeallocOptions.{option_named}
use Rattle.bt_rows.specs.Ranges.{is_slot_count, is_target}
use Rattle.formula_trees.specs.declared.token.Span.{Span}
use Rattle.formula_trees.specs.declared.names.Setting.{Setting}
use Rattle.formula_trees.specs.declared.names.Setting.TheVariants.{DedicatedNodes, LowPriorityNodes, Deallocation}
use Rattle.formula_trees.specs.Names.{setting_named}
use Rattle.formula_trees.specs.Formula.{StatementTree, Sets, Drops}
use Rattle.formula_types.specs.Compiling.{compiled}
use Rattle.formula_types.specs.Scopes.{part}
use Rattle.formula_values.specs.declared.fault.ValueFault.{ValueFault}
use Rattle.formula_values.specs.declared.fault.ValueFault.TheVariants.{NegativeTarget, TargetTooLarge}
use Rattle.formula_values.specs.declared.value.Value.{Value}
use Rattle.formula_values.specs.declared.value.Value.TheVariants.{Double, Text}
use Rattle.formula_values.specs.Functions.{floor_of}
use Rattle.formula_metrics.specs.declared.metrics.Metrics.{Metrics}
use Rattle.formula_eval.specs.declared.fault.EvalFault.{EvalFault}
use Rattle.formula_eval.specs.declared.fault.Interrupt.{Interrupt}
use Rattle.formula_eval.specs.declared.fault.Interrupt.TheVariants.{Stop, Fault}
use Rattle.formula_eval.specs.declared.settings.TheConstants.{GREATEST_DEDICATED, GREATEST_LOW}
use Rattle.formula_eval.specs.declared.outcome.Targets.{Targets}
use Rattle.formula_eval.specs.declared.outcome.Outcome.{Outcome}
use Rattle.formula_eval.specs.Outcomes.{at_start, with_dedicated, with_low}
use Rattle.formula_eval.specs.Evaluation.{value_of}
use Rattle.formula_eval.specs.Statements.{target_within, target_of, chosen_or, with_setting, placed, with_name, expression_of, settled, unless_interrupted}
use Rattle.formula_eval.specs.Statements.{statements_done, evaluated}
use Rattle.batch_model.specs.Formulas.{pool_metrics, start_targets, or_error, statements_ran, formula_ran}
use Rattle.batch_model.specs.WellFormed.{is_pool_in_range}
use Rattle.batch_model.specs.Variants.{State, PoolRow}
use Rattle.model_lists.proofs.Tests.{and_true, and_first, and_second}

-- at most 1,000 dedicated nodes, and none of low priority
abbrev pub are_targets_in_range : Targets → Bool
are_targets_in_range targets = is_target targets.dedicated && nat_eq targets.low 0

-- the targets of a result are such, if there is a result
abbrev IsLimited : {E : Type 0} → Result Outcome E → Type 0
IsLimited (Ok outcome) = are_targets_in_range outcome.targets ≡ true
IsLimited (Err fault) = Unit {0}

-- a target is at most the greatest
target_limited : (P : Result ℕ ValueFault → Type 0) (most : ℕ) → ((fault : ValueFault) → P (Err fault))
    → ((target : ℕ) → nat_le target most ≡ true → P (Ok target)) → (n : ℤ) → P (target_within most n)
target_limited P most faults gives (negsuc below) = faults NegativeTarget
target_limited P most faults gives (pos target) = by_test (nat_le target most) refl
  where
    by_test : (b : Bool) → nat_le target most ≡ b → P (cond b (Ok target) (Err TargetTooLarge))
    by_test true e = gives target e
    by_test false e = faults TargetTooLarge

-- a setting

module _ (set : Outcome) (h : are_targets_in_range set.targets ≡ true) where
  -- the targets before
  dedicated_before : is_target set.targets.dedicated ≡ true
  dedicated_before = and_first (is_target set.targets.dedicated) (nat_eq set.targets.low 0) h

  low_before : nat_eq set.targets.low 0 ≡ true
  low_before = and_second (is_target set.targets.dedicated) (nat_eq set.targets.low 0) h

  -- an option changes no target
  option_limited : (chosen : Option Dealloc) → IsLimited (chosen_or set chosen)
  option_limited None = tt
  option_limited (Some chosen) = h

  dedicated_limited : (n : ℤ) → IsLimited (target_of GREATEST_DEDICATED n >>= (λ target. Ok (with_dedicated set target)))
  dedicated_limited n =
      target_limited (λ result. IsLimited (result >>= (λ target. Ok (with_dedicated set target)))) GREATEST_DEDICATED (λ fault. tt)
      (λ target e. and_true e low_before) (floor_of n)

  low_limited : (n : ℤ) → IsLimited (target_of GREATEST_LOW n >>= (λ target. Ok (with_low set target)))
  low_limited n =
      target_limited (λ result. IsLimited (result >>= (λ target. Ok (with_low set target)))) GREATEST_LOW (λ fault. tt)
      (λ target e. and_true dedicated_before (none target e)) (floor_of n)
    where
      none : (target : ℕ) → nat_le target 0 ≡ true → nat_eq target 0 ≡ true
      none target e = grind (arith, nat_tests)

  setting_limited : (setting : Setting) (known : Value) → IsLimited (with_setting set setting known)
  setting_limited DedicatedNodes (Double n) = dedicated_limited n
  setting_limited LowPriorityNodes (Double n) = low_limited n
  setting_limited Deallocation (Text word) = option_limited (option_named word)
  setting_limited _ _ = h

  -- a variable changes no target
  name_limited : (name : List ℕ) (setting : Option Setting) (known : Value) → IsLimited (with_name set name setting known)
  name_limited name None known = h
  name_limited name (Some setting) known = setting_limited setting known

-- a fault is placed
placed_limited : (span : Span) (result : Result Outcome ValueFault) → IsLimited result → IsLimited (placed span result)
placed_limited span (Ok outcome) h = h
placed_limited span (Err fault) h = tt

-- a statement
settled_limited : (text : List ℕ) (set : Outcome) (s : StatementTree) (known : Value) → are_targets_in_range set.targets ≡ true
    → IsLimited (settled text set s known)
settled_limited text set (Drops tree) known h = h
settled_limited text set (Sets span tree) known h =
    placed_limited span (with_name set (part text span) (setting_named (part text span)) known)
    (name_limited set h (part text span) (setting_named (part text span)) known)

-- what follows a result
next_limited : {E : Type 0} (go : Outcome → Result Outcome E) (result : Result Outcome E) → IsLimited result
    → ((next : Outcome) → are_targets_in_range next.targets ≡ true → IsLimited (go next)) → IsLimited (result >>= go)
next_limited go (Ok next) h gives = gives next h
next_limited go (Err fault) h gives = tt

-- statements, one after the other
done_limited : (text : List ℕ) (metrics : Metrics) (now : ℕ) (ss : List StatementTree) (set : Outcome) → are_targets_in_range set.targets ≡ true
    → IsLimited (statements_done text metrics now set ss)
done_limited text metrics now [] set h = h
done_limited text metrics now (s ∷ ss) set h =
    by_value (value_of text metrics now set (expression_of s)) (λ next k. done_limited text metrics now ss next k)
  where
    by_value : (result : Result Value Interrupt)
        → ((next : Outcome) → are_targets_in_range next.targets ≡ true → IsLimited (statements_done text metrics now next ss))
        → IsLimited (unless_interrupted set (λ known. settled text set s known >>= (λ next. statements_done text metrics now next ss)) result)
    by_value (Ok known) gives =
        next_limited (λ next. statements_done text metrics now next ss) (settled text set s known) (settled_limited text set s known h) gives
    by_value (Err Stop) gives = h
    by_value (Err (Fault why)) gives = tt

-- what a result has
has_limited : {E : Type 0} (result : Result Outcome E) (outcome : Outcome) → IsLimited result → result ≡ Ok outcome → are_targets_in_range outcome.targets ≡ true
has_limited (Ok other) outcome h e = let is : other ≡ outcome = cc in subst (λ (one : Outcome). are_targets_in_range one.targets ≡ true) is h
has_limited (Err fault) outcome h e = cc

-- the results of statements
pub outcome_limited : (text : List ℕ) (ss : List StatementTree) (metrics : Metrics) (now : ℕ) (start : Targets) (outcome : Outcome)
    → are_targets_in_range start ≡ true → evaluated text ss metrics now start ≡ Ok outcome → are_targets_in_range outcome.targets ≡ true
outcome_limited text ss metrics now start outcome h =
    has_limited (evaluated text ss metrics now start) outcome (done_limited text metrics now ss (at_start start) h)

-- the results of a formula over a pool
pub formula_limited : (s : State) (pool : PoolRow) (text : List ℕ) (outcome : Outcome) → is_pool_in_range pool ≡ true
    → formula_ran s pool text ≡ Ok outcome → are_targets_in_range outcome.targets ≡ true
unfolding formula_ran
formula_limited s pool text outcome h =
    has_limited (formula_ran s pool text) outcome (by_compiled (compiled text))
  where
    start : are_targets_in_range (start_targets pool) ≡ true
    start =
        let range : (is_slot_count pool.slots && is_target pool.dedicated && nat_eq pool.low 0) ≡ true = and_first _ _ (and_first _ _ (and_first _ _ h)) in
        and_true (and_second (is_slot_count pool.slots) (is_target pool.dedicated) (and_first _ (nat_eq pool.low 0) range)) (and_second _ (nat_eq pool.low 0) range)

    without_place : (result : Result Outcome EvalFault) → IsLimited result → IsLimited (or_error result)
    without_place (Ok other) k = k
    without_place (Err fault) k = tt

    by_compiled : (result : Result (List StatementTree) FormulaFault) → IsLimited (statements_ran s pool text result)
    by_compiled (Ok ss) =
        without_place (evaluated text ss (pool_metrics s pool) s.moment (start_targets pool))
        (done_limited text (pool_metrics s pool) s.moment ss (at_start (start_targets pool)) start)
    by_compiled (Err fault) = tt
