-- What statements set.
use Rattle.std.specs.Prelude.{ℕ, nat_le, ℤ, pos, negsuc, List, [], ◌∷◌, Option, Some, None, Result, Ok, Err, if◌then◌else◌}
use Rattle.bt_base.specs.Fails.{◌>>=◌}
use Rattle.bt_base.specs.declared.dealloc_option.Dealloc.{Dealloc}
use Rattle.formula_trees.specs.declared.token.Span.{Span}
use Rattle.formula_trees.specs.Tree.{Tree}
use Rattle.formula_trees.specs.Formula.{StatementTree, Sets, Drops}
use Rattle.formula_trees.specs.declared.names.Setting.{Setting}
use Rattle.formula_trees.specs.declared.names.Setting.TheVariants.{DedicatedNodes, LowPriorityNodes, Deallocation}
use Rattle.formula_trees.specs.Names.{setting_named}
use Rattle.formula_types.specs.Scopes.{part}
use Rattle.formula_values.specs.declared.fault.ValueFault.{ValueFault}
use Rattle.formula_values.specs.declared.fault.ValueFault.TheVariants.{NegativeTarget, TargetTooLarge, NotAnOption}
use Rattle.formula_values.specs.declared.value.Value.{Value}
use Rattle.formula_values.specs.declared.value.Value.TheVariants.{Double, Text}
use Rattle.formula_values.specs.Functions.{floor_of}
use Rattle.formula_metrics.specs.declared.metrics.Metrics.{Metrics}
use Rattle.formula_eval.specs.declared.fault.EvalFault.{EvalFault}
use Rattle.formula_eval.specs.declared.fault.Interrupt.{Interrupt}
use Rattle.formula_eval.specs.declared.fault.Interrupt.TheVariants.{Stop, Fault}
use Rattle.formula_eval.specs.declared.settings.TheConstants.{GREATEST_DEDICATED, GREATEST_LOW}
use Rattle.formula_eval.specs.declared.outcome.Targets.{Targets}
use Rattle.formula_eval.specs.declared.outcome.Outcome.{Outcome}
use Rattle.bt_base.specs.DeallocOptions.{option_named}
use Rattle.formula_eval.specs.Outcomes.{text_in, at_start, with_dedicated, with_low, with_option, set_variable}
use Rattle.formula_eval.specs.Evaluation.{value_of}

-- a whole number of nodes, up to the greatest
abbrev pub target_within : ℕ → ℤ → Result ℕ ValueFault
target_within most (pos target) = if nat_le target most then Ok target else Err TargetTooLarge
target_within most (negsuc below) = Err NegativeTarget

-- a double as a target: it is floored
abbrev pub target_of : ℕ → ℤ → Result ℕ ValueFault
target_of most millionths = target_within most (floor_of millionths)

-- a word as a node deallocation option
abbrev pub chosen_or : Outcome → Option Dealloc → Result Outcome ValueFault
chosen_or set None = Err NotAnOption
chosen_or set (Some chosen) = Ok (with_option set chosen)

-- a setting with a value. Each setting has one type, so that a formula sets it to values of that type alone; others would not change
-- it.
abbrev pub with_setting : Outcome → Setting → Value → Result Outcome ValueFault
with_setting set DedicatedNodes (Double n) = target_of GREATEST_DEDICATED n >>= (λ target. Ok (with_dedicated set target))
with_setting set LowPriorityNodes (Double n) = target_of GREATEST_LOW n >>= (λ target. Ok (with_low set target))
with_setting set Deallocation (Text word) = chosen_or set (option_named word)
with_setting set _ _ = Ok set

-- a result, whose fault is at a token
abbrev pub placed : {X : Type 0} → Span → Result X ValueFault → Result X EvalFault
placed p (Ok x) = Ok x
placed p (Err why) = Err (record { fault = why; place = p.from })

-- a name with a value: a setting, or a variable of the formula's own
abbrev pub with_name : Outcome → List ℕ → Option Setting → Value → Result Outcome ValueFault
with_name set name (Some setting) known = with_setting set setting known
with_name set name None known = Ok (set_variable set (text_in name) known)

-- what is set once the name at this part of the text has the value; a fault is at the name
abbrev pub assigned : List ℕ → Outcome → Span → Value → Result Outcome EvalFault
assigned text set p known = placed p (with_name set (part text p) (setting_named (part text p)) known)

-- the expression of a statement
abbrev pub expression_of : StatementTree → Tree
expression_of (Sets p t) = t
expression_of (Drops t) = t

-- what is set after a statement whose expression has the value; that of an expression without a name is dropped
abbrev pub settled : List ℕ → Outcome → StatementTree → Value → Result Outcome EvalFault
settled text set (Sets p t) known = assigned text set p known
settled text set (Drops t) known = Ok set

-- what follows an expression with a value, or what was set before if `stop()` ends the evaluation, or the fault
abbrev pub unless_interrupted : Outcome → (Value → Result Outcome EvalFault) → Result Value Interrupt → Result Outcome EvalFault
unless_interrupted set go (Ok known) = go known
unless_interrupted set go (Err Stop) = Ok set
unless_interrupted set go (Err (Fault why)) = Err why

-- what is set after statements, one after the other
abbrev pub statements_done : List ℕ → Metrics → ℕ → Outcome → List StatementTree → Result Outcome EvalFault
statements_done text metrics now set [] = Ok set
statements_done text metrics now set (s ∷ ss) =
    unless_interrupted set
    (λ known. settled text set s known >>= (λ next. statements_done text metrics now next ss))
    (value_of text metrics now set (expression_of s))

-- the results of a formula
abbrev pub evaluated : List ℕ → List StatementTree → Metrics → ℕ → Targets → Result Outcome EvalFault
evaluated text ss metrics now start = statements_done text metrics now (at_start start) ss
